-- A direction that `unit` accepts has three numbers of at most 1 in size: of 32-bit numbers the squares are exact, a sum is no smaller than one of them, and so the length no smaller than the number. Assumes nothing.
use Rattle.std.proofs.Common.{◌≡◌, ℕ, ◌*◌, ◌^◌, ◌<◌, ◌≤◌, Bool, true, false, cond, not, ◌||◌, T, [], ◌∷◌, length, sym, refl, subst, inl, inr, zero-le, le_trans, le_of_eq, le-add_right, lt_of_le_of_lt, add-le-add, mul-le-mul_right, mul_comm, eq-zero-or-pos, le-add_left, arith, lit<, lit≤, T_not, None, Some, IfSome}
use lib.Ieee.{Float, binary32, binary64, unlike, add, mul, div, le, fits, of_bits}
use lib.Ieee.Fits.{add-fits}
use lib.Ieee.Scale.{finite}
use Rattle.float_order.specs.Values.{is_finite}
use Rattle.vector.specs.Vector.{Vector, x, y, z, dot_in, dot_of, over_of, length_of, shortest, unit_of}
use Rattle.float_bounds.proofs.Units.{Val, div_round}
use Rattle.float_bounds.proofs.Held.{held}
use Rattle.float_bounds.proofs.Size.{Mag, round_mag, sum_val}
use Rattle.float_bounds.proofs.Compare.{val_le, not_le_val}
use Rattle.float_bounds.proofs.Finite.{finite_is, add_finite, square_finite, sqrt_finite}
use Rattle.float_bounds.proofs.Square.{SquareOf, square_of_lem}
use Rattle.float_bounds.proofs.Root.{RootOf, sqrt_val, sqrt_zero}
use Rattle.lists.proofs.Each.{each_get_d}
use Rattle.lists.specs.Lists.{Each}

-- 1, in smallest values
abbrev pub L : ℕ
L = 2 ^ 1074

-- three numbers of at most 1 in size, in 64 bits
pub record Direction (d : Vector) : Type 0 where
  pub three : length d ≡ 3
  pub unit : Each (λ v. Mag binary64 v L) d

module _ {d : Vector} (h : Direction d) where
  pub x_mag : Mag binary64 (x d) L
  x_mag = let e = h.three in each_get_d (λ v. Mag binary64 v L) d 0 _ (omega arith) h.unit

  pub y_mag : Mag binary64 (y d) L
  y_mag = let e = h.three in each_get_d (λ v. Mag binary64 v L) d 1 _ (omega arith) h.unit

  pub z_mag : Mag binary64 (z d) L
  z_mag = let e = h.three in each_get_d (λ v. Mag binary64 v L) d 2 _ (omega arith) h.unit

-- 1e-6, in smallest values
short : Val binary64 shortest false (4722366482869645 * 2 ^ 1002)
unfolding of_bits
short = record { has = (refl, refl) }

-- ---- the length of three numbers whose squares are exact

module _ {a b c : Float} (p : SquareOf a) (q : SquareOf b) (r : SquareOf c) where
  -- as R smallest values
  record Long : Type 0 where
    pub R : ℕ
    pub val : Val binary64 (length_of (a ∷ b ∷ c ∷ [])) false R
    pub first : p.X ≤ R
    pub second : q.X ≤ R
    pub third : r.X ≤ R

  some_long : {S : ℕ} → T (fits binary64 (dot_of (a ∷ b ∷ c ∷ []) (a ∷ b ∷ c ∷ []))) → Val binary64 (dot_of (a ∷ b ∷ c ∷ []) (a ∷ b ∷ c ∷ [])) false S → p.n ≤ S → q.n ≤ S → r.n ≤ S → 0 < S → Long
  unfolding length_of
  some_long {S} f v i j k pos =
      let w = sqrt_val f v pos in
      record { R = w.R; val = w.val; first = under w p i; second = under w q j; third = under w r k }
    where
      under : {e : Float} (w : RootOf binary64 (dot_of (a ∷ b ∷ c ∷ []) (a ∷ b ∷ c ∷ [])) S) (m : SquareOf e) → m.n ≤ S → m.X ≤ w.R
      under w m l = w.least m.X m.held (lt_of_le_of_lt m.most (lit< tt)) (le_trans (le_of_eq (sym m.is)) (mul-le-mul_right L l))

  long_enough_lem : T (not (le (length_of (a ∷ b ∷ c ∷ [])) shortest)) → Long
  unfolding length_of dot_of dot_in
  long_enough_lem above =
      let i = sum_val (2 ^ 1331) p.square q.square (held binary64 1 1331 (lit≤ tt)) (lit< tt) (le_trans (add-le-add p.square_most q.square_most) (lit≤ tt)) in
      let j = sum_val (2 ^ 1332) i.val r.square (held binary64 1 1332 (lit≤ tt)) (lit< tt) (le_trans (add-le-add i.most r.square_most) (lit≤ tt)) in
      elim (eq-zero-or-pos j.Z) [
        | inl e ↦ absurd (T_not (le (length_of (a ∷ b ∷ c ∷ [])) shortest) above (val_le (sqrt_zero (subst (λ (S : ℕ). Val binary64 (dot_of (a ∷ b ∷ c ∷ []) (a ∷ b ∷ c ∷ [])) false S) e j.val)) short zero-le))
        | inr g ↦
            some_long (add-fits binary64 (add binary64 (mul binary64 a a) (mul binary64 b b)) (mul binary64 c c)) j.val
            (j.least p.n p.square_held (le_trans (i.least p.n p.square_held (le-add_right p.n q.n)) (le-add_right i.Z r.n)))
            (j.least q.n q.square_held (le_trans (i.least q.n q.square_held (le-add_left q.n p.n)) (le-add_right i.Z r.n)))
            (j.least r.n r.square_held (le-add_left r.n i.Z)) g
      ]

  unit_three : T (not (le (length_of (a ∷ b ∷ c ∷ [])) shortest)) → Direction (over_of (a ∷ b ∷ c ∷ []) (length_of (a ∷ b ∷ c ∷ [])))
  unfolding over_of
  unit_three above =
      let l = long_enough_lem above in
      let pos : 0 < l.R = lt_of_le_of_lt zero-le (not_le_val l.val short above) in
      record { three = refl; unit = (over p l.val l.first pos, (over q l.val l.second pos, (over r l.val l.third pos, tt))) }
    where
      over : {e l : Float} {R : ℕ} (m : SquareOf e) → Val binary64 l false R → m.X ≤ R → 0 < R → Mag binary64 (div binary64 e l) L
      over {e} {l} {R} m v h k =
          round_mag (unlike m.s false) m.X R L (div_round m.val v k) k (held binary64 1 1074 (lit≤ tt)) (lit< tt) (le_trans (mul-le-mul_right L h) (le_of_eq (mul_comm R L)))

-- ---- what `unit` accepts

abbrev Fits : Float → Type 0
Fits v = T (fits binary32 v)

finite_three : (a b c : Float) → T (finite (length_of (a ∷ b ∷ c ∷ []))) → T (finite a) × T (finite b) × T (finite c)
unfolding length_of dot_of dot_in
finite_three a b c h =
    let s = sqrt_finite binary64 (add binary64 (add binary64 (mul binary64 a a) (mul binary64 b b)) (mul binary64 c c)) h in
    let i = add_finite binary64 (add binary64 (mul binary64 a a) (mul binary64 b b)) (mul binary64 c c) s in
    let j = add_finite binary64 (mul binary64 a a) (mul binary64 b b) i.0 in
    (square_finite binary64 a j.0, square_finite binary64 b j.1, square_finite binary64 c i.1)

pub unit_direction : (d : Vector) → length d ≡ 3 → Each Fits d → IfSome (unit_of d) Direction
unfolding unit_of
unit_direction [] e h = absurd (omega arith)
unit_direction (a ∷ []) e h = absurd (omega arith)
unit_direction (a ∷ (b ∷ [])) e h = absurd (omega arith)
unit_direction (a ∷ (b ∷ (c ∷ []))) e h = by (le (length_of (a ∷ b ∷ c ∷ [])) shortest) (is_finite (length_of (a ∷ b ∷ c ∷ []))) (λ g. g) (λ g. g)
  where
    by : (s f : Bool) → (T (not s) → T (not (le (length_of (a ∷ b ∷ c ∷ [])) shortest))) → (T f → T (is_finite (length_of (a ∷ b ∷ c ∷ []))))
        → IfSome (cond (s || not f) None (Some (over_of (a ∷ b ∷ c ∷ []) (length_of (a ∷ b ∷ c ∷ []))))) Direction
    by true f k g = tt
    by false false k g = tt
    by false true k g =
        let m = finite_three a b c (finite_is (length_of (a ∷ b ∷ c ∷ [])) (g tt)) in
        unit_three (square_of_lem a m.0 h.0) (square_of_lem b m.1 h.1.0) (square_of_lem c m.2 h.1.1.0) (k tt)
unit_direction (a ∷ (b ∷ (c ∷ (d ∷ l)))) e h = absurd (omega arith)
