-- A planar row is finite: each gain over the norm is at most 2, since the norm is at least half of it; and the spread takes no gain above 2 ^ 40. Assumes nothing.
use mathlib.Core.Path.{◌≡◌, refl, sym, subst}
use mathlib.Core.Logic.{inl, inr}
use Prim.Native.Nat.{ℕ, suc, ◌-◌, ◌*◌, ◌^◌, ◌≤◌, ◌<◌, zero-le}
use native.Mathlib.Nat.{le_trans, le_of_eq, add-le-add, le-add_right, le-add_left, le_of_lt, lt_of_lt_of_le, lt_of_le_of_lt, mul-pos, mul-le-mul, mul-le-mul_right, one-mul, eq-zero-or-pos, not-suc-le-zero}
use native.Mathlib.Omega.{arith}
use mathlib.Core.Bool.{Bool, true, false, not, ◌&&◌, cond}
use mathlib.Core.List.{List, [], ◌∷◌, foldl}
use lib.Dec.{T, lit≤, lit<}
use lib.Pow.{pow_pos}
use lib.ListN.{length, set, replicate}
use lib.Ieee.{Float, nan, binary32, size, unlike, add, sub, mul, div, lt, fits, of_bits}
use lib.Ieee.Fits.{add-fits}
use lib.Ieee.Scale.{grid, finite}
use Rattle.lists.specs.Lists.{is_empty, last, Each}
use Rattle.float_order.specs.Values.{+0, 1·0, count32}
use Rattle.float_order.specs.Order.{square_of}
use Rattle.float_root.specs.Root.{sqrt_of}
use Rattle.layout_planar.specs.declared.PlanarPair.{PlanarPair}
use Rattle.row_places.specs.Places.{add_at}
use Rattle.row_planar.specs.PlanarRow.{planar_max_elevation, half_pi32, least_pair_norm, contains, chosen, Two, by_law, planar_spread, spread_gain, spread_at, spread, pair_row, planar_row}
use Rattle.float_bounds.proofs.Units.{Val, units_of, mul_round, div_round, round_Val}
use Rattle.float_bounds.proofs.Held.{held, fits_held, grid_held, grid_le}
use Rattle.float_bounds.proofs.Size.{Mag, Most, most_of, most_sign, val_mag, mag_more, mag_add, mag_mul, mag_div, mul_most, times_most, square_most, rest_most, div_most, most_absorb, round_mag, sum_val, unlike_self}
use Rattle.float_bounds.proofs.Compare.{lt_val, abs_val, from_zero_mag}
use Rattle.float_bounds.proofs.Root.{sqrt_val, sqrt_zero}
use Rattle.float_bounds.proofs.Norm.{norm_part}
use Rattle.float_bounds.proofs.Sine.{sin32_mag}
use Rattle.float_bounds.proofs.Top.{top32, mag_top, mag_sub_top}
use Rattle.float_bounds.proofs.Order.{clamp_unit, count_val}
use Rattle.theorem_layouts.specs.Sound.{SoundPair}
use Rattle.lists.proofs.Each.{each_get_d, each_first, each_last, each_set, foldl_always}
use Rattle.theorem_rows.proofs.Places.{Row, zeros, add_at_lem}
use Rattle.theorem_rows.proofs.Pairs.{L, half_mag, Gain, Gains, pair_gains}

-- ---- over the norm

-- a square, by its number
square_val : {x : Float} {s : Bool} {X : ℕ} → Val binary32 x s X → X ≤ 2 ^ 32 * L → Val binary32 (square_of x) false (grid binary32 (X * X) (L * L)) × (grid binary32 (X * X) (L * L) ≤ 2 ^ 64 * L)
unfolding square_of
square_val {x} {s} {X} v l =
    let Q = grid binary32 (X * X) (L * L) in
    let Q-le : Q ≤ 2 ^ 64 * L = grid_le binary32 (X * X) (L * L) (2 ^ 64 * L) (mul-pos (pow_pos 149) (pow_pos 149)) (held binary32 1 213 (lit≤ tt)) (lit< tt) (le_trans (mul-le-mul_right L (mul-le-mul l l)) (lit≤ tt)) in
    (subst (λ (b : Bool). Val binary32 (mul binary32 x x) b Q) (unlike_self s) (subst (λ (z : Float). Val binary32 z (unlike s s) Q) (sym (mul_round v v)) (round_Val binary32 (unlike s s) (X * X) (L * L) (lt_of_le_of_lt Q-le (lit< tt)))), Q-le)

abbrev norm_of : Float → Float → Float
norm_of a b = sqrt_of binary32 (add binary32 (square_of a) (square_of b))

record Over (a b : Float) : Type 0 where
  pub first : Mag binary32 (div binary32 a (norm_of a b)) (2 * L)
  pub second : Mag binary32 (div binary32 b (norm_of a b)) (2 * L)

module _ {a b : Float} (p : Gain a) (q : Gain b) (above : T (lt least_pair_norm (norm_of a b))) where
  over_norm : Over a b
  unfolding of_bits
  over_norm =
      let i = square_val p.most.val p.most.most in
      let j = square_val q.most.val q.most.most in
      let X = p.most.X in
      let Y = q.most.X in
      let A = grid binary32 (X * X) (L * L) in
      let B = grid binary32 (Y * Y) (L * L) in
      let s = sum_val (2 ^ 65 * L) i.0 j.0 (held binary32 1 214 (lit≤ tt)) (lit< tt) (le_trans (add-le-add i.1 j.1) (lit≤ tt)) in
      elim (eq-zero-or-pos s.Z) [
        | inl e ↦ absurd (not-suc-le-zero (lt_val {X = units_of binary32 least_pair_norm} (record { has = (refl, refl) }) (sqrt_zero (subst (λ (S : ℕ). Val binary32 (add binary32 (square_of a) (square_of b)) false S) e s.val)) above))
        | inr g ↦
            let r = sqrt_val (add-fits binary32 (square_of a) (square_of b)) s.val g in
            let R-ge : 2 ^ 109 ≤ r.R = le_trans (lit≤ tt) (le_of_lt (lt_val {X = units_of binary32 least_pair_norm} (record { has = (refl, refl) }) r.val above)) in
            let pos : 0 < r.R = lt_of_lt_of_le (lit< tt) R-ge in
            record {
              first = quotient p.most r.val pos (norm_part X s.Z (fits_held binary32 a p.fit p.most.val) (lt_of_le_of_lt p.most.most (lit< tt)) (s.least A (grid_held binary32 (X * X) (L * L)) (le-add_right A B)) r R-ge);
              second = quotient q.most r.val pos (norm_part Y s.Z (fits_held binary32 b q.fit q.most.val) (lt_of_le_of_lt q.most.most (lit< tt)) (s.least B (grid_held binary32 (Y * Y) (L * L)) (le-add_left B A)) r R-ge);
            }
      ]
    where
      quotient : {x l : Float} {R : ℕ} (m : Most binary32 x false (2 ^ 32 * L)) → Val binary32 l false R → 0 < R → m.X ≤ 2 * R → Mag binary32 (div binary32 x l) (2 * L)
      quotient {x} {l} {R} m v k h =
          round_mag false m.X R (2 * L) (div_round m.val v k) k (held binary32 2 149 (lit≤ tt)) (lit< tt) (le_trans (mul-le-mul_right L h) (le_of_eq (turn R L)))
        where
          turn : (R l : ℕ) → 2 * R * l ≡ 2 * l * R
          turn R l = omega arith

-- ---- the spread

-- from 0 to 1, of any finite elevation
pub spread_most : (el : Float) → T (finite el) → T (fits binary32 el) → Most binary32 (planar_spread el) false L
unfolding planar_spread square_of of_bits sub
spread_most el ok fit =
    let e = mag_top el ok fit in
    let low : Mag binary32 planar_max_elevation (2 ^ 100 * L) = val_mag {X = units_of binary32 planar_max_elevation} (2 ^ 100 * L) (record { has = (refl, refl) }) (lit≤ tt) in
    let d = mag_sub_top (val_mag top32 (abs_val e.val) e.most) low in
    let t = clamp_unit (mag_div top32 L d rest_val (lit≤ tt) (lit< tt) (held binary32 (2 ^ 24 - 1) 253 (lit≤ tt)) (lit< tt) (lit≤ tt)) in
    let a = mag_mul (2 * L) (from_zero_mag t) half_mag (held binary32 2 149 (lit≤ tt)) (lit< tt) (lit≤ tt) in
    square_most (most_of (sin32_mag a)) (held binary32 1 149 (lit≤ tt)) (lit< tt)
  where
    rest_val : Val binary32 (sub binary32 half_pi32 planar_max_elevation) false (units_of binary32 (sub binary32 half_pi32 planar_max_elevation))
    rest_val = record { has = (refl, refl) }

abbrev pub B40 : ℕ
B40 = 2 ^ 40 * L

unlike_twice : (s : Bool) → unlike (unlike false s) s ≡ false
unlike_twice true = refl
unlike_twice false = refl

-- √((1 − w)·g·g + d2) is at most 2 ^ 40 where g is
spread_one : {w d2 g : Float} → Most binary32 w false L → Most binary32 d2 false L → Mag binary32 g B40 → Mag binary32 (sqrt_of binary32 (add binary32 (mul binary32 (mul binary32 (sub binary32 1·0 w) g) g) d2)) B40
unfolding size
spread_one {w} {d2} {g} h k m =
    let one : Most binary32 (sub binary32 1·0 w) false L = rest_most (record { has = (refl, refl) }) h (held binary32 1 149 (lit≤ tt)) (lit< tt) in
    let p = mul_most one (most_of m) (held binary32 1 189 (lit≤ tt)) (lit< tt) in
    let q = most_sign (unlike_twice m.s) (times_most (2 ^ 80 * L) p (most_of m) (held binary32 1 229 (lit≤ tt)) (lit< tt) (lit≤ tt)) in
    let s = most_absorb q k (lit≤ tt) (lit< tt) in
    elim (eq-zero-or-pos s.X) [
      | inl e ↦ val_mag B40 (sqrt_zero (subst (λ (S : ℕ). Val binary32 (add binary32 (mul binary32 (mul binary32 (sub binary32 1·0 w) g) g) d2) false S) e s.val)) zero-le
      | inr n ↦
          let r = sqrt_val (add-fits binary32 (mul binary32 (mul binary32 (sub binary32 1·0 w) g) g) d2) s.val n in
          val_mag B40 r.val (r.most B40 (held binary32 1 189 (lit≤ tt)) (lit< tt) (le_trans (mul-le-mul_right L s.most) (lit≤ tt)))
    ]

spread_row : (w : Float) (slots : List ℕ) (row : List Float) → Most binary32 w false L → length slots ≤ 40 → Row B40 row → Row B40 (spread w slots row)
unfolding spread spread_at spread_gain is_empty
spread_row w slots row h few m = by slots few (lt +0 w)
  where
    some : (n : ℕ) → 1 ≤ suc n
    some n = omega arith

    every : (d2 : Float) → Most binary32 d2 false L → (l : List ℕ) (r : List Float) → Row B40 r → Row B40 (foldl (spread_at w d2) r l)
    every d2 k l r e =
        let P : Float → Type 0 = λ g. Mag binary32 g B40 in
        foldl_always (Row B40) (spread_at w d2) (λ r s e. each_set P r s _ e (λ i. spread_one h k (each_get_d P r s nan i e))) l r e

    by : (ss : List ℕ) → length ss ≤ 40 → (b : Bool) → Row B40 (cond (b && not (is_empty ss)) (foldl (spread_at w (div binary32 w (count32 (length ss)))) row ss) row)
    by ss f false = m
    by [] f true = m
    by (s ∷ l) f true =
        every (div binary32 w (count32 (suc (length l)))) (div_most L L h (count_val (suc (length l)) (le_trans f (lit≤ tt))) (le_trans (le_of_eq (sym (one-mul L))) (mul-le-mul_right L (some (length l)))) (lit< tt) (held binary32 1 149 (lit≤ tt)) (lit< tt) (lit≤ tt)) (s ∷ l) row m

-- ---- the row of a pair, and of a layout

pair_row_lem : (n : ℕ) (el : Float) (p : PlanarPair) (t : Two) (slots : List ℕ) → T (finite el) → T (fits binary32 el) → Gains t → length slots ≤ 40 → Row B40 (pair_row n el p t slots)
unfolding pair_row
pair_row_lem n el p t slots ok fit g few = by (lt least_pair_norm (norm_of t.ga t.gb)) (λ c. over_norm g.a g.b c)
  where
    two : {v : Float} → Mag binary32 v (2 * L) → (u : Float) → Mag binary32 u (2 * L) → Mag binary32 (add binary32 u v) B40
    two h u k = mag_more (lit≤ tt) (mag_add (4 * L) k h (held binary32 4 149 (lit≤ tt)) (lit< tt) (lit≤ tt))

    by : (b : Bool) → (T b → Over t.ga t.gb)
        → Row B40 (cond b (spread (planar_spread el) slots (add_at (set (replicate n +0) p.a (div binary32 t.ga (norm_of t.ga t.gb))) p.b (div binary32 t.gb (norm_of t.ga t.gb)))) (replicate n +0))
    by true k =
        let o = k tt in
        spread_row (planar_spread el) slots (add_at (set (replicate n +0) p.a (div binary32 t.ga (norm_of t.ga t.gb))) p.b (div binary32 t.gb (norm_of t.ga t.gb))) (spread_most el ok fit) few
        (add_at_lem (2 * L) B40 (set (replicate n +0) p.a (div binary32 t.ga (norm_of t.ga t.gb))) p.b (div binary32 t.gb (norm_of t.ga t.gb)) (lit≤ tt)
        (each_set (λ v. Mag binary32 v (2 * L)) (replicate n +0) p.a (div binary32 t.ga (norm_of t.ga t.gb)) (zeros (2 * L) n) (λ _. o.first)) (two o.second))
    by false k = zeros B40 n

-- the pair that is chosen is one of them
pub chosen_each : (P : PlanarPair → Type 0) (az : Float) (q : PlanarPair) (l : List PlanarPair) → Each P (q ∷ l) → P (chosen az (q ∷ l))
unfolding chosen last
chosen_each P az q l e = each_first P (contains az) (q ∷ l) (last l q) e (each_last P l q e.0 e.1)

pub planar_row_lem : (n : ℕ) (az el : Float) (pairs : List PlanarPair) (slots : List ℕ) → T (finite az) → T (fits binary32 az) → T (finite el) → T (fits binary32 el) → Each (SoundPair slots) pairs → length slots ≤ 40 → Row B40 (planar_row n az el pairs slots)
unfolding planar_row is_empty
planar_row_lem n az el [] slots a b c d e few = zeros B40 n
planar_row_lem n az el (q ∷ l) slots a b c d e few =
    let p = chosen az (q ∷ l) in
    pair_row_lem n el p (by_law az p p.law) slots c d (pair_gains az a b p (chosen_each (SoundPair slots) az q l e)) few
