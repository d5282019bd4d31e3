-- `sqrt_of` means what specs/Meaning.antt states: no value of the format is nearer to the exact root, and of two equally near the even one is taken.
-- With q the root's whole part in units of 2 ^ k smallest values, no value lies between q and q + 1 of them, and the result is q or q + 1 of them. Assumes nothing.
use mathlib.Core.Path.{◌≡◌, refl, sym, ap, ◌∙◌, subst}
use mathlib.Core.Logic.{inl, inr}
use Prim.Native.Nat.{ℕ, zero, suc, ◌+◌, ◌-◌, ◌*◌, ◌/◌, ◌%◌, ◌^◌, ◌≤◌, ◌<◌, compare, Ordering}
use native.Mathlib.Nat.{le_refl, le_trans, le_of_eq, le_of_lt, lt_of_lt_of_le, lt_of_le_of_lt, not-le_of_lt, mul_comm, mul_right_comm, mul-pos, mul-le-mul, mul-le-mul_right, mul-lt-mul_of_pos_right, div-lt_iff_lt-mul, div-mul-le_self, zero-mul, lt_of_mul-lt-mul_right}
use native.Mathlib.Omega.{arith}
use mathlib.Core.Bool.{Bool, false, ◌&&◌}
use lib.Dec.{lit≤, lit<, T, leb, ltb, eqb, ltb→lt}
use lib.Pow.{pow-add, pow_pos, pow_mono, pow-lt}
use lib.Ieee.{Float, nan, inf, fin, Format, binary32, binary64, prec, emax, low, up, down, size, nearest, fits}
use lib.Ieee.Digits.{size-le}
use lib.Ieee.Nearest.{nearest-ge}
use lib.Ieee.Fits.{two, kept-lt, nearest-le, down_pos, and_r}
use lib.Ieee.Exact.{units_val}
use Rattle.float_root.specs.Root.{whole_root, round_root}
use Rattle.float_widths.specs.Meaning.{InSmallest}
use Rattle.float_root.specs.Meaning.{RootRounded, SqrtNearest}
use Rattle.float_order.proofs.Laws.{units_fits}
use Rattle.float_root_digits.proofs.Squares.{sq_lt, sq_suc, sq_twice}
use Rattle.float_root.proofs.Root.{root_is}
use Rattle.float_root.proofs.Sqrt.{of_positive}
use Rattle.float_widths.proofs.Grid.{OnGrid, on_grid, gap, closer, Strict, tie_even, Cmp, cmp, picks, leading, le_or_lt, units_size, units_even}

-- ---- `round_root`: what it keeps of the root of n is r * 2 ^ k smallest values
module _ (f : Format) (n : ℕ) where
  abbrev root_dropped : ℕ
  root_dropped = size (whole_root n) - prec f

  abbrev root_whole : ℕ
  root_whole = whole_root n / 2 ^ root_dropped

  abbrev root_middle : ℕ
  root_middle = (2 * root_whole + 1) * 2 ^ root_dropped

  abbrev root_kept : ℕ
  root_kept = nearest root_whole (compare (n * 4) (root_middle * root_middle))

  four_times : (a : ℕ) → 2 * a * (2 * a) ≡ a * a * 4
  four_times a = sq_twice a ∙ mul_comm 4 (a * a)

  above_root : 2 * (root_whole * 2 ^ root_dropped) * (2 * (root_whole * 2 ^ root_dropped)) ≤ n * 4
  above_root =
      let a = div-mul-le_self (whole_root n) (2 ^ root_dropped) in
      le_trans (le_of_eq (four_times (root_whole * 2 ^ root_dropped))) (mul-le-mul_right 4 (le_trans (mul-le-mul a a) (root_is n).0))

  below_root : n * 4 ≤ 2 * (suc root_whole * 2 ^ root_dropped) * (2 * (suc root_whole * 2 ^ root_dropped))
  below_root =
      let b : suc (whole_root n) ≤ suc root_whole * 2 ^ root_dropped = (div-lt_iff_lt-mul (pow_pos root_dropped)).0 (le_refl (suc root_whole)) in
      le_trans (mul-le-mul_right 4 (le_of_lt (lt_of_lt_of_le (root_is n).1 (mul-le-mul b b)))) (le_of_eq (sym (four_times (suc root_whole * 2 ^ root_dropped))))

  root_kept_le : root_kept ≤ 2 ^ prec f
  root_kept_le = le_trans (nearest-le root_whole (compare (n * 4) (root_middle * root_middle))) (kept-lt (prec f) (whole_root n))

  root_near : (Y : ℕ) → OnGrid f Y
      → (root_kept * 2 ^ root_dropped < Y → n * 4 ≤ (root_kept * 2 ^ root_dropped + Y) * (root_kept * 2 ^ root_dropped + Y)) × (Y < root_kept * 2 ^ root_dropped → (root_kept * 2 ^ root_dropped + Y) * (root_kept * 2 ^ root_dropped + Y) ≤ n * 4)
  root_near Y y =
      closer (λ x. n * 4 ≤ x * x) (λ x. x * x ≤ n * 4) (λ a b l m. le_trans m (mul-le-mul l l)) (λ a b l m. le_trans (mul-le-mul l l) m) root_whole root_dropped root_kept Y above_root below_root
      (picks root_whole (compare (n * 4) (root_middle * root_middle)) (n * 4) (root_middle * root_middle) (cmp (n * 4) (root_middle * root_middle)))
      (gap f root_whole root_dropped Y (λ z. leading (prec f) (whole_root n) (two f) z) y)

  root_even : (Y : ℕ) → OnGrid f Y → (root_kept * 2 ^ root_dropped ≡ Y → ⊥) → n * 4 ≡ (root_kept * 2 ^ root_dropped + Y) * (root_kept * 2 ^ root_dropped + Y) → root_kept % 2 ≡ 0
  root_even Y y ne e =
      tie_even (λ x. n * 4 ≤ x * x) (λ x. x * x ≤ n * 4) (λ a b l m. le_trans m (mul-le-mul l l)) (λ a b l m. le_trans (mul-le-mul l l) m)
      (λ a b l m g. not-le_of_lt l (le_of_square b a (le_trans g m)))
      root_whole root_dropped Y (compare (n * 4) (root_middle * root_middle)) above_root below_root
      (strict (compare (n * 4) (root_middle * root_middle)) (cmp (n * 4) (root_middle * root_middle)))
      (gap f root_whole root_dropped Y (λ z. leading (prec f) (whole_root n) (two f) z) y) ne (le_of_eq e) (le_of_eq (sym e))
    where
      le_of_square : (a b : ℕ) → a * a ≤ b * b → a ≤ b
      le_of_square a b h = elim (le_or_lt a b) [ inl g ↦ g | inr g ↦ absurd (square_lt b a g h) ]
        where
          square_lt : (b a : ℕ) → b < a → a * a ≤ b * b → ⊥
          square_lt b a g h = let s = sq_suc b in let t = mul-le-mul g g in omega arith

      strict : (o : Ordering) → Cmp o (n * 4) (root_middle * root_middle) → Strict (λ x. n * 4 ≤ x * x) (λ x. x * x ≤ n * 4) o root_middle
      strict Ordering.lt c = λ g. not-le_of_lt c g
      strict Ordering.eq c = tt
      strict Ordering.gt c = λ g. not-le_of_lt c g

-- a root has half the digits: it is never too large
root_under : (f : Format) (n : ℕ) → n < 2 ^ (low f + suc (emax f)) * 2 ^ low f → root_kept f n * 2 ^ root_dropped f n < 2 ^ (low f + suc (emax f))
root_under f n h =
    let t = whole_root n in
    let l = low f + suc (emax f) - 1 in
    let a : t < 2 ^ l = sq_lt t (2 ^ l) (lt_of_le_of_lt (root_is n).0 (lt_of_lt_of_le h (le_trans (le_of_eq (sym (pow-add 2 (low f + suc (emax f)) (low f)))) (le_trans (pow_mono (wide f)) (le_of_eq (pow-add 2 l l)))))) in
    let b : prec f + root_dropped f n ≤ l = top_digits (size t) (prec f) l (size-le t l a) (deep f) in
    lt_of_le_of_lt (mul-le-mul_right (2 ^ root_dropped f n) (root_kept_le f n)) (lt_of_le_of_lt (le_of_eq (sym (pow-add 2 (prec f) (root_dropped f n)))) (lt_of_le_of_lt (pow_mono b) (pow-lt (last f))))
  where
    wide : (f : Format) → low f + suc (emax f) + low f ≤ low f + suc (emax f) - 1 + (low f + suc (emax f) - 1)
    wide binary32 = lit≤ tt
    wide binary64 = lit≤ tt

    deep : (f : Format) → prec f ≤ low f + suc (emax f) - 1
    deep binary32 = lit≤ tt
    deep binary64 = lit≤ tt

    last : (f : Format) → low f + suc (emax f) - 1 < low f + suc (emax f)
    last binary32 = lit< tt
    last binary64 = lit< tt

    top_digits : (z p l : ℕ) → z ≤ l → p ≤ l → p + (z - p) ≤ l
    top_digits z p l a b = omega arith

-- a finite value of the format is below 2 ^ (emax + 1)
value_under : (f : Format) (x : Float) (s : Bool) (X : ℕ) → T (fits f x) → InSmallest f s x X → 0 < X → X < 2 ^ (low f + suc (emax f))
unfolding fits
value_under f nan s X h v p = absurd v
value_under f (inf t) s X h v p = absurd v
value_under f (fin t zero e) s X h v p =
    absurd (not-le_of_lt (mul-pos p (down_pos e)) (le_of_eq (sym v.1 ∙ ap (λ (x : ℕ). x * 2 ^ low f) (zero-mul (up e)) ∙ zero-mul (2 ^ low f))))
value_under f (fin t (suc m) e) s X h v p =
    let A = eqb (suc m % 2) 1 && ltb (suc m) (2 ^ prec f) && leb (down e) (2 ^ low f) in
    let b : suc m * up e < 2 ^ suc (emax f) * down e = ltb→lt (suc m * up e) (2 ^ suc (emax f) * down e) (and_r A (ltb (suc m * up e) (2 ^ suc (emax f) * down e)) h) in
    lt_of_mul-lt-mul_right (down e)
    (lt_of_le_of_lt (le_of_eq (sym v.1))
    (lt_of_lt_of_le (mul-lt-mul_of_pos_right b (pow_pos (low f)))
    (le_of_eq (mul_right_comm (2 ^ suc (emax f)) (down e) (2 ^ low f) ∙ ap (λ (x : ℕ). x * down e) (mul_comm (2 ^ suc (emax f)) (2 ^ low f) ∙ sym (pow-add 2 (low f) (suc (emax f))))))))

pub sqrt_nearest : SqrtNearest
unfolding round_root
sqrt_nearest f x X h v p =
    subst (RootRounded f (X * 2 ^ low f)) (of_positive f x false X v refl p) (rounded f (X * 2 ^ low f) (mul-lt-mul_of_pos_right (value_under f x false X h v p) (pow_pos (low f))))
  where
    rounded : (f : Format) (n : ℕ) → n < 2 ^ (low f + suc (emax f)) * 2 ^ low f → RootRounded f n (round_root f n)
    rounded f n h =
        let r = root_kept f n in
        let k = root_dropped f n in
        record {
          held = units_fits f false r k (root_kept_le f n);
          found = (r * 2 ^ k, units_val f false r k (root_under f n h));
          near = λ R Y y v g w. subst (λ (x : ℕ). (x < Y → n * 4 ≤ (x + Y) * (x + Y)) × (Y < x → (x + Y) * (x + Y) ≤ n * 4)) (sym (units_size f false false r k R v)) (root_near f n Y (on_grid f y false Y g w));
          even = λ R Y y v g w ne e.
              let t = units_size f false false r k R v in
              units_even f false r k (root_kept_le f n) (λ z. le_trans (leading (prec f) (whole_root n) (two f) z) (nearest-ge (root_whole f n) (compare (n * 4) (root_middle f n * root_middle f n))))
              (root_even f n Y (on_grid f y false Y g w) (λ q. ne (t ∙ q)) (e ∙ ap (λ (x : ℕ). (x + Y) * (x + Y)) t));
        }
