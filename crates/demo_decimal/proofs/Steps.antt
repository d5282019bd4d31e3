-- Laws of `closest` and of `decimal_of`: a float of R / 2 ^ 149 in size has as many steps as that fraction. Assumes nothing.
use mathlib.Core.Path.{◌≡◌, sym, ap, ◌∙◌}
use mathlib.Core.Bool.{Bool, cond}
use Prim.Native.Nat.{ℕ, ◌+◌, ◌*◌, ◌/◌, ◌%◌, ◌^◌, ◌≤◌, ◌<◌}
use native.Mathlib.Nat.{le_of_eq, lt_of_le_of_lt, lt_of_lt_of_le, le_trans, mul_assoc, mul_right_comm, mul-le-mul_right, mul-lt-mul_of_pos_right, lt_of_mul-lt-mul_right, le_of_mul-le-mul_right}
use native.Mathlib.Omega.{arith}
use borrow.Author.Tests.{lt-ltb, le-ltb}
use lib.Pow.{pow-add, pow_pos}
use lib.Ieee.{Float, nan, inf, fin, up, down, nearest}
use lib.Ieee.Fits.{down_pos}
use lib.Ieee.Exact.{HasValue}
use lib.Ieee.Nearest.{closest, closest_same}
use Rattle.float_order.proofs.Laws.{is_lt, is_gt, is_eq}
use Rattle.demo_decimal.specs.declared.Size.TheVariants.{Steps, Large}
use Rattle.demo_decimal.specs.Decimal.{decimal_of}

-- ---- the nearest whole number, by twice the remainder
module _ (p d : ℕ) where
  pub below_half : p % d * 2 < d → p / d ≡ closest p d
  below_half h = ap (nearest (p / d)) (sym (is_lt (p % d * 2) d h))

  pub at_half : p % d * 2 ≡ d → p / d + p / d % 2 ≡ closest p d
  at_half h = ap (nearest (p / d)) (sym (is_eq (p % d * 2) d h))

  pub above_half : d < p % d * 2 → p / d + 1 ≡ closest p d
  above_half h = (omega arith) ∙ ap (nearest (p / d)) (sym (is_gt (p % d * 2) d h))

-- ---- a float of R / K in size
module _ (places K R : ℕ) (K>0 : 0 < K) where
  pub steps : (s : Bool) (x : Float) → HasValue x s R K → R < 2 ^ 24 * K → Steps (closest (R * 10 ^ places) K) ≡ decimal_of places x
  unfolding decimal_of
  steps s nan h l = absurd h
  steps s (inf t) h l = absurd h
  steps s (fin t m e) h l =
      let D = down e in
      let small : m * up e < 2 ^ 24 * D =
      lt_of_mul-lt-mul_right K
      (lt_of_le_of_lt (le_of_eq h.1) (lt_of_lt_of_le (mul-lt-mul_of_pos_right l (down_pos e)) (le_of_eq (mul_right_comm (2 ^ 24) K D)))) in
      let same : R * 10 ^ places * D ≡ m * up e * 10 ^ places * K =
      mul_right_comm R (10 ^ places) D ∙ ap (λ (n : ℕ). n * 10 ^ places) (sym h.1) ∙ mul_right_comm (m * up e) K (10 ^ places) in
      ap Steps (closest_same (R * 10 ^ places) K (m * up e * 10 ^ places) D K>0 (down_pos e) same)
      ∙ ap (λ (b : Bool). cond b (Steps (closest (m * up e * 10 ^ places) D)) Large) (sym (lt-ltb (m * up e) (2 ^ 24 * D) small))

  pub large : (s : Bool) (x : Float) → HasValue x s R K → 2 ^ 24 * K ≤ R → Large ≡ decimal_of places x
  unfolding decimal_of
  large s nan h l = absurd h
  large s (inf t) h l = absurd h
  large s (fin t m e) h l =
      let D = down e in
      let big : 2 ^ 24 * D ≤ m * up e =
      le_of_mul-le-mul_right
      (le_trans (le_of_eq (mul_right_comm (2 ^ 24) D K)) (le_trans (mul-le-mul_right D l) (le_of_eq (sym h.1)))) K>0 in
      ap (λ (b : Bool). cond b (Steps (closest (m * up e * 10 ^ places) D)) Large) (sym (le-ltb (m * up e) (2 ^ 24 * D) big))

-- ---- q * 2 ^ (e - 1) smallest values, from the exponent's field e on
-- the common factor 2 ^ j taken out of both sides
pub shifted : (q P j k : ℕ) → closest (q * P) (2 ^ k) ≡ closest (q * 2 ^ j * P) (2 ^ (j + k))
shifted q P j k = closest_same (q * P) (2 ^ k) (q * 2 ^ j * P) (2 ^ (j + k)) (pow_pos k) (pow_pos (j + k)) same
  where
    same : q * P * 2 ^ (j + k) ≡ q * 2 ^ j * P * 2 ^ k
    same =
        ap (λ (n : ℕ). q * P * n) (pow-add 2 j k) ∙ sym (mul_assoc (q * P) (2 ^ j) (2 ^ k))
        ∙ ap (λ (n : ℕ). n * 2 ^ k) (mul_right_comm q P (2 ^ j))
