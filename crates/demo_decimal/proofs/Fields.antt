-- `decimal_of` of an f32, from the fields of its bit pattern. Assumes nothing.
use mathlib.Core.Path.{◌≡◌, refl, sym, ap, ◌∙◌}
use mathlib.Core.Bool.{Bool, not}
use mathlib.Core.Logic.{inl, inr}
use Prim.Native.Nat.{ℕ, ◌+◌, ◌-◌, ◌*◌, ◌/◌, ◌%◌, ◌^◌, ◌≤◌, ◌<◌}
use native.Mathlib.Nat.{eq-or-lt_of_le, lt_of_lt_of_le, le_trans, le_of_eq, le_refl, mul-le-mul, mul-lt-mul_of_pos_right, mul-one, mod-lt}
use native.Mathlib.Omega.{arith}
use lib.Dec.{T, leb}
use lib.Pow.{pow_pos, pow_mono}
use lib.Ieee.{Float, nan, inf, binary32, fits, is_nan, top, to_bits}
use lib.Ieee.Nearest.{closest}
use Rattle.float_order.proofs.Read.{value_low, value_mid, value_top}
use Rattle.demo_decimal.specs.declared.Size.TheVariants.{Steps, Large, Nan}
use Rattle.demo_decimal.specs.Decimal.{decimal_of}
use Rattle.demo_decimal.proofs.Steps.{steps, large, shifted}

-- the exponent's field and the digits
abbrev field : Float → ℕ
field x = to_bits binary32 x % 2147483648 / 8388608

abbrev digits : Float → ℕ
digits x = to_bits binary32 x % 8388608

pub nan_is : (places : ℕ) (x : Float) → x ≡ nan → Nan ≡ decimal_of places x
unfolding decimal_of
nan_is places x h = ap (decimal_of places) (sym h)

inf_is : (places : ℕ) (s : Bool) → Large ≡ decimal_of places (inf s)
unfolding decimal_of
inf_is places s = refl

-- ---- numbers of smallest values
digits_small : (b : ℕ) → b % 8388608 + 8388608 < 2 ^ 24
digits_small b = omega arith

low_small : (t : ℕ) → t < 8388608 → t * 2 ^ 0 < 2 ^ 24 * 2 ^ 149
low_small t h =
    let k : 1 ≤ 2 ^ 149 = pow_pos 149 in
    let a : t < 16777216 = omega arith in
    lt_of_lt_of_le (lt_of_lt_of_le (mul-lt-mul_of_pos_right a (pow_pos 0)) (le_of_eq refl)) (mul-le-mul (le_refl 16777216) k)

module _ (q e : ℕ) where
  mid_small : q < 2 ^ 24 → e ≤ 150 → q * 2 ^ (e - 1) < 2 ^ 24 * 2 ^ 149
  mid_small h l =
      let k : e - 1 ≤ 149 = omega arith in
      lt_of_lt_of_le (mul-lt-mul_of_pos_right h (pow_pos (e - 1))) (mul-le-mul (le_refl (2 ^ 24)) (pow_mono k))

  mid_large : 8388608 ≤ q → 150 < e → 2 ^ 24 * 2 ^ 149 ≤ q * 2 ^ (e - 1)
  mid_large h l =
      let k : 150 ≤ e - 1 = omega arith in
      le_trans (le_of_eq refl) (mul-le-mul h (pow_mono k))

module _ (places : ℕ) (x : Float) (h : T (fits binary32 x)) where
  pub large_is : T (not (is_nan x)) → 150 < field x → Large ≡ decimal_of places x
  large_is n l =
      let s = leb (top binary32) (to_bits binary32 x) in
      let most : field x ≤ 255 = omega arith in
      elim (eq-or-lt_of_le most) [
        | inl o ↦ inf_is places s ∙ ap (decimal_of places) (sym (value_top binary32 x h o n))
        | inr o ↦
            let some : field x ≡ 0 → ⊥ = λ z. omega arith in
            let other : field x ≡ 255 → ⊥ = λ z. omega arith in
            let q : 8388608 ≤ digits x + 8388608 = omega arith in
            large places (2 ^ 149) ((digits x + 8388608) * 2 ^ (field x - 1)) (pow_pos 149) s x (value_mid binary32 x h some other) (mid_large (digits x + 8388608) (field x) q l)
      ]

  pub low_is : field x ≡ 0 → Steps (closest (digits x * 10 ^ places) (2 ^ 149)) ≡ decimal_of places x
  low_is z =
      ap (λ (m : ℕ). Steps (closest (m * 10 ^ places) (2 ^ 149))) (sym (mul-one (digits x)))
      ∙ steps places (2 ^ 149) (digits x * 2 ^ 0) (pow_pos 149) (leb (top binary32) (to_bits binary32 x)) x (value_low binary32 x h z) (low_small (digits x) (mod-lt _ (omega arith)))

  pub mid_is : (field x ≡ 0 → ⊥) → field x ≤ 150 → Steps (closest ((digits x + 8388608) * 10 ^ places) (2 ^ (150 - field x))) ≡ decimal_of places x
  mid_is z l =
      let e = field x in
      let q = digits x + 8388608 in
      let all : e - 1 + (150 - e) ≡ 149 = omega arith in
      let other : e ≡ 255 → ⊥ = λ o. omega arith in
      ap Steps (shifted q (10 ^ places) (e - 1) (150 - e) ∙ ap (λ (k : ℕ). closest (q * 2 ^ (e - 1) * 10 ^ places) (2 ^ k)) all)
      ∙ steps places (2 ^ 149) (q * 2 ^ (e - 1)) (pow_pos 149) (leb (top binary32) (to_bits binary32 x)) x (value_mid binary32 x h z other) (mid_small q e (digits_small (to_bits binary32 x)) l)
