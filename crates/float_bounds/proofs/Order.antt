-- Bounds of the maximum and of the clamp, and a count as a float. Assumes nothing.
use mathlib.Core.Path.{◌≡◌, refl, sym, ap, ◌∙◌, subst}
use mathlib.Core.Logic.{◌⊎◌, inl, inr}
use Prim.Native.Nat.{ℕ, ◌*◌, ◌^◌, ◌≤◌, zero-le}
use native.Mathlib.Nat.{le_refl, lt_of_le_of_lt, mul-le-mul_right, mul-one, zero-mul}
use mathlib.Core.Bool.{Bool, true, false, not, cond, ◌&&◌, ◌||◌, beq}
use lib.IntN.{pos}
use lib.Dec.{T, lit<, eqb}
use lib.Pow.{pow_pos}
use lib.Ieee.{Float, nan, inf, fin, Format, binary32, low, up, down, lt, eq, is_nan, fits, of_int}
use lib.Ieee.Fits.{cond-fits, and_i, eq→eqb}
use lib.Ieee.Scale.{round_same}
use Rattle.float_order.specs.Values.{+0, 1·0}
use Rattle.float_order.specs.Order.{max_of, clamp_of}
use Rattle.float_widths.proofs.Grid.{zero_is}
use Rattle.float_bounds.proofs.Units.{Val}
use Rattle.float_bounds.proofs.Held.{held, held_val}
use Rattle.float_bounds.proofs.Size.{Mag, Most, most_of, most_sign, mag_cond, val_mag}
use Rattle.float_bounds.proofs.Compare.{FromZero, from_zero, not_lt_val, signed}

pub zero_val : {f : Format} → Val f +0 false 0
zero_val {f} = record { has = (refl, zero-mul (2 ^ low f)) }

pub zero_mag : {f : Format} {B : ℕ} → Mag f +0 B
zero_mag {f} {B} = val_mag B zero_val zero-le

pub max_mag : {f : Format} {x y : Float} {B : ℕ} → Mag f x B → Mag f y B → Mag f (max_of x y) B
unfolding max_of
max_mag {f} {x} {y} a b = mag_cond (is_nan x) b (mag_cond (is_nan y) a (mag_cond (eq x +0 && eq y +0) zero_mag (mag_cond (lt x y) b a)))

zero_eq : (f : Format) (x : Float) {s : Bool} {X : ℕ} → Val f x s X → X ≡ 0 → T (eq x +0 && eq +0 +0)
unfolding eq
zero_eq f nan v z = absurd v.has
zero_eq f (inf t) v z = absurd v.has
zero_eq f (fin t m e) {s} {X} v z =
    let a : m * up e * 1 ≡ 0 = mul-one (m * up e) ∙ zero_is (m * up e) (2 ^ low f) (pow_pos (low f)) (v.has.1 ∙ ap (λ (k : ℕ). k * down e) z ∙ zero-mul (down e)) in
    let b : 0 * 1 * down e ≡ 0 = zero-mul (down e) in
    and_i (eqb (m * up e * 1) (0 * 1 * down e) && (beq t false || eqb (m * up e * 1) 0)) true
    (and_i (eqb (m * up e * 1) (0 * 1 * down e)) (beq t false || eqb (m * up e * 1) 0) (eq→eqb (a ∙ sym b)) (or_right (beq t false) (eqb (m * up e * 1) 0) (eq→eqb a))) tt
  where
    or_right : (a b : Bool) → T b → T (a || b)
    or_right true b h = tt
    or_right false b h = h

-- the larger of a value and +0 has its sign clear
pub max_zero_most : {f : Format} {x : Float} {B : ℕ} → Mag f x B → Most f (max_of x +0) false B
unfolding max_of is_nan
max_zero_most {f} {x} {B} h = by (is_nan x) (eq x +0 && eq +0 +0) (lt x +0) (zero_eq f x h.val) (signed h.val)
  where
    none : Most f +0 false B
    none = record { X = 0; val = zero_val; most = zero-le }

    by : (i k l : Bool) → (h.X ≡ 0 → T k) → (T (not l) → (h.s ≡ false) ⊎ ((h.s ≡ true) × (h.X ≡ 0))) → Most f (cond i +0 (cond k +0 (cond l +0 x))) false B
    by true k l z g = none
    by false true l z g = none
    by false false true z g = none
    by false false false z g = elim (g tt) [
      | inl e ↦ most_sign e (most_of h)
      | inr e ↦ absurd (z e.1)
    ]

pub max_fits : (f : Format) (x y : Float) → T (fits f x) → T (fits f y) → T (fits f +0) → T (fits f (max_of x y))
unfolding max_of
max_fits f x y a b z =
    cond-fits f (is_nan x) y _ b (cond-fits f (is_nan y) x _ a (cond-fits f (eq x +0 && eq y +0) +0 _ z (cond-fits f (lt x y) y x b a)))

one_val : Val binary32 1·0 false (2 ^ 149)
one_val = record { has = (refl, refl) }

-- from 0 to 1
pub clamp_unit : {x : Float} {B : ℕ} → Mag binary32 x B → FromZero binary32 (clamp_of x) (2 ^ 149)
unfolding clamp_of
clamp_unit {x} {B} h = go (lt x +0) (lt 1·0 x) (from_zero (most_of h)) (λ X w n. not_lt_val one_val w n)
  where
    go : (b c : Bool) → (T (not b) → FromZero binary32 x B) → ((X : ℕ) → Val binary32 x false X → T (not c) → X ≤ 2 ^ 149) → FromZero binary32 (cond b +0 (cond c 1·0 x)) (2 ^ 149)
    go true c k l = inl (record { X = 0; val = zero_val; most = zero-le })
    go false true k l = inl (record { X = 2 ^ 149; val = one_val; most = le_refl (2 ^ 149) })
    go false false k l = elim (k tt) [ inl m ↦ inl (record { X = m.X; val = m.val; most = l m.X m.val tt }) | inr v ↦ inr v ]

-- a count up to 2 ^ 24 is exact
pub count_val : (n : ℕ) → n ≤ 2 ^ 24 → Val binary32 (of_int binary32 (pos n)) false (n * 2 ^ 149)
unfolding of_int
count_val n few =
    subst (λ (z : Float). Val binary32 z false (n * 2 ^ 149)) (sym (round_same binary32 false n 1 (n * 2 ^ 149) (2 ^ 149) (lit< tt) (pow_pos 149) (sym (mul-one (n * 2 ^ 149)))))
    (held_val binary32 (n * 2 ^ 149) (held binary32 n 149 few) (lt_of_le_of_lt (mul-le-mul_right (2 ^ 149) few) (lit< tt)))
