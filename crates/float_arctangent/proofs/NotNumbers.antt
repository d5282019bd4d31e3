-- NaN and the infinities follow from the steps: the angle is no number where one part is NaN or both are infinite. Assumes nothing.
use mathlib.Core.Path.{◌≡◌, refl, ap, ◌∙◌}
use mathlib.Core.Bool.{Bool, true, false, cond, ◌&&◌}
use lib.Ieee.{Float, nan, inf, fin, binary64, add, sub, neg, mul, div, lt, le, eq, of_bits}
use Rattle.float_order.specs.Values.{+0, abs, sign_bit}
use Rattle.float_sine.specs.Pi.{PI64, half_pi}
use Rattle.float_arctangent.specs.Arctangent.{halved_of, eightfold_of, atan_of, ratio_of, first_quadrant_of, with_sign_of_x, with_sign_of_y, atan2_of}
use Rattle.float_arctangent.specs.Meaning.{AtanOfNan, Atan2OfNanY, Atan2OfNanX, Atan2OfInfinities}

-- ---- arctangent
pub atan_of_nan : AtanOfNan
unfolding atan_of halved_of eightfold_of div mul
atan_of_nan = refl

-- ---- atan2
signs_nan : (y x : Float) → with_sign_of_y y (with_sign_of_x x nan) ≡ nan
unfolding with_sign_of_x with_sign_of_y sub add neg of_bits
signs_nan y x = go (sign_bit y) (sign_bit x)
  where
    go : (s t : Bool) → cond s (neg (cond t (sub binary64 PI64 nan) nan)) (cond t (sub binary64 PI64 nan) nan) ≡ nan
    go true true = refl
    go true false = refl
    go false true = refl
    go false false = refl

-- where the first quadrant's angle is NaN
by_first : (y x : Float) → first_quadrant_of (abs y) (abs x) ≡ nan → atan2_of y x ≡ nan
unfolding atan2_of
by_first y x e = ap (λ (a : Float). with_sign_of_y y (with_sign_of_x x a)) e ∙ signs_nan y x

minus_nan : {q : Float} → q ≡ nan → sub binary64 half_pi (atan_of q) ≡ nan
unfolding sub add neg of_bits
minus_nan e = ap (λ (q : Float). sub binary64 half_pi (atan_of q)) e ∙ ap (sub binary64 half_pi) atan_of_nan

ratio_of_nan : (x : Float) → ratio_of nan x ≡ nan
unfolding ratio_of eq div
ratio_of_nan x = refl

ratio_by_nan : (y : Float) → ratio_of y nan ≡ nan
unfolding ratio_of eq div
ratio_by_nan y = go (eq y +0) (by y)
  where
    by : (y : Float) → div binary64 y nan ≡ nan
    by nan = refl
    by (inf s) = refl
    by (fin s m e) = refl

    go : (b : Bool) → div binary64 y nan ≡ nan → cond (b && false) +0 (div binary64 y nan) ≡ nan
    go true e = e
    go false e = e

pub atan2_of_nan_y : Atan2OfNanY
unfolding first_quadrant_of abs le lt eq
atan2_of_nan_y x = by_first nan x (minus_nan (ratio_by_nan (abs x)))

not_above : (y : Float) → le y nan ≡ false
unfolding le lt eq
not_above nan = refl
not_above (inf s) = refl
not_above (fin s m e) = refl

pub atan2_of_nan_x : Atan2OfNanX
unfolding first_quadrant_of abs
atan2_of_nan_x y =
    by_first y nan
    (ap (λ (b : Bool). cond b (atan_of (ratio_of (abs y) nan)) (sub binary64 half_pi (atan_of (ratio_of nan (abs y))))) (not_above (abs y)) ∙ minus_nan (ratio_of_nan (abs y)))

pub atan2_of_infinities : Atan2OfInfinities
unfolding first_quadrant_of ratio_of abs le eq div
atan2_of_infinities s t = by_first (inf s) (inf t) atan_of_nan
