-- The order of floats: `lt` is transitive and goes one way only. Finite values are compared by products with the other's denominator. Assumes nothing.
use Prim.Native.Nat.{ℕ, ◌+◌, ◌*◌, ◌<◌}
use mathlib.Core.Path.{◌≡◌, refl}
use mathlib.Core.Bool.{Bool, true, false}
use native.Mathlib.Nat.{mul_right_comm, mul-lt-mul_of_pos_right, mul-pos, lt_of_mul-lt-mul_right}
use native.Mathlib.Omega.{arith}
use lib.Ieee.{Float, nan, inf, fin, below, up, down, lt}
use lib.Ieee.Fits.{down_pos}
use lib.Ieee.Positive.{first_pos}
use borrow.Author.Tests.{ltb-true, lt-ltb, le-ltb}

-- a / d < b / e and b / e < c / f
cross_trans : (a d b e c f : ℕ) → 0 < d → 0 < f → a * e < b * d → b * f < c * e → a * f < c * d
cross_trans a d b e c f pd pf h g =
    let p : a * e * f < b * d * f = mul-lt-mul_of_pos_right h pf in
    let q : b * f * d < c * e * d = mul-lt-mul_of_pos_right g pd in
    let r : a * f * e < c * d * e =
    omega (arith, p, q, mul_right_comm a e f, mul_right_comm b d f, mul_right_comm c e d)
    in
    lt_of_mul-lt-mul_right e r

-- with the signs
below_trans : (s t u : Bool) (a d b e c f : ℕ) → 0 < d → 0 < e → 0 < f → below s (a * e) t (b * d) ≡ true → below t (b * f) u (c * e) ≡ true
    → below s (a * f) u (c * d) ≡ true
below_trans false false false a d b e c f pd pe pf h g = lt-ltb (a * f) (c * d) (cross_trans a d b e c f pd pf (ltb-true (a * e) (b * d) h) (ltb-true (b * f) (c * e) g))
below_trans false false true a d b e c f pd pe pf h g = cc
below_trans false true u a d b e c f pd pe pf h g = cc
below_trans true false false a d b e c f pd pe pf h g =
    let p : 0 < c * e = omega (arith, ltb-true (b * f) (c * e) g) in
    let q : 0 < c * d = mul-pos (first_pos c e p) pd in
    lt-ltb 0 (a * f + c * d) (omega arith)
below_trans true false true a d b e c f pd pe pf h g = cc
below_trans true true false a d b e c f pd pe pf h g =
    let p : 0 < a * e = omega (arith, ltb-true (b * d) (a * e) h) in
    let q : 0 < a * f = mul-pos (first_pos a e p) pf in
    lt-ltb 0 (a * f + c * d) (omega arith)
below_trans true true true a d b e c f pd pe pf h g = lt-ltb (c * d) (a * f) (cross_trans c f b e a d pf pd (ltb-true (c * e) (b * f) g) (ltb-true (b * d) (a * e) h))

pub below_asym : (s t : Bool) (a b : ℕ) → below s a t b ≡ true → below t b s a ≡ false
below_asym false false a b h = le-ltb b a (omega (arith, ltb-true a b h))
below_asym false true a b h = cc
below_asym true false a b h = refl
below_asym true true a b h = le-ltb a b (omega (arith, ltb-true b a h))

pub float_lt_trans : (x y z : Float) → lt x y ≡ true → lt y z ≡ true → lt x z ≡ true
unfolding lt
float_lt_trans nan y z h g = cc
float_lt_trans (inf true) nan z h g = cc
float_lt_trans (inf true) (inf true) z h g = cc
float_lt_trans (inf true) (inf false) nan h g = g
float_lt_trans (inf true) (inf false) (inf u) h g = cc
float_lt_trans (inf true) (inf false) (fin u o r) h g = refl
float_lt_trans (inf true) (fin t n k) nan h g = g
float_lt_trans (inf true) (fin t n k) (inf u) h g = g
float_lt_trans (inf true) (fin t n k) (fin u o r) h g = refl
float_lt_trans (inf false) nan z h g = cc
float_lt_trans (inf false) (inf t) z h g = cc
float_lt_trans (inf false) (fin t n k) z h g = cc
float_lt_trans (fin s m e) nan z h g = cc
float_lt_trans (fin s m e) (inf true) z h g = cc
float_lt_trans (fin s m e) (inf false) nan h g = g
float_lt_trans (fin s m e) (inf false) (inf u) h g = cc
float_lt_trans (fin s m e) (inf false) (fin u o r) h g = cc
float_lt_trans (fin s m e) (fin t n k) nan h g = g
float_lt_trans (fin s m e) (fin t n k) (inf u) h g = g
float_lt_trans (fin s m e) (fin t n k) (fin u o r) h g =
    below_trans s t u (m * up e) (down e) (n * up k) (down k) (o * up r) (down r) (down_pos e) (down_pos k) (down_pos r) h g

pub float_lt_asym : (x y : Float) → lt x y ≡ true → lt y x ≡ false
unfolding lt
float_lt_asym nan y h = cc
float_lt_asym (inf true) nan h = refl
float_lt_asym (inf true) (inf true) h = refl
float_lt_asym (inf true) (inf false) h = refl
float_lt_asym (inf true) (fin t n k) h = refl
float_lt_asym (inf false) nan h = refl
float_lt_asym (inf false) (inf t) h = cc
float_lt_asym (inf false) (fin t n k) h = cc
float_lt_asym (fin s m e) nan h = refl
float_lt_asym (fin s m e) (inf true) h = cc
float_lt_asym (fin s m e) (inf false) h = refl
float_lt_asym (fin s m e) (fin t n k) h = below_asym s t (m * up e * down k) (n * up k * down e) h

-- no angle is below itself
pub float_lt_self : (x : Float) → lt x x ≡ false
float_lt_self x = by (lt x x) (float_lt_asym x x)
  where
    by : (b : Bool) → (b ≡ true → b ≡ false) → b ≡ false
    by true f = f refl
    by false f = refl
