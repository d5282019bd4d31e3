-- The order of floats: what is not above a number is below all that is above it. Finite values are compared by products with the other's denominator. Assumes nothing.
use Prim.Native.Nat.{ℕ, ◌+◌, ◌*◌, ◌≤◌, ◌<◌}
use mathlib.Core.Path.{◌≡◌, refl, sym, ◌∙◌}
use mathlib.Core.Bool.{Bool, true, false, ◌||◌}
use mathlib.Core.Logic.{inl, inr, ⊎_elim}
use native.Mathlib.Nat.{mul_right_comm, mul-lt-mul_of_pos_right, mul-le-mul_right, mul-pos, lt_of_mul-lt-mul_right, eq-zero-or-pos}
use native.Mathlib.Omega.{arith}
use lib.Ieee.{Float, nan, inf, fin, below, up, down, is_nan, lt}
use lib.Ieee.Fits.{down_pos}
use lib.Ieee.Positive.{first_pos}
use borrow.Author.Tests.{ltb-true, ltb-false, lt-ltb}
use Rattle.lists.proofs.Tests.{either}
use Rattle.angle_sort.proofs.Angles.{float_lt_asym}

-- ---- y is not above g, and x is above g: x is above y, if y is a number

-- a / d ≤ c / f < b / e, and b / e < c / f ≤ a / d
module _ (a d b e c f : ℕ) (pd : 0 < d) (pe : 0 < e) (pf : 0 < f) where
  cross_up : a * f ≤ c * d → c * e < b * f → a * e < b * d
  cross_up h g =
      let p : a * f * e ≤ c * d * e = mul-le-mul_right e h in
      let q : c * e * d < b * f * d = mul-lt-mul_of_pos_right g pd in
      let r : a * e * f < b * d * f = omega (arith, mul_right_comm a f e, mul_right_comm c d e, mul_right_comm b f d) in
      lt_of_mul-lt-mul_right f r

  cross_down : c * d ≤ a * f → b * f < c * e → b * d < a * e
  cross_down h g =
      let p : c * d * e ≤ a * f * e = mul-le-mul_right e h in
      let q : b * f * d < c * e * d = mul-lt-mul_of_pos_right g pd in
      let r : b * d * f < a * e * f = omega (arith, mul_right_comm a f e, mul_right_comm c d e, mul_right_comm b f d) in
      lt_of_mul-lt-mul_right f r

  -- with the signs
  below_over : (s t u : Bool) → below s (c * d) t (a * f) ≡ false → below s (c * e) u (b * f) ≡ true → below t (a * e) u (b * d) ≡ true
  below_over false false false h g = lt-ltb (a * e) (b * d) (cross_up (ltb-false (c * d) (a * f) h) (ltb-true (c * e) (b * f) g))
  below_over false false true h g = cc
  below_over false true false h g =
      let p : 0 < b * f = omega (arith, ltb-true (c * e) (b * f) g) in
      let q : 0 < b * d = mul-pos (first_pos b f p) pd in
      lt-ltb 0 (a * e + b * d) (omega arith)
  below_over false true true h g = cc
  below_over true false false h g =
      let z : c * d + a * f ≤ 0 = ltb-false 0 (c * d + a * f) h in
      let k : 0 < c * e + b * f = ltb-true 0 (c * e + b * f) g in
      elim (eq-zero-or-pos c) [
        | inl n ↦ (let w : c * e ≡ 0 * e = rw n refl in lt-ltb (a * e) (b * d) (cross_up (omega arith) (omega arith)))
        | inr n ↦ (let w : 0 < c * d = mul-pos n pd in absurd (omega arith))
      ]
  below_over true false true h g =
      let z : c * d + a * f ≤ 0 = ltb-false 0 (c * d + a * f) h in
      let k : b * f < c * e = ltb-true (b * f) (c * e) g in
      let n : 0 < c = first_pos c e (omega arith) in
      let w : 0 < c * d = mul-pos n pd in absurd (omega arith)
  below_over true true false h g =
      let z : c * d ≤ a * f = ltb-false (a * f) (c * d) h in
      let k : 0 < c * e + b * f = ltb-true 0 (c * e + b * f) g in
      lt-ltb 0 (a * e + b * d)
      (elim (eq-zero-or-pos b) [
        | inl n ↦ (
            let w : b * f ≡ 0 * f = rw n refl in
            let j : 0 < c * d = mul-pos (first_pos c e (omega arith)) pd in
            let i : 0 < a * e = mul-pos (first_pos a f (omega arith)) pe in omega arith)
        | inr n ↦ (let w : 0 < b * d = mul-pos n pd in omega arith)
      ])
  below_over true true true h g = lt-ltb (b * d) (a * e) (cross_down (ltb-false (a * f) (c * d) h) (ltb-true (b * f) (c * e) g))

pub lt_over : (g y x : Float) → lt g y ≡ false → lt g x ≡ true → is_nan y || lt y x ≡ true
unfolding lt is_nan
lt_over nan y x h k = cc
lt_over (inf false) y nan h k = cc
lt_over (inf false) y (inf u) h k = cc
lt_over (inf false) y (fin u o r) h k = cc
lt_over (inf true) nan x h k = refl
lt_over (inf true) (inf true) nan h k = cc
lt_over (inf true) (inf true) (inf true) h k = cc
lt_over (inf true) (inf true) (inf false) h k = refl
lt_over (inf true) (inf true) (fin u o r) h k = refl
lt_over (inf true) (inf false) x h k = cc
lt_over (inf true) (fin t n d) x h k = cc
lt_over (fin s m e) nan x h k = refl
lt_over (fin s m e) (inf true) nan h k = cc
lt_over (fin s m e) (inf true) (inf true) h k = cc
lt_over (fin s m e) (inf true) (inf false) h k = refl
lt_over (fin s m e) (inf true) (fin u o r) h k = refl
lt_over (fin s m e) (inf false) x h k = cc
lt_over (fin s m e) (fin t n d) nan h k = cc
lt_over (fin s m e) (fin t n d) (inf true) h k = cc
lt_over (fin s m e) (fin t n d) (inf false) h k = refl
lt_over (fin s m e) (fin t n d) (fin u o r) h k =
    below_over (n * up d) (down d) (o * up r) (down r) (m * up e) (down e) (down_pos d) (down_pos r) (down_pos e) s t u h k

-- what is above something is above −∞
pub above_low : (g x : Float) → lt g x ≡ true → lt (inf true) x ≡ true
unfolding lt
above_low nan x h = cc
above_low (inf s) nan h = cc
above_low (inf true) (inf t) h = h
above_low (inf false) (inf t) h = cc
above_low (inf s) (fin t n d) h = refl
above_low (fin s m e) nan h = cc
above_low (fin s m e) (inf true) h = cc
above_low (fin s m e) (inf false) h = refl
above_low (fin s m e) (fin t n d) h = refl

-- what is not above g is not above what is above g
pub nan_not_above : (x y : Float) → is_nan y ≡ true → lt x y ≡ false
unfolding lt is_nan
nan_not_above nan y e = refl
nan_not_above (inf s) nan e = refl
nan_not_above (fin s m d) nan e = refl
nan_not_above (inf s) (inf t) e = cc
nan_not_above (inf s) (fin t n k) e = cc
nan_not_above (fin s m d) (inf t) e = cc
nan_not_above (fin s m d) (fin t n k) e = cc

pub not_above : (g y x : Float) → lt g y ≡ false → lt g x ≡ true → lt x y ≡ false
not_above g y x h k = ⊎_elim (λ n. nan_not_above x y n) (λ l. float_lt_asym y x l) (either (is_nan y) (lt y x) (lt_over g y x h k))

-- what is not above x, a number that is not above g, is not above g
pub not_over : (g x y : Float) → is_nan x ≡ false → lt g x ≡ false → lt x y ≡ false → lt g y ≡ false
not_over g x y n h k = by (lt g y) refl
  where
    by : (b : Bool) → lt g y ≡ b → b ≡ false
    by false e = refl
    by true e = sym (lt_over g x y h e) ∙ rw (n, k) refl

-- what is above −∞ is a number
pub high_number : (x : Float) → lt (inf true) x ≡ true → is_nan x ≡ false
unfolding lt is_nan
high_number nan h = cc
high_number (inf s) h = refl
high_number (fin s m e) h = refl
