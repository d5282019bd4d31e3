-- Angles that are equal to one value compare alike: they have the same value, and the sign of a zero does not count. Assumes nothing.
use Prim.Native.Nat.{ℕ, ◌+◌, ◌*◌, ◌<◌}
use mathlib.Core.Path.{◌≡◌, refl, sym, ap, ◌∙◌}
use mathlib.Core.Bool.{Bool, true, false, ◌||◌, beq}
use mathlib.Core.Logic.{◌⊎◌, inl, inr, ⊎_elim}
use native.Mathlib.Nat.{mul_right_comm, mul-lt-mul_of_pos_right, mul-pos, lt_of_mul-lt-mul_right, eq-zero-or-pos, eq_of_mul-eq-mul_right}
use native.Mathlib.Omega.{arith}
use lib.Dec.{eqb}
use lib.Ieee.{Float, nan, inf, fin, below, level, up, down, lt, eq}
use lib.Ieee.Fits.{down_pos}
use lib.Ieee.Positive.{first_pos}
use borrow.Author.Tests.{ltb-true, lt-ltb, eqb-true}
use Rattle.lists.proofs.Tests.{and_left, and_right}

-- a / d = b / e: what is below c / f stays below it
module _ (a d b e c f : ℕ) (pd : 0 < d) (pe : 0 < e) (pf : 0 < f) (h : a * e ≡ b * d) where
  cross_below : a * f < c * d → b * f < c * e
  cross_below g =
      let p : a * f * e < c * d * e = mul-lt-mul_of_pos_right g pe in
      let q : a * e * f ≡ b * d * f = ap (λ (n : ℕ). n * f) h in
      let r : b * f * d < c * e * d = omega (arith, p, q, mul_right_comm a f e, mul_right_comm b d f, mul_right_comm c d e) in
      lt_of_mul-lt-mul_right d r

  cross_above : c * d < a * f → c * e < b * f
  cross_above g =
      let p : c * d * e < a * f * e = mul-lt-mul_of_pos_right g pe in
      let q : a * e * f ≡ b * d * f = ap (λ (n : ℕ). n * f) h in
      let r : c * e * d < b * f * d = omega (arith, p, q, mul_right_comm a f e, mul_right_comm b d f, mul_right_comm c d e) in
      lt_of_mul-lt-mul_right d r

  cross_some : 0 < a * f + c * d → 0 < b * f + c * e
  cross_some g = elim (eq-zero-or-pos c) [ inl z ↦ none z | inr p ↦ some p ]
    where
      some : 0 < c → 0 < b * f + c * e
      some p = let q : 0 < c * e = mul-pos p pe in omega arith

      none : c ≡ 0 → 0 < b * f + c * e
      none z =
          let w : c * d ≡ 0 * d = ap (λ (n : ℕ). n * d) z in
          let u : 0 < a * f = omega arith in
          let v : 0 < a * e = mul-pos (first_pos a f u) pe in
          let x : 0 < b * f = mul-pos (first_pos b d (omega arith)) pf in
          omega arith

-- equal signs, or two zeros
abbrev SignsAgree : Bool → ℕ → Bool → ℕ → Type 0
SignsAgree s a t b = (s ≡ t) ⊎ ((a ≡ 0) × (b ≡ 0))

below_alike : (s t u : Bool) (a d b e c f : ℕ) → 0 < d → 0 < e → 0 < f → a * e ≡ b * d → SignsAgree s a t b
    → below s (a * f) u (c * d) ≡ true → below t (b * f) u (c * e) ≡ true
below_alike false false false a d b e c f pd pe pf h k g = lt-ltb (b * f) (c * e) (cross_below a d b e c f pd pe pf h (ltb-true (a * f) (c * d) g))
below_alike false false true a d b e c f pd pe pf h k g = g
below_alike false true false a d b e c f pd pe pf h k g =
    let p : 0 < c * d = omega (arith, ltb-true (a * f) (c * d) g) in
    let q : 0 < c * e = mul-pos (first_pos c d p) pe in
    lt-ltb 0 (b * f + c * e) (omega arith)
below_alike false true true a d b e c f pd pe pf h k g = cc
below_alike true false false a d b e c f pd pe pf h k g = ⊎_elim (λ w. cc) (λ w. lt-ltb (b * f) (c * e) (some w.0 w.1)) k
  where
    some : a ≡ 0 → b ≡ 0 → b * f < c * e
    some x y =
        let m : a * f ≡ 0 * f = ap (λ (n : ℕ). n * f) x in
        let n : b * f ≡ 0 * f = ap (λ (n : ℕ). n * f) y in
        let p : 0 < c * d = omega (arith, ltb-true 0 (a * f + c * d) g) in
        let q : 0 < c * e = mul-pos (first_pos c d p) pe in
        omega arith
below_alike true false true a d b e c f pd pe pf h k g = ⊎_elim (λ w. sym w) (λ w. absurd (none w.0)) k
  where
    none : a ≡ 0 → ⊥
    none x =
        let m : a * f ≡ 0 * f = ap (λ (n : ℕ). n * f) x in
        omega (arith, ltb-true (c * d) (a * f) g)
below_alike true true false a d b e c f pd pe pf h k g = lt-ltb 0 (b * f + c * e) (cross_some a d b e c f pd pe pf h (ltb-true 0 (a * f + c * d) g))
below_alike true true true a d b e c f pd pe pf h k g = lt-ltb (c * e) (b * f) (cross_above a d b e c f pd pe pf h (ltb-true (c * d) (a * f) g))

-- ---- two values that are equal to a third

-- v / w = a / d and v / w = b / e
cross_equal : (v w a d b e : ℕ) → 0 < w → v * d ≡ a * w → v * e ≡ b * w → a * e ≡ b * d
cross_equal v w a d b e pw h g =
    let p : v * d * e ≡ a * w * e = ap (λ (n : ℕ). n * e) h in
    let q : v * e * d ≡ b * w * d = ap (λ (n : ℕ). n * d) g in
    eq_of_mul-eq-mul_right w pw (a * e) (b * d) (omega (arith, p, q, mul_right_comm v d e, mul_right_comm a w e, mul_right_comm b w d))

zero_of : (a w : ℕ) → 0 < w → a * w ≡ 0 → a ≡ 0
zero_of a w p h = elim (eq-zero-or-pos a) [ inl z ↦ z | inr q ↦ (let r : 0 < a * w = mul-pos q p in absurd (no r)) ]
  where
    no : 0 < a * w → ⊥
    no r = omega arith

-- the sign that a level value has
sign_of : (s t : Bool) (a b : ℕ) → level s a t b ≡ true → (s ≡ t) ⊎ (a ≡ 0)
sign_of true true a b h = inl refl
sign_of true false a b h = inr (eqb-true a 0 (and_right (eqb a b) (eqb a 0) h))
sign_of false true a b h = inr (eqb-true a 0 (and_right (eqb a b) (eqb a 0) h))
sign_of false false a b h = inl refl

level_value : (s t : Bool) (a b : ℕ) → level s a t b ≡ true → a ≡ b
level_value s t a b h = eqb-true a b (and_left (eqb a b) (beq s t || eqb a 0) h)

module _ (r s t : Bool) (v w a d b e : ℕ) (pw : 0 < w) (pd : 0 < d) (pe : 0 < e) (h : level r (v * d) s (a * w) ≡ true) (g : level r (v * e) t (b * w) ≡ true) where
  levels_equal : a * e ≡ b * d
  levels_equal = cross_equal v w a d b e pw (level_value r s (v * d) (a * w) h) (level_value r t (v * e) (b * w) g)

  -- where one is zero, both are
  zeros : (v * d ≡ 0) ⊎ (v * e ≡ 0) → (a ≡ 0) × (b ≡ 0)
  zeros z =
      let n : v ≡ 0 = ⊎_elim (zero_of v d pd) (zero_of v e pe) z in
      let m : v * d ≡ 0 * d = ap (λ (k : ℕ). k * d) n in
      let l : v * e ≡ 0 * e = ap (λ (k : ℕ). k * e) n in
      (zero_of a w pw (omega (arith, level_value r s (v * d) (a * w) h)), zero_of b w pw (omega (arith, level_value r t (v * e) (b * w) g)))

  signs_agree : SignsAgree s a t b
  signs_agree =
      ⊎_elim
      (λ x. ⊎_elim (λ y. inl (sym x ∙ y)) (λ y. inr (zeros (inr y))) (sign_of r t (v * e) (b * w) g))
      (λ x. inr (zeros (inl x)))
      (sign_of r s (v * d) (a * w) h)

-- ---- of floats

both_ways : (a b : Bool) → (a ≡ true → b ≡ true) → (b ≡ true → a ≡ true) → a ≡ b
both_ways true b f g = sym (f refl)
both_ways false true f g = g refl
both_ways false false f g = refl

beq_same : (a b : Bool) → beq a b ≡ true → a ≡ b
beq_same true true h = refl
beq_same true false h = cc
beq_same false true h = cc
beq_same false false h = refl

lt_from_equal : (v x y z : Float) → eq v x ≡ true → eq v y ≡ true → lt x z ≡ true → lt y z ≡ true
unfolding eq lt
lt_from_equal nan x y z h g k = cc
lt_from_equal (inf r) nan y z h g k = cc
lt_from_equal (inf r) (inf s) nan z h g k = cc
lt_from_equal (inf r) (inf s) (inf t) z h g k = rw (sym (beq_same r s h) ∙ beq_same r t g) at k
lt_from_equal (inf r) (inf s) (fin t n i) z h g k = cc
lt_from_equal (inf r) (fin s m i) y z h g k = cc
lt_from_equal (fin r l i) nan y z h g k = cc
lt_from_equal (fin r l i) (inf s) y z h g k = cc
lt_from_equal (fin r l i) (fin s m j) nan z h g k = cc
lt_from_equal (fin r l i) (fin s m j) (inf t) z h g k = cc
lt_from_equal (fin r l i) (fin s m j) (fin t n o) nan h g k = k
lt_from_equal (fin r l i) (fin s m j) (fin t n o) (inf u) h g k = k
lt_from_equal (fin r l i) (fin s m j) (fin t n o) (fin u p q) h g k =
    below_alike s t u (m * up j) (down j) (n * up o) (down o) (p * up q) (down q) (down_pos j) (down_pos o) (down_pos q)
    (levels_equal r s t (l * up i) (down i) (m * up j) (down j) (n * up o) (down o) (down_pos i) (down_pos j) (down_pos o) h g)
    (signs_agree r s t (l * up i) (down i) (m * up j) (down j) (n * up o) (down o) (down_pos i) (down_pos j) (down_pos o) h g)
    k

-- a kind of angles that the order does not tell apart
abbrev pub Alike : (Float → Bool) → Type 0
Alike f = (x y z : Float) → f x ≡ true → f y ≡ true → lt x z ≡ lt y z

pub equal_alike : (v : Float) → Alike (eq v)
equal_alike v x y z h g = both_ways (lt x z) (lt y z) (lt_from_equal v x y z h g) (lt_from_equal v y x z g h)
