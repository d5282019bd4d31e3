-- Laws of a triple that is skipped before its normal is scaled: where a point stands well over its plane, and another well under it, they do so by the scaled normal too (crates/layout_margin). Assumes nothing.
use Prim.Native.Nat.{ℕ, suc, ◌+◌, ◌*◌, ◌^◌, ◌≤◌, ◌<◌}
use mathlib.Core.Path.{◌≡◌, refl, sym, ap, ◌∙◌, subst}
use mathlib.Core.Bool.{Bool, true, false, true≢false, ◌&&◌, ◌||◌, not}
use borrow.Author.Tests.{not-true, ne_eqb}
use lib.Dec.{T, lit≤, lit<}
use lib.ListN.{length, get_or, take, length-take, get_or-append}
use mathlib.Core.List.{[], ◌∷◌, ◌++◌}
use native.Mathlib.Omega.{arith}
use Rattle.std.proofs.lemmas.List.{get_or-take, get_or_at, length_push}
use lib.Ieee.{Float, binary64, neg, lt, of_bits}
use Rattle.lists.proofs.Tests.{and_left, and_right}
use Rattle.vector.specs.Vector.{Vector, Points, dot_of, over_of, length_of}
use Rattle.float_bounds.proofs.Units.{Val, units_of}
use Rattle.float_bounds.proofs.Size.{Mag}
use Rattle.float_bounds.proofs.Compare.{test_mag}
use Rattle.layout_margin.proofs.Scaled.{L}
use Rattle.layout_margin.proofs.Heights.{Three}
use Rattle.layout_margin.proofs.Apart.{well_over, well_under}
use Rattle.layout_faces.specs.Faces.{Plane, least_normal, eps, point, others, raw_normal, height, plane_through, all_below, all_above, is_other}
use Rattle.layout_faces.specs.Inner.Steps.{height_of, sides_of, turned_by, face_of}
use Rattle.layout_faces.specs.Inner.Margin.{largest, margin, Near, NearIn, level_of}
use Rattle.layout_faces.specs.declared.Face.TheVariants.{Skip}
use Rattle.layout_faces.proofs.Heights.{every_one}

-- ---- what a loop has found

-- one of three tests that came out true has its reason
pub of_three : {A : Type 0} (a b c : Bool) → (a ≡ true → A) → (b ≡ true → A) → (c ≡ true → A) → a || b || c ≡ true → A
of_three true b c f g h e = f refl
of_three false true c f g h e = g refl
of_three false false c f g h e = h e

-- two that both came out true have theirs
pub of_both : {A B : Type 0} (a b : Bool) → (a ≡ true → A) × (b ≡ true → B) → a && b ≡ true → A × B
of_both a b h e = (h.0 (and_left a b e), h.1 (and_right a b e))

-- ---- tests

truth : {b : Bool} → b ≡ true → T b
truth e = subst T (sym e) tt

true_of : (b : Bool) → T b → b ≡ true
true_of true t = refl
true_of false t = absurd t

untrue : (b : Bool) → b ≡ false → T (not b)
untrue b e = subst (λ (x : Bool). T (not x)) (sym e) tt

-- ---- the constants, in smallest values

largest_val : Val binary64 largest false (2 * L)
unfolding of_bits
largest_val = record { has = (refl, refl) }

margin_val : Val binary64 margin false (2 ^ 1058)
unfolding of_bits
margin_val = record { has = (refl, refl) }

pub normal_val : Val binary64 least_normal false (units_of binary64 least_normal)
unfolding of_bits
normal_val = record { has = (refl, refl) }

eps_val : Val binary64 eps false (units_of binary64 eps)
unfolding of_bits
eps_val = record { has = (refl, refl) }

normal_long : 2 ^ 1040 ≤ units_of binary64 least_normal
unfolding of_bits
normal_long = lit≤ tt

eps_short : units_of binary64 eps < 2 ^ 1051
unfolding of_bits
eps_short = lit< tt

-- ---- the points, by a normal before it is scaled and the distance that goes with it

module _ (pts : Points) where
  module _ (f : Plane) where
    abbrev pub Over : Type 0
    Over = (p : ℕ) × (p < length pts) × (lt margin (height_of f (point pts p)) ≡ true)

    abbrev pub Under : Type 0
    Under = (p : ℕ) × (p < length pts) × (lt (height_of f (point pts p)) (neg margin) ≡ true)

  -- each point of l is one of the points
  abbrev pub Each : Points → Type 0
  Each l = (k : ℕ) → k < length l → (p : ℕ) × (p < length pts) × (get_or l k [] ≡ point pts p)

  pub each_all : {l : Points} → l ≡ pts → Each l
  each_all e k h = (k, subst (λ (q : Points). k < length q) e h, ap (λ (q : Points). point q k) e)

  pub each_take : (n : ℕ) {l : Points} → l ≡ take n pts → Each l
  each_take n {l} e k h =
      let b : k < length (take n pts) = subst (λ (q : Points). k < length q) e h in
      let t = length-take n pts in
      (k, omega (arith, b, t), ap (λ (q : Points). point q k) e ∙ get_or-take n pts k [] (omega (arith, b, t)))

  -- the points that are left once the first of l is taken, or the last
  module _ {l : Points} (r : Points) (x : Vector) (each : Each l) where
    pub each_tail : l ≡ x ∷ r → Each r
    each_tail e k h =
        let t : length l ≡ length (x ∷ r) = ap length e in
        let f = each (suc k) (omega (arith, h, t)) in
        (f.0, f.1, sym (ap (λ (q : Points). point q (suc k)) e) ∙ f.2)

    pub each_front : l ≡ r ++ (x ∷ []) → Each r
    each_front e k h =
        let t : length l ≡ length r + 1 = ap length e ∙ length_push r x in
        let f = each k (omega (arith, h, t)) in
        (f.0, f.1, sym (get_or-append r (x ∷ []) [] k h) ∙ sym (ap (λ (q : Points). point q k) e) ∙ f.2)

    -- what is taken is one of the points
    pub found_first : l ≡ x ∷ r → (p : ℕ) × (p < length pts) × (x ≡ point pts p)
    found_first e =
        let t : length l ≡ length (x ∷ r) = ap length e in
        let f = each 0 (omega (arith, t)) in
        (f.0, f.1, sym (ap (λ (q : Points). point q 0) e) ∙ f.2)

    pub found_last : l ≡ r ++ (x ∷ []) → (p : ℕ) × (p < length pts) × (x ≡ point pts p)
    found_last e =
        let t : length l ≡ length r + 1 = ap length e ∙ length_push r x in
        let f = each (length r) (omega (arith, t)) in
        (f.0, f.1, sym (get_or_at r x [] [] (length r) refl) ∙ sym (ap (λ (q : Points). point q (length r)) e) ∙ f.2)

  near_three : NearIn pts → (p : ℕ) → p < length pts → Three (2 * L) (point pts p)
  near_three c p h = let g = c p h in record { first = at g.first; second = at g.second; third = at g.third }
    where
      at : {v : Float} → Near v → Mag binary64 v (2 * L)
      at g = test_mag (truth g.held) (truth g.most) largest_val

  module _ (i j k : ℕ) (hi : i < length pts) (hj : j < length pts) (hk : k < length pts) where
    abbrev raw : Vector
    raw = raw_normal (point pts i) (point pts j) (point pts k)

    abbrev before : Plane
    before = record { nrm = raw; d = dot_of raw (point pts i) }

    abbrev scaled : Plane
    scaled = let u = over_of raw (length_of raw) in record { nrm = u; d = dot_of u (point pts i) }

    -- a point that is not level is none of the triple
    off_triple : (g : Float → Bool) → (p : ℕ) → g (height_of before (point pts i)) ≡ false → g (height_of before (point pts j)) ≡ false → g (height_of before (point pts k)) ≡ false → g (height_of before (point pts p)) ≡ true → is_other i j k p ≡ true
    off_triple g p a b c t = rw (ne_eqb p i (none i a), ne_eqb p j (none j b), ne_eqb p k (none k c)) refl
      where
        none : (q : ℕ) → g (height_of before (point pts q)) ≡ false → p ≡ q → ⊥
        none q h s = let z : true ≡ false = sym t ∙ ap (λ (x : ℕ). g (height_of before (point pts x))) s ∙ h in true≢false z

    module _ (c : NearIn pts) (long : lt (length_of raw) least_normal ≡ false) (p : ℕ) (hp : p < length pts) where
      over_stays : lt margin (height_of before (point pts p)) ≡ true → lt eps (height_of scaled (point pts p)) ≡ true
      unfolding raw_normal
      over_stays h =
          true_of (lt eps (height_of scaled (point pts p)))
          (well_over (near_three c i hi) (near_three c j hj) (near_three c k hk) (near_three c p hp) margin_val normal_val normal_long eps_val eps_short (untrue (lt (length_of raw) least_normal) long) (truth h))

      under_stays : lt (height_of before (point pts p)) (neg margin) ≡ true → lt (height_of scaled (point pts p)) (neg eps) ≡ true
      unfolding raw_normal
      under_stays h =
          true_of (lt (height_of scaled (point pts p)) (neg eps))
          (well_under (near_three c i hi) (near_three c j hj) (near_three c k hk) (near_three c p hp) margin_val normal_val normal_long eps_val eps_short (untrue (lt (length_of raw) least_normal) long) (truth h))

    -- no face, by the plane before its normal is scaled
    abbrev Skips : Plane → Type 0
    Skips f = NearIn pts → Over f → Under f → level_of f (point pts i) ≡ true → level_of f (point pts j) ≡ true → level_of f (point pts k) ≡ true → face_of pts i j k ≡ Skip

    skips : Skips before
    unfolding level_of sides_of all_below all_above turned_by others face_of plane_through height
    skips c over under a b g = by (lt (length_of raw) least_normal) refl
      where
        lower : (q : ℕ) → level_of before (point pts q) ≡ true → lt margin (height_of before (point pts q)) ≡ false
        lower q h = not-true _ (and_left (not (lt margin (height_of before (point pts q)))) (not (lt (height_of before (point pts q)) (neg margin))) h)

        upper : (q : ℕ) → level_of before (point pts q) ≡ true → lt (height_of before (point pts q)) (neg margin) ≡ false
        upper q h = not-true _ (and_right (not (lt margin (height_of before (point pts q)))) (not (lt (height_of before (point pts q)) (neg margin))) h)

        by : (t : Bool) → lt (length_of raw) least_normal ≡ t → face_of pts i j k ≡ Skip
        by true h = rw h refl
        by false h =
            let p = over.0 in
            let q = under.0 in
            let x : not (lt eps (height pts scaled p)) ≡ false = rw (over_stays c h p over.1 over.2) refl in
            let y : not (lt (height pts scaled q) (neg eps)) ≡ false = rw (under_stays c h q under.1 under.2) refl in
            let below : all_below pts scaled (others (length pts) i j k) ≡ false =
            every_one (λ r. not (lt eps (height pts scaled r))) (is_other i j k) p (length pts) over.1 (off_triple (λ v. lt margin v) p (lower i a) (lower j b) (lower k g) over.2) x in
            let above : all_above pts scaled (others (length pts) i j k) ≡ false =
            every_one (λ r. not (lt (height pts scaled r) (neg eps))) (is_other i j k) q (length pts) under.1 (off_triple (λ v. lt v (neg margin)) q (upper i a) (upper j b) (upper k g) under.2) y in
            rw (h, below, above) refl

    pub apart_skip : (r : Vector) {e : Float} → r ≡ raw → e ≡ dot_of r (point pts i) → Skips (record { nrm = r; d = e })
    apart_skip r er ee = subst Skips (sym (same er ee)) skips
      where
        same : {r : Vector} {e : Float} → r ≡ raw → e ≡ dot_of r (point pts i) → ◌≡◌ {A = Plane} (record { nrm = r; d = e }) before
        same er ee = cc
