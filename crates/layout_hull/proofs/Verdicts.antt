-- Laws of the verdict on a triple, by what the face tests, the fan and the determinant say; and of the verdicts that the three loops gather. Assumes nothing.
use Prim.Native.Nat.{ℕ, suc, ◌+◌, ◌≤◌}
use mathlib.Core.Path.{◌≡◌, refl, sym, ap, ◌∙◌}
use mathlib.Core.Bool.{Bool, true, false, ◌||◌, not, cond}
use mathlib.Core.List.{List, [], ◌∷◌, ◌++◌, map, flat_map, append_assoc, append-nil}
use native.Mathlib.Numerals.{add-one}
use native.Mathlib.Omega.{arith}
use lib.Ieee.{Float, lt}
use lib.ListN.{length}
use Rattle.lists.specs.Lists.{range, between}
use Rattle.lists.proofs.Ranges.{range_none, range_snoc, between_none, between_snoc}
use Rattle.lists.proofs.Collect.{map_snoc, flat_map_snoc}
use Rattle.float_order.specs.Values.{abs}
use Rattle.vector.specs.Vector.{Points, determinant_of, length_of}
use Rattle.layout_faces.specs.Faces.{Plane, least_normal, least_distance, point, others, raw_normal, plane_through, all_below, all_above, outward}
use Rattle.layout_faces.specs.Inner.Steps.{sides_of, turned_of, facing, turned_by, face_of}
use Rattle.layout_faces.specs.declared.Face.{Face}
use Rattle.layout_faces.specs.declared.Face.TheVariants.{Skip, Open, Outward}
use Rattle.layout_fan.specs.Inner.Steps.{fan_test}
use Rattle.layout_hull.specs.Triplets.{Triplet, Verdict, skip, open_hull, keep, least_determinant, inverse_of, verdict_by, verdict, verdicts}

-- ---- the verdict by its tests

module _ (pts : Points) (i j k : ℕ) where
  abbrev determinant : Float
  determinant = determinant_of (point pts i) (point pts j) (point pts k)

  abbrev pub triplet_at : Triplet
  triplet_at = record { i = i; j = j; k = k; inv = inverse_of (point pts i) (point pts j) (point pts k) }

  unfoldable by_face : Face → Verdict
  by_face Skip = skip
  by_face Open = open_hull
  by_face (Outward f) = cond (not (fan_test pts i j k f)) skip (cond (lt (abs determinant) least_determinant) skip (keep triplet_at))

  outer : (f : Plane) → verdict_by pts i j k f ≡ by_face (facing f)
  unfolding verdict_by facing fan_test by_face
  outer f = by (lt f.d least_distance)
    where
      by : (t : Bool) → cond t open_hull (by_face (Outward f)) ≡ by_face (cond t Open (Outward f))
      by true = refl
      by false = refl

  turned : (below above : Bool) (f : Plane)
      → cond (not (below || above)) skip (verdict_by pts i j k (outward below f)) ≡ by_face (turned_by (record { below = below; above = above }) f)
  unfolding outward turned_by by_face
  turned true above f = outer f
  turned false true f = outer (turned_of f)
  turned false false f = refl

  thin : (t : Bool) (w : Verdict) (f : Face) → w ≡ by_face f → cond t skip w ≡ by_face (cond t Skip f)
  unfolding by_face
  thin true w f e = refl
  thin false w f e = e

  verdict_face : verdict pts i j k ≡ by_face (face_of pts i j k)
  unfolding verdict face_of sides_of
  verdict_face =
      let f = plane_through (point pts i) (point pts j) (point pts k) in
      let ps = others (length pts) i j k in
      let below = all_below pts f ps in
      let above = all_above pts f ps in
      thin (lt (length_of (raw_normal (point pts i) (point pts j) (point pts k))) least_normal)
      (cond (not (below || above)) skip (verdict_by pts i j k (outward below f)))
      (turned_by (record { below = below; above = above }) f)
      (turned below above f)

  -- what the code learns of a triple, one way round each
  pub verdict_skip : face_of pts i j k ≡ Skip → verdict pts i j k ≡ skip
  unfolding by_face
  verdict_skip e = verdict_face ∙ ap by_face e

  pub verdict_open : face_of pts i j k ≡ Open → verdict pts i j k ≡ open_hull
  unfolding by_face
  verdict_open e = verdict_face ∙ ap by_face e

  module _ (g : Plane) (f : face_of pts i j k ≡ Outward g) where
    pub verdict_out : fan_test pts i j k g ≡ false → verdict pts i j k ≡ skip
    unfolding by_face
    verdict_out e = verdict_face ∙ ap by_face f ∙ rw e refl

    pub verdict_small : fan_test pts i j k g ≡ true → lt (abs determinant) least_determinant ≡ true → verdict pts i j k ≡ skip
    unfolding by_face
    verdict_small e g = verdict_face ∙ ap by_face f ∙ rw (e, g) refl

    pub verdict_keep : fan_test pts i j k g ≡ true → lt (abs determinant) least_determinant ≡ false → verdict pts i j k ≡ keep triplet_at
    unfolding by_face
    verdict_keep e g = verdict_face ∙ ap by_face f ∙ rw (e, g) refl

  -- a verdict keeps no triple but its own
  chosen : (a b : Bool) (t : Triplet) → cond a skip (cond b skip (keep triplet_at)) ≡ keep t → t ≡ triplet_at
  chosen true b t e = cc
  chosen false true t e = cc
  chosen false false t e = cc

  own : (f : Face) (t : Triplet) → by_face f ≡ keep t → t ≡ triplet_at
  unfolding by_face
  own Skip t e = cc
  own Open t e = cc
  own (Outward g) t e = chosen (not (fan_test pts i j k g)) (lt (abs determinant) least_determinant) t e

  pub verdict_own : (t : Triplet) → verdict pts i j k ≡ keep t → t ≡ triplet_at
  verdict_own t e = own (face_of pts i j k) t (sym verdict_face ∙ e)

-- ---- what three nested loops over i < j < k < n gather, where they stand at i, at i and j, and at i, j and k

module _ {A : Type 0} (v : ℕ → ℕ → ℕ → A) (n : ℕ) where
  abbrev third : ℕ → ℕ → ℕ → List A
  third i j k = map (v i j) (between (suc j) k)

  abbrev second : ℕ → ℕ → List A
  second i j = flat_map (λ j. third i j n) (between (suc i) j)

  abbrev pub at_first : ℕ → List A
  at_first i = flat_map (λ i. second i n) (range i)

  abbrev pub at_second : ℕ → ℕ → List A
  at_second i j = at_first i ++ second i j

  abbrev pub at_third : ℕ → ℕ → ℕ → List A
  at_third i j k = at_second i j ++ third i j k

  pub first_none : at_first 0 ≡ []
  unfolding flat_map
  first_none = rw range_none refl

  pub second_none : (i : ℕ) → at_second i (i + 1) ≡ at_first i
  unfolding flat_map
  second_none i = rw (add-one, between_none (suc i) (suc i) (omega arith)) (append-nil _)

  pub third_none : (i j : ℕ) → at_third i j (j + 1) ≡ at_second i j
  third_none i j = rw (add-one, between_none (suc j) (suc j) (omega arith)) (append-nil _)

  pub third_more : (i j k : ℕ) → j + 1 ≤ k → at_third i j (k + 1) ≡ at_third i j k ++ v i j k ∷ []
  third_more i j k h = rw (between_snoc (suc j) k (omega arith), map_snoc) (sym (append_assoc (at_second i j) (third i j k) (v i j k ∷ [])))

  pub third_done : (i j : ℕ) → i + 1 ≤ j → at_third i j n ≡ at_second i (j + 1)
  third_done i j h = rw (between_snoc (suc i) j (omega arith), flat_map_snoc) (append_assoc (at_first i) (second i j) (third i j n))

  pub second_done : (i : ℕ) → at_second i n ≡ at_first (i + 1)
  second_done i = rw (range_snoc i, flat_map_snoc) refl

pub all_verdicts : (pts : Points) → at_first (verdict pts) (length pts) (length pts) ≡ verdicts pts
unfolding verdicts
all_verdicts pts = refl
