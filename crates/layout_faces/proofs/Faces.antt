-- Laws of the face tests: the definition goes by what the code computed, the raw normal and its length, the plane and its sides without a point. Assumes nothing.
use Rattle.std.proofs.Common.{◌≡◌, ℕ, true, false, length, refl}
use lib.Ieee.{Float, lt}
use Rattle.vector.specs.Vector.{Vector, Points, dot_of, over_of, length_of}
use Rattle.layout_faces.specs.Faces.{Plane, least_normal, point, others, raw_normal, plane_through}
use Rattle.layout_faces.specs.Inner.Steps.{sides_of, turned_by, face_of}
use Rattle.layout_faces.specs.declared.Sides.{Sides}
use Rattle.layout_faces.specs.declared.Face.TheVariants.{Skip}

module _ (pts : Points) (i j k : ℕ) {r : Vector} {l : Float} (er : r ≡ raw_normal (point pts i) (point pts j) (point pts k)) (el : l ≡ length_of r) where
  pub computed_thin : lt l least_normal ≡ true → Skip ≡ face_of pts i j k
  unfolding face_of
  computed_thin t = rw (rw (el, er) at t) refl

  module _ {u : Vector} {d : Float} (eu : u ≡ over_of r l) (ed : d ≡ dot_of u (point pts i)) where
    same : ◌≡◌ {A = Plane} (plane_through (point pts i) (point pts j) (point pts k)) (record { nrm = u; d = d })
    unfolding plane_through
    same = cc

    pub computed_placed : {s : Sides} → lt l least_normal ≡ false → s ≡ sides_of pts (record { nrm = u; d = d }) (others (length pts) i j k)
        → face_of pts i j k ≡ turned_by s (record { nrm = u; d = d })
    unfolding face_of
    computed_placed t es = rw (rw (el, er) at t, same, ← es) refl
