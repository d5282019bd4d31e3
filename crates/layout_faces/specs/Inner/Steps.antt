-- What the functions of src/lib.rt answer on the way to the definitions of `Faces`. Assumes nothing.
use Rattle.std.specs.Prelude.{ℕ, ◌<◌, ◌&&◌, not, cond, List, length, Float}
use Rattle.std.specs.Float.{binary64}
use Rattle.std.specs.Float.Ieee.{sub, neg, lt}
use Rattle.vector.specs.Vector.{Vector, Points, dot_of, negated_of}
use Rattle.layout_faces.specs.Faces.{Plane, eps, point, others, thin, plane_through, all_below, all_above, close}
use Rattle.layout_faces.specs.declared.Sides.{Sides}
use Rattle.layout_faces.specs.declared.Triple.{Triple}
use Rattle.layout_faces.specs.declared.Face.{Face}
use Rattle.layout_faces.specs.declared.Face.TheVariants.{Skip, Open, Outward}

-- the triple is of the first n points
abbrev pub Within : ℕ → Triple → Type 0
Within n t = (t.i < n) × (t.j < n) × (t.k < n)

-- how far a point stands over a plane
abbrev pub height_of : Plane → Vector → Float
height_of f p = sub binary64 (dot_of f.nrm p) f.d

-- the sides without a point, from s, once p is looked at too
unfoldable pub beside_of : Plane → Vector → Sides → Sides
beside_of f p s =
    let v = height_of f p in
    record { below = not (lt eps v) && s.below; above = not (lt v (neg eps)) && s.above }

unfoldable pub sides_of : Points → Plane → List ℕ → Sides
sides_of pts f ps = record { below = all_below pts f ps; above = all_above pts f ps }

-- the plane seen from its other side
abbrev pub turned_of : Plane → Plane
turned_of f = record { nrm = negated_of f.nrm; d = neg f.d }

-- a face by its outward plane
unfoldable pub facing : Plane → Face
facing f = cond (close f.d) Open (Outward f)

-- a face by the sides of its plane without a point
unfoldable pub turned_by : Sides → Plane → Face
turned_by s f = cond s.below (facing f) (cond s.above (facing (turned_of f)) Skip)

unfoldable pub face_of : Points → ℕ → ℕ → ℕ → Face
face_of pts i j k =
    let a = point pts i in
    let b = point pts j in
    let c = point pts k in
    let f = plane_through a b c in
    cond (thin a b c) Skip (turned_by (sides_of pts f (others (length pts) i j k)) f)
