-- What the functions of src/lib.rt answer on the way to the definitions of `Fan`. Assumes nothing.
use Rattle.std.specs.Prelude.{ℕ, Bool, ◌&&◌, List, eqb, length, Float}
use Rattle.std.specs.Float.{binary64}
use Rattle.std.specs.Float.Ieee.{sub, neg, le}
use Rattle.lists.specs.Lists.{position}
use Rattle.float_order.specs.Remainder.{rem_euclid_of}
use Rattle.float_sine.specs.Pi.{two_pi}
use Rattle.float_arctangent.specs.Arctangent.{atan2_of}
use Rattle.vector.specs.Vector.{Vector, Points, dot_of, cross_of}
use Rattle.angle_sort.specs.declared.Spot.{Spot}
use Rattle.layout_faces.specs.Faces.{Plane, eps, others, is_other}
use Rattle.layout_faces.specs.Inner.Steps.{height_of}
use Rattle.layout_fan.specs.declared.Basis.{Basis}
use Rattle.layout_fan.specs.Fan.{coplanar, basis_u, in_fan}

-- point p, which lies at v, is none of the triple and coplanar with it
unfoldable pub is_coplanar : ℕ → ℕ → ℕ → Plane → ℕ → Vector → Bool
is_coplanar i j k f p v = is_other i j k p && le (neg eps) (height_of f v)

-- the basis in the plane with the normal, as the code has it
abbrev pub basis_of : Vector → Basis
basis_of nrm = record { u = basis_u nrm; v = cross_of nrm (basis_u nrm) }

abbrev pub angle_by : Basis → Vector → Float
angle_by b p = atan2_of (dot_of p b.v) (dot_of p b.u)

-- point p, which lies at v, with its angle from the first one's on
abbrev pub spot_of : Basis → Float → ℕ → Vector → Spot
spot_of b first p v = record { angle = rem_euclid_of binary64 (sub binary64 (angle_by b v) first) two_pi; number = p }

unfoldable pub pos_of : ℕ → List Spot → ℕ
pos_of p l = position (λ s. eqb s.number p) l

unfoldable pub fan_test : Points → ℕ → ℕ → ℕ → Plane → Bool
fan_test pts i j k f = in_fan pts f.nrm i j k (coplanar pts f (others (length pts) i j k))
