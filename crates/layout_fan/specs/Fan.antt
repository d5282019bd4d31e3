-- Document 01, "Layout", the paragraph "Hull"; source lines 307 to 343: test 4 of 5 of a triple. Coplanar points make one fan, from the lowest of them; j and k are neighbours in it. Assumes nothing.
use Rattle.std.specs.Prelude.{ℕ, ◌+◌, Bool, ◌&&◌, ◌||◌, cond, List, [], ◌∷◌, map, eqb, ltb, Float}
use Rattle.std.specs.Float.{binary64}
use Rattle.std.specs.Float.Ieee.{sub, neg, lt, le, of_bits}
use Rattle.lists.specs.Lists.{filter, every, is_empty, position}
use Rattle.float_order.specs.Values.{+0, 1·0, abs}
use Rattle.float_order.specs.Remainder.{rem_euclid_of}
use Rattle.float_sine.specs.Pi.{two_pi}
use Rattle.float_arctangent.specs.Arctangent.{atan2_of}
use Rattle.vector.specs.Vector.{Vector, Points, x, dot_of, cross_of, over_of, length_of}
use Rattle.angle_sort.specs.declared.Spot.{Spot}
use Rattle.angle_sort.specs.Order.{sorted_of}
use Rattle.layout_faces.specs.Faces.{Plane, eps, point, height}

-- 0.9. Origin: vbap.rs line 325; from there on a normal counts as along the first axis.
abbrev pub steep : Float
steep = of_bits binary64 0x3fec_cccc_cccc_cccd

-- those of the points that stand at most 1e-7 (`eps`) under the plane
unfoldable pub coplanar : Points → Plane → List ℕ → List ℕ
coplanar pts f ps = filter (λ p. le (neg eps) (height pts f p)) ps

-- a basis in the plane. Origin of the two axes: vbap.rs line 325
unfoldable pub helper : Vector → Vector
helper nrm = cond (lt (abs (x nrm)) steep) (1·0 ∷ +0 ∷ +0 ∷ []) (+0 ∷ 1·0 ∷ +0 ∷ [])

unfoldable pub basis_u : Vector → Vector
basis_u nrm = let u = cross_of nrm (helper nrm) in over_of u (length_of u)

unfoldable pub angle_in : Vector → Vector → Float
angle_in nrm p = let u = basis_u nrm in atan2_of (dot_of p (cross_of nrm u)) (dot_of p u)

-- j, k and the coplanar points by their angles from i, equals in this order
unfoldable pub fan : Points → Vector → ℕ → List ℕ → List Spot
fan pts nrm i ps =
    let am = angle_in nrm (point pts i) in
    sorted_of (map (λ p. record { angle = rem_euclid_of binary64 (sub binary64 (angle_in nrm (point pts p)) am) two_pi; number = p }) ps)

-- places p and q are one apart
abbrev pub next_to : ℕ → ℕ → Bool
next_to p q = eqb q (p + 1) || eqb p (q + 1)

unfoldable pub adjacent : ℕ → ℕ → List Spot → Bool
adjacent j k l = next_to (position (λ s. eqb s.number j) l) (position (λ s. eqb s.number k) l)

unfoldable pub in_fan : Points → Vector → ℕ → ℕ → ℕ → List ℕ → Bool
in_fan pts nrm i j k ps =
    is_empty ps || (every (λ p. ltb i p) ps && adjacent j k (fan pts nrm i (j ∷ k ∷ ps)))
