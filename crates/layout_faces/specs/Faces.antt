-- Document 01, "Layout", the paragraph "Hull" ("A triple i < j < k is kept or skipped by the tests of `hull_triplets`, in their order"); source lines 258 to 306: the tests of a triple for a face of the hull, 1 to 3 of 5. The others stand in crates layout_fan and layout_hull.
-- A point is a vector in 64 bits; points are told by their numbers in a list, the real ones first. Assumes nothing.
use Rattle.std.specs.Prelude.{ℕ, Bool, ◌||◌, not, cond, List, [], eqb, get_or, Float}
use Rattle.std.specs.Float.{binary64}
use Rattle.std.specs.Float.Ieee.{sub, neg, lt, of_bits}
use Rattle.lists.specs.Lists.{range, filter, every}
use Rattle.vector.specs.Vector.{Vector, Points, dot_of, cross_of, less_of, over_of, negated_of, length_of}
use Rattle.layout_faces.specs.declared.Plane.{Plane as OfCode}

-- ---- tolerances

-- 1e-9. Origin: vbap.rs line 274; guards the division by a normal's length.
abbrev pub least_normal : Float
least_normal = of_bits binary64 0x3e11_2e0b_e826_d695

-- EPS, 1e-7. Origin: vbap.rs line 263; how far a point may stand over a face's plane.
abbrev pub eps : Float
eps = of_bits binary64 0x3e7a_d7f2_9abc_af48

-- 1e-4. Origin: vbap.rs line 303; the least distance of a face's plane from the origin.
abbrev pub least_distance : Float
least_distance = of_bits binary64 0x3f1a_36e2_eb1c_432d

-- ---- a triple's plane, and where the other points stand

-- a face's plane, as the code has it: its unit normal, and its distance from the origin along that
abbrev pub Plane : Type 0
Plane = OfCode

abbrev pub point : Points → ℕ → Vector
point pts p = get_or pts p []

-- the points but the triple's own
abbrev pub is_other : ℕ → ℕ → ℕ → ℕ → Bool
is_other i j k p = not (eqb p i || eqb p j || eqb p k)

unfoldable pub others : ℕ → ℕ → ℕ → ℕ → List ℕ
others n i j k = filter (is_other i j k) (range n)

-- how far point p stands over the plane
unfoldable pub height : Points → Plane → ℕ → Float
height pts f p = sub binary64 (dot_of f.nrm (point pts p)) f.d

unfoldable pub raw_normal : Vector → Vector → Vector → Vector
raw_normal a b c = cross_of (less_of b a) (less_of c a)

-- 1: the normal of the plane through the triple, before it is scaled, is at least 1e-9 long; not so where the triple is thin
abbrev pub thin : Vector → Vector → Vector → Bool
thin a b c = lt (length_of (raw_normal a b c)) least_normal

unfoldable pub plane_through : Vector → Vector → Vector → Plane
plane_through a b c =
    let u = over_of (raw_normal a b c) (length_of (raw_normal a b c)) in
    record { nrm = u; d = dot_of u a }

-- 2: no other point above the plane, or none below it
unfoldable pub all_below : Points → Plane → List ℕ → Bool
all_below pts f ps = every (λ p. not (lt eps (height pts f p))) ps

unfoldable pub all_above : Points → Plane → List ℕ → Bool
all_above pts f ps = every (λ p. not (lt (height pts f p) (neg eps))) ps

abbrev pub one_sided : Points → Plane → List ℕ → Bool
one_sided pts f ps = all_below pts f ps || all_above pts f ps

-- the normal turned outward
unfoldable pub outward : Bool → Plane → Plane
outward below f = cond below f (record { nrm = negated_of f.nrm; d = neg f.d })

-- 3: the outward plane is at least 1e-4 from the origin, on the outer side; not so where it is close
abbrev pub close : Float → Bool
close d = lt d least_distance
