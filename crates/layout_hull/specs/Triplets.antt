-- Document 01, "Layout", the paragraph "Hull" ("A triple i < j < k is kept or skipped by the tests of `hull_triplets`, in their order"); source lines 258 to 362: hull_triplets. What tests 1 to 3 compare is defined in crate layout_faces, what 4 compares in crate layout_fan.
-- A point is a vector in 64 bits; points are told by their numbers in a list, the real ones first. Assumes nothing.
use Rattle.std.specs.Prelude.{ℕ, suc, Bool, true, false, ◌&&◌, not, cond, leb, length, Float}
use mathlib.Core.List.{List, map, flat_map}
use Rattle.std.proofs.Math.Option.{Option, none, some}
use Rattle.std.specs.Float.{binary64}
use Rattle.std.specs.Float.Ieee.{div, lt, of_bits}
use Rattle.lists.specs.Lists.{range, between, collect, any, is_empty}
use Rattle.float_order.specs.Values.{abs}
use Rattle.float_widths.specs.Narrow.{narrow_of}
use Rattle.vector.specs.Vector.{Vector, Points, determinant_of, inverse_rows_of}
use Rattle.layout_faces.specs.Faces.{Plane, point, others, thin, plane_through, all_below, one_sided, outward, close}
use Rattle.layout_fan.specs.Fan.{coplanar, in_fan}

-- ---- a triple's tests, in their order

-- a triplet: three point numbers, i < j < k, and the rows of the inverse of their matrix, in 32 bits
pub record Triplet : Type 0 where
  pub i : ℕ
  pub j : ℕ
  pub k : ℕ
  pub inv : List Float

-- what becomes of a triple; `open_hull` is a skipped one that shows that the hull does not surround the listener
pub data Verdict : Type 0 where
  skip : Verdict
  open_hull : Verdict
  keep : Triplet → Verdict

-- 5: the determinant is at least 1e-9. Origin: vbap.rs line 345; guards the division by it.
abbrev pub least_determinant : Float
least_determinant = of_bits binary64 0x3e11_2e0b_e826_d695

abbrev pub singular : Vector → Vector → Vector → Bool
singular a b c = lt (abs (determinant_of a b c)) least_determinant

-- the rows of the inverse of the matrix with the columns a, b and c, over the determinant, narrowed
unfoldable pub inverse_by : Vector → Vector → Vector → Float → List Float
inverse_by a b c det = map (λ r. narrow_of (div binary64 r det)) (inverse_rows_of a b c)

abbrev pub inverse_of : Vector → Vector → Vector → List Float
inverse_of a b c = inverse_by a b c (determinant_of a b c)

-- by the outward plane f. 3: where it is close, the hull is open. Then 4 and 5
unfoldable pub verdict_by : Points → ℕ → ℕ → ℕ → Plane → Verdict
verdict_by pts p q r f =
    let a = point pts p in
    let b = point pts q in
    let c = point pts r in
    let flat = coplanar pts f (others (length pts) p q r) in
    cond (close f.d) open_hull
    (cond (not (in_fan pts f.nrm p q r flat)) skip
    (cond (singular a b c) skip
    (keep (record { i = p; j = q; k = r; inv = inverse_of a b c }))))

-- the plane through the triple, turned outward
abbrev pub plane_out : Points → ℕ → ℕ → ℕ → Plane
plane_out pts i j k =
    let f = plane_through (point pts i) (point pts j) (point pts k) in
    outward (all_below pts f (others (length pts) i j k)) f

-- 1, 2, then by the plane turned outward
unfoldable pub verdict : Points → ℕ → ℕ → ℕ → Verdict
verdict pts i j k =
    let a = point pts i in
    let b = point pts j in
    let c = point pts k in
    cond (thin a b c) skip
    (cond (not (one_sided pts (plane_through a b c) (others (length pts) i j k))) skip
    (verdict_by pts i j k (plane_out pts i j k)))

-- ---- all triples i < j < k, in order

unfoldable pub verdicts : Points → List Verdict
verdicts pts =
    let n = length pts in
    flat_map (λ i. flat_map (λ j. map (λ k. verdict pts i j k) (between (suc j) n)) (between (suc i) n)) (range n)

unfoldable pub kept : Verdict → Option Triplet
kept skip = none
kept open_hull = none
kept (keep t) = some t

unfoldable pub opens : Verdict → Bool
opens skip = false
opens open_hull = true
opens (keep t) = false

-- the kept triplets, and whether the hull is closed: four points or more (origin of 4: vbap.rs line 264), no triple that opens it, some triplet
unfoldable pub triplets_of : Points → List Triplet
triplets_of pts = collect kept (verdicts pts)

unfoldable pub closed : Points → Bool
closed pts = leb 4 (length pts) && not (any opens (verdicts pts)) && not (is_empty (triplets_of pts))
