-- Document 01, "Layout", the paragraph "Hull" (poles, candidates, "While the hull is open"); source lines 58 to 78 and 364 to 397: imaginary_candidates and the first part of build_hull. Assumes nothing.
use Rattle.std.specs.Prelude.{ℕ, zero, suc, ◌-◌, Bool, true, false, ◌&&◌, not, cond, ltb, length, Float}
use mathlib.Core.List.{List, [], ◌∷◌, ◌++◌, map, foldl}
use Rattle.std.proofs.Math.Option.{Option, none, some}
use Rattle.std.specs.Float.{inf, binary64}
use Rattle.std.specs.Float.Ieee.{sub, neg, lt, le, of_bits}
use Rattle.lists.specs.Lists.{last, any}
use Rattle.float_order.specs.Values.{+0, 1·0}
use Rattle.float_order.specs.Order.{max_of}
use Rattle.vector.specs.Limits.{max_imaginary}
use Rattle.vector.specs.Vector.{Vector, Points, dot_of}
use Rattle.layout_hull.specs.Triplets.{triplets_of, closed}

-- ---- poles and candidates

-- 1 − 1e-6 in 64 bits, rounded. Origin: vbap.rs lines 370 and 385; "almost there".
abbrev pub almost : Float
almost = of_bits binary64 0x3fef_fffd_e721_0be9

-- the dot product with the nearest point, the greatest of all. Origin of −∞, where there are none: vbap.rs line 384.
unfoldable pub nearest_product : Points → Vector → Float
nearest_product pts c = foldl max_of (inf true) (map (λ p. dot_of p c) pts)

unfoldable pub passed_over : Points → Vector → Bool
passed_over pts c = le almost (nearest_product pts c)

-- h = 1 ÷ √3 in 64 bits, both rounded. Origin: vbap.rs line 64.
abbrev pub h : Float
h = of_bits binary64 0x3fe2_79a7_4590_331d

-- −1 and −h
abbrev pub −1 : Float
−1 = neg 1·0

abbrev pub −h : Float
−h = neg h

abbrev pub vector : Float → Float → Float → Vector
vector a b c = a ∷ b ∷ c ∷ []

-- up and down. Origin of the numbers: vbap.rs lines 369 and 371
abbrev pub poles : Points
poles = vector +0 1·0 +0 ∷ vector +0 −1 +0 ∷ []

-- the six axes, then the eight cube diagonals. Origin: vbap.rs lines 65 to 77.
abbrev pub candidates : Points
candidates =
    vector +0 1·0 +0 ∷ vector +0 −1 +0 ∷ vector +0 +0 1·0 ∷ vector +0 +0 −1 ∷ vector 1·0 +0 +0 ∷ vector −1 +0 +0
    ∷ vector h h h ∷ vector −h h h ∷ vector h h −h ∷ vector −h h −h
    ∷ vector h −h h ∷ vector −h −h h ∷ vector h −h −h ∷ vector −h −h −h ∷ []

-- the points, and each pole that is not passed over
unfoldable pub with_pole : Points → Vector → Points
with_pole pts c = cond (passed_over pts c) pts (pts ++ c ∷ [])

unfoldable pub with_poles : Points → Points
with_poles pts = foldl with_pole pts poles

-- 1e-9 in 64 bits. Origin: vbap.rs line 388; a later candidate wins only when its product is lower by more than this, so that of equal ones the first is taken.
abbrev pub least_lead : Float
least_lead = of_bits binary64 0x3e11_2e0b_e826_d695

-- the candidate whose nearest point is farthest: with the least such product; a later one wins only when its product is below the earlier's less 1e-9
unfoldable pub wins : Points → Vector → Option Vector → Bool
wins pts c none = true
wins pts c (some b) = lt (nearest_product pts c) (sub binary64 (nearest_product pts b) least_lead)

unfoldable pub better : Points → Option Vector → Vector → Option Vector
better pts best c = cond (not (passed_over pts c) && wins pts c best) (some c) best

unfoldable pub candidate_of : Points → Option Vector
candidate_of pts = foldl (better pts) none candidates

-- ---- closing: the points of every list that is built on the way, at most n more of them

abbrev pub onward : (Points → List Points) → Points → Option Vector → List Points
onward f pts none = []
onward f pts (some c) = f (pts ++ c ∷ [])

unfoldable pub closing : ℕ → Points → List Points
closing zero pts = pts ∷ []
closing (suc n) pts = pts ∷ elim (closed pts) [ true ↦ [] | false ↦ onward (closing n) pts (candidate_of pts) ]

unfoldable pub stages : Points → List Points
stages real = let pts = with_poles real in closing (max_imaginary - (length pts - length real)) pts

unfoldable pub final_points : Points → Points
final_points real = last (stages real) []

-- a triplet list built on the way has more than 80 entries. Origin: document 01, refusal 4.
unfoldable pub overfull : Points → Bool
overfull real = any (λ pts. ltb 80 (length (triplets_of pts))) (stages real)
