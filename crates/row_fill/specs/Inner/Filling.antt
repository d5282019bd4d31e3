-- Document 01, "A row" (Hull); source lines 550 to 572: a triplet's gains in their places, told of the record's flat arrays. That they make up `hull_row` is shown in crate row_hull. Assumes nothing.
use Rattle.std.specs.Prelude.{ℕ, ◌+◌, ◌-◌, ◌*◌, min, Bool, ◌&&◌, not, cond, ltb, length, get_or, take, replicate, Float}
use mathlib.Core.List.{List, [], ◌∷◌, foldl}
use Rattle.std.specs.Float.{nan, binary32}
use Rattle.std.specs.Float.Ieee.{div, lt}
use Rattle.lists.specs.Lists.{range, is_empty, part}
use Rattle.float_order.specs.Values.{+0, count32}
use Rattle.float_order.specs.Order.{max_of}
use Rattle.float_root.specs.Root.{sqrt_of}
use Rattle.vector.specs.Limits.{max_imaginary}
use Rattle.row_places.specs.Places.{add_at}
use Rattle.layout_record.specs.declared.VbapPanner.{VbapPanner}

-- ---- a gain to a real point's slot, or to an imaginary point's sum

unfoldable pub to_real : List ℕ → List Float → ℕ → Float → List Float
to_real slots row p g = cond (ltb p (length slots)) (add_at row (get_or slots p 0) (max_of g +0)) row

unfoldable pub to_imag : ℕ → List Float → ℕ → Float → List Float
to_imag nreal imag p g = cond (ltb p nreal) imag (add_at imag (min (p - nreal) (max_imaginary - 1)) (max_of g +0))

-- the three points of triplet t, whose numbers stand one after the other
abbrev pub corners : List ℕ → ℕ → List ℕ
corners idx t = get_or idx (t * 3) 0 ∷ get_or idx (t * 3 + 1) 0 ∷ get_or idx (t * 3 + 2) 0 ∷ []

-- the gains of three points
unfoldable pub real_points : List ℕ → List ℕ → List Float → List Float → List Float
real_points slots points g row =
    to_real slots (to_real slots (to_real slots row (get_or points 0 0) (get_or g 0 nan)) (get_or points 1 0) (get_or g 1 nan)) (get_or points 2 0) (get_or g 2 nan)

unfoldable pub imag_points : ℕ → List ℕ → List Float → List Float
imag_points nreal points g =
    let none_yet = replicate max_imaginary +0 in
    to_imag nreal (to_imag nreal (to_imag nreal none_yet (get_or points 0 0) (get_or g 0 nan)) (get_or points 1 0) (get_or g 1 nan)) (get_or points 2 0) (get_or g 2 nan)

-- whether all three are real
unfoldable pub is_real : ℕ → List ℕ → Bool
is_real nreal points = ltb (get_or points 0 0) nreal && ltb (get_or points 1 0) nreal && ltb (get_or points 2 0) nreal

-- ---- an imaginary gain to its neighbours, and those of the first n imaginary points

abbrev pub add_each : Float → List Float → List ℕ → List Float
add_each w row slots = foldl (λ r o. add_at r o w) row slots

unfoldable pub shared_by : List ℕ → Float → List Float → List Float
shared_by nbrs g row =
    let w = div binary32 g (sqrt_of binary32 (count32 (length nbrs))) in
    cond (lt +0 g && not (is_empty nbrs)) (add_each w row nbrs) row

-- the neighbours of imaginary point k stand in part k of 40. Origin of 40: document 01, "Returned numbers", neighbours of one.
unfoldable pub shared_at : List ℕ → List ℕ → List Float → List Float → ℕ → List Float
shared_at counts nbrs imag row k = shared_by (take (get_or counts k 0) (part 40 nbrs k)) (get_or imag k nan) row

unfoldable pub shared_out : List ℕ → List ℕ → List Float → ℕ → List Float → List Float
shared_out counts nbrs imag n row = foldl (shared_at counts nbrs imag) row (range n)

-- ---- the gains of triplet t of a record in a row of n places, with the slots of its real points

unfoldable pub placed : List ℕ → VbapPanner → ℕ → List Float → ℕ → List Float
placed slots v t g n =
    let points = corners v.idx t in
    shared_out v.num_nbrs v.imag_nbrs (imag_points (length slots) points g) v.num_imag (real_points slots points g (replicate n +0))
