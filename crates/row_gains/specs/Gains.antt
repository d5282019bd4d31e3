-- Document 01, "A row", and 11 of "Returned numbers"; source lines 441 to 583: gains, num_outputs.
-- Free to the program: the sign and payload of a NaN in a row of a layout made by hand. Every choice is a NaN, the only one that the logic has; a layout from `new` gives none (crate theorem_rows). Assumes nothing.
use Rattle.std.specs.Prelude.{ℕ, min, cond, List, ◌++◌, length, set, drop, replicate, Float}
use Rattle.float_order.specs.Values.{+0, 1·0, is_finite}
use Rattle.layout_record.specs.declared.VbapPanner.{VbapPanner}
use Rattle.layout_record.specs.Shape.{Shape, silent, mono, planar, hull, Layout}
use Rattle.layout_record.specs.Panner.{layout_in}
use Rattle.layout_record.specs.Malformed.{malformed_of}
use Rattle.row_planar.specs.PlanarRow.{planar_row}
use Rattle.row_hull.specs.HullRow.{hull_row}

-- a non-finite angle counts as +0
unfoldable pub finite_or0 : Float → Float
finite_or0 x = cond (is_finite x) x +0

-- ---- a row, and the buffer after `gains`

unfoldable pub row_in : ℕ → Float → Float → Shape → List Float
row_in n az el silent = replicate n +0
row_in n az el (mono i) = set (replicate n +0) i 1·0
row_in n az el (planar pairs slots) = planar_row n az el pairs slots
row_in n az el (hull h) = hull_row n az el h

-- by the layout and the two angles
unfoldable pub row_of : Layout → ℕ → Float → Float → List Float
row_of l n az el = row_in n (finite_or0 az) (finite_or0 el) l.shape

-- slots from n on stay
unfoldable pub gains_of : Layout → Float → Float → List Float → List Float
gains_of l az el buffer =
    let n = min l.outputs (length buffer) in
    row_of l n az el ++ drop n buffer

-- ---- by the record: 11 for a malformed one, buffer unchanged; else 0

unfoldable pub gains_number : VbapPanner → ℕ
gains_number v = cond (malformed_of v) 11 0

unfoldable pub gains_buffer : VbapPanner → Float → Float → List Float → List Float
gains_buffer v az el buffer = let after = gains_of (layout_in v) az el buffer in cond (malformed_of v) buffer after
