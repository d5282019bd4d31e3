-- Document 01, "A row" (Hull); source lines 513 to 581: the steps of a row, each told of the record's flat arrays that it reads. That they make up `hull_row` is shown in proofs/. Assumes nothing.
use Rattle.std.specs.Prelude.{ℕ, ◌+◌, ◌*◌, length, get_or, set, take, Float}
use mathlib.Core.List.{List, [], ◌∷◌, map, foldl}
use Rattle.std.specs.Float.{nan, binary32}
use Rattle.std.specs.Float.Ieee.{add, mul}
use Rattle.lists.specs.Lists.{range, part}
use Rattle.float_order.specs.Values.{+0, 1·0}
use Rattle.float_order.specs.Order.{min_of, square_of}
use Rattle.vector.specs.Vector.{Vector, dot_in}
use Rattle.row_greatest.specs.Greatest.{first_greatest}
use Rattle.layout_record.specs.Shape.{HullShape}
use Rattle.layout_record.specs.Panner.{hull_in, shape_in}
use Rattle.layout_record.specs.declared.Kind.TheVariants.{Hull}
use Rattle.layout_record.specs.declared.VbapPanner.{VbapPanner}

-- ---- the hull that a record holds

abbrev pub hull_shape : VbapPanner → HullShape
hull_shape v = hull_in (shape_in v Hull)

-- ---- the gains of a triplet

-- the inverse of triplet t: entry e at e * 80 + t. Origin of 80: the most triplets, document 01, "Returned numbers"; of 9: three rows of three numbers.
unfoldable pub inverse_at : List Float → ℕ → List Float
inverse_at inv t = map (λ e. get_or inv (e * 80 + t) nan) (range 9)

unfoldable pub gain_at : Vector → List Float → ℕ → ℕ → Float
gain_at s inv t r = dot_in binary32 (part 3 (inverse_at inv t) r) s

abbrev pub gains_at : Vector → List Float → ℕ → List Float
gains_at s inv t = gain_at s inv t 0 ∷ gain_at s inv t 1 ∷ gain_at s inv t 2 ∷ []

unfoldable pub least_at : Vector → List Float → ℕ → Float
least_at s inv t = min_of (min_of (gain_at s inv t 0) (gain_at s inv t 1)) (gain_at s inv t 2)

-- of the first n triplets; and the products of the first n points with the direction
unfoldable pub leasts_of : Vector → List Float → ℕ → List Float
leasts_of s inv n = map (least_at s inv) (range n)

unfoldable pub products_of : Vector → List Float → ℕ → List Float
products_of s dirs n = map (λ i. dot_in binary32 (part 3 dirs i) s) (range n)

-- 1 in the slot of the nearest of the first n points; where there is none, in no place
unfoldable pub nearest_in : Vector → List ℕ → List Float → ℕ → List Float → List Float
nearest_in s slots dirs n row = set row (get_or (take n slots) (first_greatest 0 (products_of s dirs n)) (length row)) 1·0

-- ---- the power of a row

abbrev pub power_of : List Float → Float
power_of row = foldl (λ p g. add binary32 p (square_of g)) +0 row

abbrev pub times_of : Float → List Float → List Float
times_of x row = map (λ g. mul binary32 g x) row
