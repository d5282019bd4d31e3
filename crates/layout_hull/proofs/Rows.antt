-- The three rows of the inverse, number by number. Assumes nothing.
use Rattle.std.proofs.Common.{◌≡◌, [], ◌∷◌, refl}
use lib.Ieee.{Float}
use Rattle.vector.specs.Vector.{Vector, x, y, z, cross_of, inverse_rows_of}
use Rattle.layout_hull.specs.Triplets.{inverse_by}
use Rattle.layout_hull.specs.Inner.Steps.{row_of}

pub rows_inverse : (a b c : Vector) (det : Float)
    → let r0 = row_of (cross_of b c) det in
    let r1 = row_of (cross_of c a) det in
    let r2 = row_of (cross_of a b) det in
    x r0 ∷ y r0 ∷ z r0 ∷ x r1 ∷ y r1 ∷ z r1 ∷ x r2 ∷ y r2 ∷ z r2 ∷ [] ≡ inverse_by a b c det
unfolding row_of inverse_by inverse_rows_of cross_of
rows_inverse a b c det = refl
