-- A determinant and the rows of an inverse are products of vectors. Each side computes to the same numbers. Assumes nothing.
use mathlib.Core.Path.{◌≡◌, refl}
use mathlib.Core.List.{◌++◌}
use Rattle.vector.specs.Vector.{Vector, dot_in, dot_of, cross_of, determinant_of, inverse_rows_of}

module _ (a b c : Vector) where
  pub determinant_dot : determinant_of a b c ≡ dot_of a (cross_of b c)
  unfolding determinant_of dot_of dot_in cross_of
  determinant_dot = refl

  pub rows_cross : inverse_rows_of a b c ≡ cross_of b c ++ cross_of c a ++ cross_of a b
  unfolding inverse_rows_of cross_of
  rows_cross = refl
