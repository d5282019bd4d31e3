-- Document 01, "Layout": the four kinds with what each reaches; source lines 95 to 141: Triplet, Kind, VbapPanner.
-- A layout as the source has it, with lists of any length. Panner.antt lays it into the flat record. Assumes nothing.
use Rattle.std.specs.Prelude.{ℕ, List, [], ◌∷◌, length}
use Rattle.vector.specs.Vector.{Points}
use Rattle.layout_planar.specs.declared.PlanarPair.{PlanarPair}
use Rattle.layout_hull.specs.Triplets.{Triplet}

pub record HullShape : Type 0 where
  -- output slot and unit direction, in 32 bits, of every real point
  pub out : List ℕ
  pub dirs : Points
  pub tris : List Triplet
  -- the slots that stand in for each imaginary point
  pub imag : List (List ℕ)

-- a kind with what it reaches
pub data Shape : Type 0 where
  silent : Shape
  mono : ℕ → Shape
  planar : List PlanarPair → List ℕ → Shape
  hull : HullShape → Shape

pub record Layout : Type 0 where
  pub outputs : ℕ
  pub shape : Shape

-- a triplet's point numbers
abbrev pub numbers : Triplet → List ℕ
numbers t = t.i ∷ t.j ∷ t.k ∷ []

-- how many imaginary points were made, poles counted, 0 where the layout is no hull
unfoldable pub imaginary_in : Shape → ℕ
imaginary_in silent = 0
imaginary_in (mono i) = 0
imaginary_in (planar ps ss) = 0
imaginary_in (hull h) = length h.imag
