-- Document 01, "Layout" and "Returned numbers" (11): which layouts the flat record holds, and the statements that what is laid is read back and is not malformed. Assumes nothing.
use Rattle.std.specs.Prelude.{ℕ, ◌+◌, ◌≤◌, ◌≡◌, true, false, eqb, ltb, leb, length}
use Rattle.lists.specs.Lists.{every}
use Rattle.layout_record.specs.Shape.{HullShape, Shape, silent, mono, planar, hull, Layout}
use Rattle.layout_record.specs.Panner.{hull_in, laid, layout_in}
use Rattle.layout_record.specs.Malformed.{used_slots, used_points, malformed_of}

-- ---- a layout that fits the record: its lists are no longer than the arrays, a direction has three numbers, an inverse nine. Origin of the bounds: document 01, "Returned numbers".

pub record HullFits (h : HullShape) : Type 0 where
  pub out : length h.out ≤ 40
  pub dirs : length h.dirs ≡ length h.out
  pub three : every (λ d. eqb (length d) 3) h.dirs ≡ true
  pub tris : length h.tris ≤ 80
  pub nine : every (λ t. eqb (length t.inv) 9) h.tris ≡ true
  pub imag : length h.imag ≤ 14
  pub nbrs : every (λ ns. leb (length ns) 40) h.imag ≡ true

abbrev pub ShapeFits : Shape → Type 0
ShapeFits silent = Unit
ShapeFits (mono i) = Unit
ShapeFits (planar ps ss) = (length ps ≤ 40) × (length ss ≤ 40)
ShapeFits (hull h) = HullFits h

-- ---- and its numbers are below what they count: slots below outputs, points below real plus imaginary

unfoldable pub point_count : Shape → ℕ
point_count s = length (hull_in s).out + length (hull_in s).imag

pub record LayoutFits (l : Layout) : Type 0 where
  pub outputs : l.outputs ≤ 40
  pub shape : ShapeFits l.shape
  pub slots : every (λ o. ltb o l.outputs) (used_slots l.shape) ≡ true
  pub points : every (λ p. ltb p (point_count l.shape)) (used_points l.shape) ≡ true

-- ---- the statements

-- what is laid is read back
abbrev pub ReadBack : Type 0
ReadBack = (l : Layout) → ShapeFits l.shape → layout_in (laid l) ≡ l

-- what is laid is not malformed
abbrev pub WellFormed : Type 0
WellFormed = (l : Layout) → LayoutFits l → malformed_of (laid l) ≡ false
