-- `vector::unit` meets its contract: the test on the length chooses the definition's case. Assumes nothing.
use lib.Ieee.{of_bits}
use Rattle.vector.specs.Vector.{unit_of}
use Rattle.vector.proofs.unit.Goals as goal

pub returns-then-l-is_finite : goal.returns-then-l-is_finite
unfolding unit_of of_bits
returns-then-l-is_finite c = rw (← c.widened-v.ensures, ← c.length64-l.ensures, ← c.is_finite.ensures, c.if-l-is_finite.true)

pub returns : goal.returns
unfolding unit_of of_bits
returns c = rw (← c.widened-v.ensures, ← c.length64-l.ensures, ← c.is_finite.ensures, c.if-l-is_finite.false, c.over.ensures)
