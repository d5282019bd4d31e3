-- `layout_planar::inverse_law` meets its contract: its two answers are the two cases of the test on the determinant. Assumes nothing.
use Rattle.vector.specs.Vector.{minor}
use Rattle.layout_planar.proofs.Chosen.{law_flat, law_inverse}
use Rattle.layout_planar.proofs.inverse_law.Goals as goal

pub returns-then-abs : goal.returns-then-abs
unfolding minor
returns-then-abs c = law_flat _ _ _ _ (rw (← c.abs.ensures) c.if-abs.true)

pub returns : goal.returns
unfolding minor
returns c =
    rw (c.narrow-4.ensures, c.narrow-3.ensures, c.narrow-2.ensures, c.narrow.ensures)
    (law_inverse _ _ _ _ (rw (← c.abs.ensures) c.if-abs.false))
