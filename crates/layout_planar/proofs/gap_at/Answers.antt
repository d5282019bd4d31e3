-- `layout_planar::gap_at` meets its contract: its two answers are the two cases of the test on the gap. Assumes nothing.
use Rattle.std.proofs.Common.{◌∙◌}
use Rattle.layout_planar.proofs.Chosen.{gap_round, gap_plain}
use Rattle.layout_planar.proofs.gap_at.Goals as goal

pub returns-then-m-i : goal.returns-then-m-i
returns-then-m-i c = gap_round _ _ _ _ (rw (← c.rem_euclid-gap.ensures) c.if-m-i.true)

pub returns : goal.returns
returns c = c.rem_euclid-gap.ensures ∙ gap_plain _ _ _ _ (rw (← c.rem_euclid-gap.ensures) c.if-m-i.false)
