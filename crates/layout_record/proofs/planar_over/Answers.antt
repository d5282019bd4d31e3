-- `layout_record::planar_over` meets its contract: the two tests in their order. Assumes nothing.
use mathlib.Core.Bool.{◌||◌}
use mathlib.Core.Path.{ap₂, ◌∙◌}
use Rattle.layout_record.proofs.Numbers.{ring_out}
use Rattle.layout_record.proofs.planar_over.Goals as goal

pub returns : goal.returns
returns c = ap₂ ◌||◌ (rw c.ring_pairs.ensures at c.pairs_over.ensures) (rw c.ring_slots.ensures at c.over.ensures) ∙ ring_out _ _ _
