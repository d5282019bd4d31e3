-- `layout_record::hull_over` meets its contract: the three tests in their order. Assumes nothing.
use mathlib.Core.Bool.{◌||◌}
use mathlib.Core.Path.{ap₂, ◌∙◌}
use Rattle.layout_record.proofs.Numbers.{points_out}
use Rattle.layout_record.proofs.hull_over.Goals as goal

pub returns : goal.returns
returns c = ap₂ ◌||◌ (ap₂ ◌||◌ (rw c.real_slots.ensures at c.over.ensures) c.neighbours_over.ensures) c.over-2.ensures ∙ points_out _ _ _ _ _ _
