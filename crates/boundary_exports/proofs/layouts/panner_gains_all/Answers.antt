-- `boundary_exports::layouts::panner_gains_all` meets its contract: the rows of the record that was taken in. Assumes nothing.
use mathlib.Core.Path.{◌∙◌}
use Rattle.boundary_exports.proofs.Answered.{outputs_number}
use Rattle.boundary_exports.proofs.layouts.panner_gains_all.Goals as goal

pub returns : goal.returns
returns c = rw (← c.taken_in-p.ensures, ← c.num_outputs-answer.ensures) (record { number = c.number_in.ensures ∙ outputs_number _; buffer = c.rows.ensures })
