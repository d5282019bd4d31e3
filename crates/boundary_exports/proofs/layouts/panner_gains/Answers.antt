-- `boundary_exports::layouts::panner_gains` meets its contract: the row of the record that was taken in. Assumes nothing.
use mathlib.Core.Path.{◌∙◌}
use Rattle.boundary_exports.proofs.layouts.panner_gains.Goals as goal

pub returns : goal.returns
returns c =
    rw (← c.taken_in-p.ensures) (record { number = c.number_in.ensures ∙ c.gains-answer.ensures.value; buffer = c.gains-answer.ensures.out_after })
