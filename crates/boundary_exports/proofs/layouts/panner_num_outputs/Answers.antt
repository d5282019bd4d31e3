-- `boundary_exports::layouts::panner_num_outputs` meets its contract: the answer of the record that was taken in, and nothing is written beside 11. Assumes nothing.
use mathlib.Core.Path.{sym, ap, ◌∙◌}
use Rattle.layout_record.specs.Malformed.{Outputs, outputs_answer}
use Rattle.session_calls.proofs.Refusals.{refused}
use borrow.Author.Tests.{ne_eqb}
use Rattle.boundary_exports.proofs.layouts.panner_num_outputs.Goals as goal
use Rattle.boundary_exports.proofs.layouts.panner_num_outputs.Goals.{in-Ok, in_default}

pub returns : goal.returns
returns c =
    rw (← c.taken_in-p.ensures)
    (elim c.match-counted.branch [
      | in-Ok w ↦
          let e = ap outputs_answer (sym w.in-Ok.is) ∙ c.num_outputs-counted.ensures in
          rw (c.number_in.ensures, w.in-Ok.is) (record { number = ap (λ (o : Outputs). o.number) e; count = w.count-is ∙ ap (λ (o : Outputs). o.count) e })
      | in_default w ↦
          let e = ap outputs_answer (sym w.in_default.is) ∙ c.num_outputs-counted.ensures in
          rw (c.number_in.ensures, w.in_default.is) (record { number = ap (λ (o : Outputs). o.number) e; count = rw (ne_eqb _ 0 (refused w.in_default.field-0)) w.count-is })
    ])
