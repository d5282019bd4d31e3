-- `boundary_exports::layouts::panner_new` meets its contract: a refusal writes nothing, and an accepted call the record that it answers. Assumes nothing.
use mathlib.Core.Path.{sym, ap, ◌∙◌}
use native.Mathlib.Omega.{arith}
use Rattle.layout_new.specs.Layout.{NewAnswer, new_answer}
use Rattle.session_calls.proofs.Refusals.{refused}
use Rattle.boundary_records.specs.Places.{record_byte_places, record_float_places}
use Rattle.boundary_records.specs.Records.{record_bytes, record_floats}
use Rattle.boundary_records.proofs.Laid.{laid_all}
use borrow.Author.Tests.{ne_eqb}
use Rattle.boundary_exports.proofs.layouts.panner_new.Goals as goal
use Rattle.boundary_exports.proofs.layouts.panner_new.Goals.{in-Ok, in_default}

pub returns : goal.returns
returns c =
    let a = c.args in
    elim c.match-answer.branch [
      | in-Ok w ↦
          let e = ap new_answer (sym w.in-Ok.is) ∙ c.new-answer.ensures in
          rw (c.number_in.ensures, w.in-Ok.is)
          (record {
            number = ap (λ (o : NewAnswer). o.number) e;
            imaginary = w.imaginary-is ∙ ap (λ (o : NewAnswer). o.imaginary) e;
            bytes = w.bytes-is ∙ laid_all _ a.bytes.now record_byte_places (omega arith) w.hand_out.ensures.bytes ∙ ap (λ (o : NewAnswer). record_bytes o.panner) e;
            floats = w.floats-is ∙ laid_all _ a.floats.now record_float_places (omega arith) w.hand_out.ensures.floats ∙ ap (λ (o : NewAnswer). record_floats o.panner) e;
          })
      | in_default w ↦
          let e = ap new_answer (sym w.in_default.is) ∙ c.new-answer.ensures in
          rw (c.number_in.ensures, w.in_default.is)
          (record {
            number = ap (λ (o : NewAnswer). o.number) e;
            imaginary = rw (ne_eqb _ 0 (refused w.in_default.field-0)) w.imaginary-is;
            bytes = rw (ne_eqb _ 0 (refused w.in_default.field-0)) w.bytes-is;
            floats = rw (ne_eqb _ 0 (refused w.in_default.field-0)) w.floats-is;
          })
    ]
