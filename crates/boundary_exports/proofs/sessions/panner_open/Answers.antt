-- `boundary_exports::sessions::panner_open` meets its contract: a refusal writes nothing, and an accepted open the session that it answers. Assumes nothing.
use mathlib.Core.Path.{sym, ap, ◌∙◌}
use Rattle.session_calls.proofs.Refusals.{refused}
use Rattle.session_open.specs.Open.{OpenAnswer, open_answer, refused_by}
use Rattle.boundary_records.specs.Sessions.{session_bytes, session_floats}
use borrow.Author.Tests.{ne_eqb}
use Rattle.boundary_exports.proofs.sessions.panner_open.Goals as goal
use Rattle.boundary_exports.proofs.sessions.panner_open.Goals.{in-Ok, in_default}

pub returns : goal.returns
unfolding refused_by
returns c =
    elim c.match-answer.branch [
      | in-Ok w ↦
          let e = ap open_answer (sym w.in-Ok.is) ∙ c.open-answer.ensures in
          rw (c.number_in.ensures, w.in-Ok.is)
          (record {
            number = ap (λ (o : OpenAnswer). o.number) e;
            imaginary = w.imaginary-is ∙ ap (λ (o : OpenAnswer). o.imaginary) e;
            bytes = w.bytes-is ∙ w.hand_out.ensures.bytes ∙ ap (λ (o : OpenAnswer). session_bytes o.session) e;
            floats = w.floats-is ∙ w.hand_out.ensures.floats ∙ ap (λ (o : OpenAnswer). session_floats o.session) e;
          })
      | in_default w ↦
          let e = ap open_answer (sym w.in_default.is) ∙ c.open-answer.ensures in
          rw (c.number_in.ensures, w.in_default.is)
          (record {
            number = ap (λ (o : OpenAnswer). o.number) e;
            imaginary = rw (ne_eqb _ 0 (refused w.in_default.field-0)) w.imaginary-is;
            bytes = rw (ne_eqb _ 0 (refused w.in_default.field-0)) w.bytes-is;
            floats = rw (ne_eqb _ 0 (refused w.in_default.field-0)) w.floats-is;
          })
    ]
