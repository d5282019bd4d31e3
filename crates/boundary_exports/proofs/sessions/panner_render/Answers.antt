-- `boundary_exports::sessions::panner_render` meets its contract: the arrays hold what the call left, and the outputs are those of the session that was taken in. Assumes nothing.
use Rattle.session_history.specs.Calls.{render}
use Rattle.session_calls.specs.declared.Session.{Session}
use Rattle.session_calls.specs.Session.{rendered_buffer}
use Rattle.session_calls.specs.Answers.{answer_of}
use Rattle.boundary_exports.proofs.Answered.{seen, left}
use Rattle.boundary_exports.proofs.sessions.panner_render.Goals as goal

pub returns : goal.returns
returns c =
    let given = c.args in
    let k = left given.bytes.now given.floats.now (λ (s : Session). answer_of s (render given.block given.samples.now given.outputs.now)) c.taken_in-s.ensures c.render_on-r.ensures.value c.leave.ensures.number c.leave.ensures.bytes c.leave.ensures.floats in
    record {
      number = k.0;
      bytes = k.1.0;
      floats = k.1.1;
      buffer = seen (λ (s : Session). rendered_buffer s given.block given.samples.now given.outputs.now) c.taken_in-s.ensures c.render_on-r.ensures.outputs_after;
    }
