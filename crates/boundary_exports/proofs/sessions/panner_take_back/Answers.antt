-- `boundary_exports::sessions::panner_take_back` meets its contract: the arrays hold what the call left. Assumes nothing.
use Rattle.session_calls.specs.declared.Session.{Session}
use Rattle.session_history.specs.Calls.{take_back}
use Rattle.session_calls.specs.Answers.{answer_of}
use Rattle.boundary_exports.proofs.Answered.{left}
use Rattle.boundary_exports.proofs.sessions.panner_take_back.Goals as goal

pub returns : goal.returns
returns c =
    let given = c.args in
    let k = left given.bytes.now given.floats.now (λ (s : Session). answer_of s (take_back given.source)) c.taken_in-s.ensures c.take_back_on-r.ensures c.leave.ensures.number c.leave.ensures.bytes c.leave.ensures.floats in
    record { number = k.0; bytes = k.1.0; floats = k.1.1 }
