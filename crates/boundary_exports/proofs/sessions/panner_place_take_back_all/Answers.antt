-- `boundary_exports::sessions::panner_place_take_back_all` meets its contract: the arrays hold what the calls left. Assumes nothing.
use Rattle.session_calls.specs.declared.Session.{Session}
use Rattle.boundary_records.specs.Sessions.{place_take_back}
use Rattle.boundary_exports.proofs.Answered.{left}
use Rattle.boundary_exports.proofs.sessions.panner_place_take_back_all.Goals as goal

pub returns : goal.returns
returns c =
    let given = c.args in
    let k = left given.bytes.now given.floats.now (λ (s : Session). place_take_back s given.source given.az.now given.el.now) c.taken_in-s.ensures c.place_take_back-r.ensures c.leave.ensures.number c.leave.ensures.bytes c.leave.ensures.floats in
    record { number = k.0; bytes = k.1.0; floats = k.1.1 }
