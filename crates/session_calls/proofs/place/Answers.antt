-- `session_calls::place` meets its contract: a refused session is not given back, and an accepted one is what the call on the lent one left. Assumes nothing.
use Rattle.session_calls.proofs.Answers.{answered_refused}
use Rattle.session_calls.proofs.place.Goals as goal

pub returns-in_err-place_on : goal.returns-in_err-place_on
returns-in_err-place_on c = answered_refused _ _ _ _ _ c.from_residual.ensures.1 c.in_err-place_on.ensures
