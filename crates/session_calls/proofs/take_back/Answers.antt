-- `session_calls::take_back` meets its contract: a refused session is not given back, and an accepted one is what the call on the lent one left. Assumes nothing.
use Rattle.session_calls.proofs.Answers.{answered_refused}
use Rattle.session_calls.proofs.take_back.Goals as goal

pub returns-in_err-take_back_on : goal.returns-in_err-take_back_on
returns-in_err-take_back_on c = answered_refused _ _ _ _ _ c.from_residual.ensures.1 c.in_err-take_back_on.ensures
