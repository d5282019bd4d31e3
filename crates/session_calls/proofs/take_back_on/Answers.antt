-- `session_calls::take_back_on` meets its contract: its refusals, then the count and two zeros stored. Assumes nothing.
use mathlib.Core.Path.{refl}
use lib.Ieee.{of_bits}
use Rattle.session_calls.proofs.Answers.{left_refused, accepted_as, taken_as}
use Rattle.session_calls.proofs.take_back_on.Goals as goal

pub returns-in_err-take_back_refusal : goal.returns-in_err-take_back_refusal
returns-in_err-take_back_refusal c = left_refused _ _ _ _ c.from_residual.ensures.1 c.in_err-take_back_refusal.ensures

pub returns : goal.returns
unfolding of_bits
returns c = accepted_as _ _ c.in_ok-take_back_refusal.ensures refl (taken_as _ _ c.put.ensures refl)
