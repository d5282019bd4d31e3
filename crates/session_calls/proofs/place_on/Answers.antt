-- `session_calls::place_on` meets its contract: its refusals, then the count and the direction stored. Assumes nothing.
use mathlib.Core.Path.{refl}
use Rattle.session_calls.proofs.Answers.{left_refused, accepted_as, placed_as}
use Rattle.session_calls.proofs.place_on.Goals as goal

pub returns-in_err-place_refusal : goal.returns-in_err-place_refusal
returns-in_err-place_refusal c = left_refused _ _ _ _ c.from_residual.ensures.1 (c.in_err-place_refusal.ensures _ _)

pub returns : goal.returns
returns c =
    accepted_as _ _ (c.in_ok-place_refusal.ensures _ _) refl
    (placed_as _ _ _ _ c.finite_or_0-az.ensures c.finite_or_0-el.ensures c.put.ensures refl)
