-- `session_calls::settle_on` meets its contract: the shared refusals, then what stands decides. Assumes nothing.
use mathlib.Core.Path.{refl, sym, ◌∙◌}
use Rattle.session_calls.proofs.Refusals.{settle_number}
use Rattle.session_calls.proofs.Answers.{left_refused, accepted_as, settled_none, settled_as}
use Rattle.session_calls.proofs.settle_on.Goals as goal

pub returns-in_err-source_refusal : goal.returns-in_err-source_refusal
returns-in_err-source_refusal c =
    left_refused _ _ _ _ c.from_residual.ensures.1 (c.in_err-source_refusal.ensures ∙ sym (settle_number _ _))

pub returns-then-n-eq0 : goal.returns-then-n-eq0
returns-then-n-eq0 c =
    accepted_as _ _ (c.in_ok-source_refusal.ensures ∙ sym (settle_number _ _)) refl (settled_none _ _ c.if-n-eq0.true)

pub returns : goal.returns
returns c =
    accepted_as _ _ (c.in_ok-source_refusal.ensures ∙ sym (settle_number _ _)) refl (settled_as _ _ c.if-n-eq0.false c.keep.ensures refl)
