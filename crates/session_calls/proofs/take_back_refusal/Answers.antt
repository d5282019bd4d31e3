-- `session_calls::take_back_refusal` meets its contract: the shared refusals, then 7. Assumes nothing.
use mathlib.Core.Path.{sym, ap, ◌∙◌}
use mathlib.Core.Bool.{Bool, cond}
use borrow.Author.Tests.{eq-eqb, ne_eqb}
use Rattle.session_calls.proofs.Refusals.{passed, refused, number_passed, take_shared, take_own}
use Rattle.session_calls.proofs.take_back_refusal.Goals as goal

pub returns-in_err-source_refusal : goal.returns-in_err-source_refusal
returns-in_err-source_refusal c =
    number_passed _ _ c.from_residual.ensures.1
    ∙ c.in_err-source_refusal.ensures
    ∙ sym (take_shared _ _ (λ e. refused _ (c.in_err-source_refusal.ensures ∙ e)))

pub returns-then-s-source-eq0 : goal.returns-then-s-source-eq0
returns-then-s-source-eq0 c =
    sym (take_own _ _ (passed _ _ 0 (sym c.in_ok-source_refusal.ensures)) ∙ ap (λ (b : Bool). cond b 7 0) (eq-eqb _ 0 c.if-s-source-eq0.true))

pub returns : goal.returns
returns c = sym (take_own _ _ (passed _ _ 0 (sym c.in_ok-source_refusal.ensures)) ∙ ap (λ (b : Bool). cond b 7 0) (ne_eqb _ 0 c.if-s-source-eq0.false))
