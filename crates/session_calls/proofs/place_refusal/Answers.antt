-- `session_calls::place_refusal` meets its contract: the shared refusals, then 6. Assumes nothing.
use mathlib.Core.Path.{sym, ap, ◌∙◌}
use mathlib.Core.Bool.{Bool, cond}
use borrow.Author.Tests.{le-leb, lt-leb}
use Rattle.session_calls.proofs.Refusals.{passed, refused, number_passed, place_shared, place_own}
use Rattle.session_calls.proofs.place_refusal.Goals as goal

pub returns-in_err-source_refusal : goal.returns-in_err-source_refusal
returns-in_err-source_refusal c az el =
    number_passed _ _ c.from_residual.ensures.1
    ∙ c.in_err-source_refusal.ensures
    ∙ sym (place_shared _ _ _ _ (λ e. refused _ (c.in_err-source_refusal.ensures ∙ e)))

pub returns-then-s-source-ge-DEPTH : goal.returns-then-s-source-ge-DEPTH
returns-then-s-source-ge-DEPTH c az el =
    sym (place_own _ _ _ _ (passed _ _ 0 (sym c.in_ok-source_refusal.ensures)) ∙ ap (λ (b : Bool). cond b 6 0) (le-leb _ _ c.if-s-source-ge-DEPTH.true))

pub returns : goal.returns
returns c az el = sym (place_own _ _ _ _ (passed _ _ 0 (sym c.in_ok-source_refusal.ensures)) ∙ ap (λ (b : Bool). cond b 6 0) (lt-leb _ _ c.if-s-source-ge-DEPTH.false))
