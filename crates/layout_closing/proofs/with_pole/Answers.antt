-- Each way is a case of `with_pole`. Assumes nothing.
use Rattle.std.proofs.Common.{sym, ◌∙◌, arith}
use Rattle.std.proofs.lemmas.List.{take_more_set}
use Rattle.layout_closing.proofs.Candidates.{pole_there, pole_new}
use Rattle.layout_closing.proofs.with_pole.Goals as goal

pub returns-then-passed_over : goal.returns-then-passed_over
returns-then-passed_over c =
    (omega arith, omega arith, sym (pole_there _ _ (sym c.passed_over.ensures ∙ c.if-passed_over.true)))

pub returns : goal.returns
returns c =
    (omega arith, omega arith, take_more_set _ _ _ (omega arith) ∙ sym (pole_new _ _ (sym c.passed_over.ensures ∙ c.if-passed_over.false)))
