-- `test_lines::kind` meets its contract: each answer goes by the tests that led to it. Assumes nothing.
use Rattle.std.proofs.Common.{sym, ◌∙◌, None}
use Rattle.std.proofs.lemmas.Bool.{cond-true, cond-false}
use Rattle.test_lines.proofs.Walk.{same_by, kind_by}
use Rattle.test_lines.specs.declared.Word.TheVariants.{Name, Bad}
use Rattle.test_lines.proofs.kind.Goals as goal

pub returns-then-eq : goal.returns-then-eq
returns-then-eq c = simp (sym c.is_empty.ensures ∙ c.if-is_empty.false, same_by _ _ _ _ c.as_slice.ensures c.eq.ensures ∙ c.if-eq.true)

pub returns-in-Some : goal.returns-in-Some
returns-in-Some c =
    kind_by _ _ _ _ _ _ _ c.is_empty.ensures c.if-is_empty.false c.as_slice.ensures c.eq.ensures c.if-eq.false (sym c.in-Some.is ∙ c.number.ensures)

pub returns-in-None : goal.returns-in-None
returns-in-None c =
    sym (cond-true _ (Name c.args.from c.args.to) Bad (sym c.is_name.ensures ∙ c.if-is_name.true))
    ∙ kind_by _ _ c.args.from c.args.to _ _ None c.is_empty.ensures c.if-is_empty.false c.as_slice.ensures c.eq.ensures c.if-eq.false (sym c.in-None.is ∙ c.number.ensures)

pub returns-in-None-2 : goal.returns-in-None-2
returns-in-None-2 c =
    sym (cond-false _ (Name c.args.from c.args.to) Bad (sym c.is_name.ensures ∙ c.if-is_name.false))
    ∙ kind_by _ _ c.args.from c.args.to _ _ None c.is_empty.ensures c.if-is_empty.false c.as_slice.ensures c.eq.ensures c.if-eq.false (sym c.in-None-2.is ∙ c.number.ensures)
