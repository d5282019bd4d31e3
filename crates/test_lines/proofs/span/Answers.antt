-- `test_lines::span` meets its contract: `position` is the first that passes. Assumes nothing.
use Rattle.std.proofs.Common.{rules, ◌∙◌, ap, length, Option, ℕ}
use Rattle.std.specs.Option.{unwrap_or}
use Rattle.std.proofs.lemmas.Iterator.{YieldsList-from_slice}
use Rattle.std.proofs.lemmas.Iterator.Search.{position_from_yields_List}
use borrow.Author.Tests.{tests}
use Rattle.test_lines.proofs.Walk.{span_or_end}
use Rattle.test_lines.proofs.span.Goals as goal

pub returns-clause-word : goal.returns-clause-word
returns-clause-word c =
    c.unwrap_or.ensures
    ∙ ap (λ (o : Option ℕ). unwrap_or o (length c.args.s.now)) (position_from_yields_List _ _ _ _ c.position.ensures.ran (YieldsList-from_slice c.args.s.now cc) (λ x b q k. search (rules, tests)))
    ∙ span_or_end 32 c.args.s.now
