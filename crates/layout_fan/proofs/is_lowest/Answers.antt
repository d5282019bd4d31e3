-- `layout_fan::is_lowest` meets its contract: std's `all` is the definition's `every`. Assumes nothing.
use Rattle.std.proofs.Common.{ℕ, rules, ltb, ◌∙◌}
use Rattle.std.proofs.lemmas.Iterator.{YieldsList-from_slice}
use Rattle.std.proofs.lemmas.Iterator.Search.{all_from_yields_List}
use borrow.Author.Tests.{tests}
use Rattle.layout_fan.proofs.Chained.{all_every}
use Rattle.layout_fan.proofs.is_lowest.Goals as goal

pub returns : goal.returns
returns c =
    let above = λ (p : ℕ). ltb c.args.i p in
    all_from_yields_List above _ _ _ c.all.ensures.ran (YieldsList-from_slice c.args.numbers.now cc) (λ x b q k. search (rules, tests))
    ∙ all_every above c.args.numbers.now
