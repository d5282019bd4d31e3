-- `test_lines::is_name` meets its contract: `all` tests each byte. Assumes nothing.
use Rattle.std.proofs.Common.{rules, sym, ◌∙◌}
use Rattle.std.proofs.lemmas.Iterator.{YieldsList-from_slice}
use Rattle.std.proofs.lemmas.Iterator.Search.{all_from_yields_List}
use borrow.Author.Tests.{tests}
use Rattle.test_lines.proofs.Walk.{name_is}
use Rattle.test_lines.proofs.is_name.Goals as goal

pub returns : goal.returns
returns c =
    all_from_yields_List _ _ _ _ c.all.ensures.ran (YieldsList-from_slice c.args.w.now cc) (λ x b q k. search (rules, tests))
    ∙ sym (name_is c.args.w.now)
