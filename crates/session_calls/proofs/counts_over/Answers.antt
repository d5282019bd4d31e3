-- `session_calls::counts_over` meets its contract: std's test of a list is the definition's. Assumes nothing.
use mathlib.Core.Path.{◌∙◌}
use borrow.Author.Tests.{tests}
use lib.Dec.{ltb}
use Rattle.std.proofs.Common.{rules}
use Rattle.std.proofs.lemmas.Iterator.{YieldsList-from_slice}
use Rattle.std.proofs.lemmas.Iterator.Search.{any_from_yields_List}
use Rattle.lists.proofs.Tests.{any_is}
use Rattle.session_history.specs.History.{depth}
use Rattle.session_calls.proofs.counts_over.Goals as goal

pub returns : goal.returns
returns c =
    any_from_yields_List (λ n. ltb depth n) _ _ _ c.any.ensures.ran (YieldsList-from_slice c.args.counts.now cc) (λ x b q k. search (rules, tests))
    ∙ any_is (λ n. ltb depth n) c.args.counts.now
