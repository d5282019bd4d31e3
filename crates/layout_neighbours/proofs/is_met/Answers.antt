-- `layout_neighbours::is_met` meets its contract: std's test of a list is the definition's, and each number that the closure is given is one of the list's. Assumes nothing.
use mathlib.Core.Path.{◌∙◌}
use borrow.Author.Tests.{tests}
use lib.ListN.{get_or}
use Rattle.std.proofs.Common.{◌<◌, false, arith, rules}
use Rattle.std.proofs.lemmas.Grind.{get_or_default_zero}
use Rattle.std.proofs.lemmas.Iterator.{YieldsList-from_slice}
use Rattle.std.proofs.lemmas.Iterator.Adapters.{serves_from_places}
use Rattle.std.proofs.lemmas.Iterator.Search.{any_from_yields_List}
use Rattle.lists.proofs.Tests.{any_is}
use Rattle.layout_neighbours.proofs.is_met.Goals as goal

pub any-requires-clause-callable : goal.any-requires-clause-callable
any-requires-clause-callable c =
    serves_from_places (YieldsList-from_slice c.args.t.now cc) (λ x q k. search rules)
    (λ x k h e. let low : x.now < 54 = omega (arith, e, get_or_default_zero c.args.t.now k x.now h, c.requires k h) in search rules)

pub returns : goal.returns
returns c =
    any_from_yields_List (λ p. get_or c.args.visited.now p false) _ _ _ c.any.ensures.ran (YieldsList-from_slice c.args.t.now cc) (λ x b q k. search (rules, tests))
    ∙ any_is (λ p. get_or c.args.visited.now p false) c.args.t.now
