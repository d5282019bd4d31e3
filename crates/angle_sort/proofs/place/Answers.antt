-- `angle_sort::place` meets its contract: std's `position`, and the length where none passes. Assumes nothing.
use Rattle.std.proofs.Common.{length, ◌∙◌, ap, rules}
use Rattle.std.specs.Option.{unwrap_or}
use Rattle.std.specs.Float.Ieee.{lt}
use Rattle.std.proofs.lemmas.Iterator.{YieldsList-from_slice}
use Rattle.std.proofs.lemmas.Iterator.Search.{position_from_yields_List}
use borrow.Author.Tests.{tests}
use Rattle.angle_sort.specs.declared.Spot.{Spot}
use Rattle.angle_sort.proofs.Found.{found_or_all}
use Rattle.angle_sort.proofs.place.Goals as goal

pub returns-clause-is : goal.returns-clause-is
returns-clause-is c =
    let above = λ (t : Spot). lt c.args.angle t.angle in
    let e = position_from_yields_List above _ _ _ c.position-above.ensures.ran (YieldsList-from_slice c.args.sorted.now cc) (λ x b q k. search (rules, tests)) in
    c.unwrap_or.ensures ∙ ap (λ o. unwrap_or o (length c.args.sorted.now)) e ∙ found_or_all above c.args.sorted.now
