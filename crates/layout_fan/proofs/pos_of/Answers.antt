-- `layout_fan::pos_of` meets its contract: std's `position`, and the length where none is found. Assumes nothing.
use Rattle.std.proofs.Common.{rules, length, eqb, ap, ◌∙◌}
use Rattle.std.specs.Option.{unwrap_or}
use Rattle.std.proofs.lemmas.Iterator.{YieldsList-from_slice}
use Rattle.std.proofs.lemmas.Iterator.Search.{position_from_yields_List}
use borrow.Author.Tests.{tests}
use Rattle.angle_sort.specs.declared.Spot.{Spot}
use Rattle.angle_sort.proofs.Found.{found_or_all}
use Rattle.layout_fan.specs.Inner.Steps.{pos_of}
use Rattle.layout_fan.proofs.pos_of.Goals as goal

pub returns-clause-is : goal.returns-clause-is
unfolding pos_of
returns-clause-is c =
    let here = λ (s : Spot). eqb s.number c.args.p in
    let e = position_from_yields_List here _ _ _ c.position-found.ensures.ran (YieldsList-from_slice c.args.ring.now cc) (λ x b q k. search (rules, tests)) in
    c.unwrap_or.ensures ∙ ap (λ o. unwrap_or o (length c.args.ring.now)) e ∙ found_or_all here c.args.ring.now
