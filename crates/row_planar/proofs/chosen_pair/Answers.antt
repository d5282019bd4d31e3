use Rattle.std.proofs.Common.{sym, ◌∙◌}
use Rattle.row_planar.proofs.Branches.{found_here, found_last}
use Rattle.row_planar.proofs.chosen_pair.Goals as goal

pub returns-then-is_inside : goal.returns-then-is_inside
returns-then-is_inside c =
    let a = c.args in
    found_here a.az a.pairs.now c.loop-p.p-index _ c.loop-p-test.true c.loop-p.invariant (sym c.is_inside.ensures ∙ c.if-is_inside.true)

pub returns : goal.returns
returns c = c.last.ensures.value ∙ found_last c.args.az c.args.pairs.now c.loop-p.p-index c.loop-p-test.false c.loop-p.invariant
