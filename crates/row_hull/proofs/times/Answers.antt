use Rattle.std.proofs.Common.{◌<◌, length, get_or, arith}
use Rattle.std.proofs.lemmas.List.{get_or_default}
use Rattle.std.proofs.lemmas.List.Edits.{map_over_more}
use lib.Ieee.{nan, binary32, mul}
use Rattle.row_hull.proofs.times.Goals as goal

pub loop-g-preserved : goal.loop-g-preserved
loop-g-preserved c =
    let i = c.loop-g.g-index in
    let row = c.loop-g.out in
    let h : i < length row = omega arith in
    map_over_more (λ g. mul binary32 g c.args.x) c.args.out.now row i (get_or row i nan) c.loop-g-test.true c.loop-g.invariant (get_or_default row i nan (get_or row i nan) h)
