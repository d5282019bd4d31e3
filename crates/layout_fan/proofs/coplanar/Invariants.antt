-- `layout_fan::coplanar` meets its contract: so far stand there the numbers below p that pass the test, in their order. Assumes nothing.
use Rattle.std.proofs.Common.{◌≡◌}
use Rattle.lists.specs.Lists.{range, filter}
use Rattle.layout_fan.proofs.Fans.{coplanar_at}
use Rattle.layout_fan.proofs.coplanar.Given as goal

abbrev pub invariant-loop-p : goal.invariant-loop-p
invariant-loop-p l =
    let c = l.c in
    l.numbers.items ≡ filter (coplanar_at c.pts.now c.t.i c.t.j c.t.k l.plane) (range l.p)
