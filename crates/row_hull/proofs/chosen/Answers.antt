use Rattle.std.proofs.Common.{◌<◌, refl, arith, length, length-set, replicate}
use lib.Ieee.{of_bits}
use Rattle.float_order.specs.Values.{+0}
use Rattle.row_hull.specs.Inner.Steps.{least_at, leasts_of}
use Rattle.row_hull.proofs.Places.{least_told, mapped_none, mapped_more}
use Rattle.row_hull.proofs.chosen.Goals as goal

pub loop-t-init : goal.loop-t-init
unfolding leasts_of of_bits
loop-t-init c = let a = c.args in (refl, mapped_none (least_at a.s a.panner.now.inv) (replicate 80 +0))

pub loop-t-preserved : goal.loop-t-preserved
unfolding leasts_of
loop-t-preserved c =
    let a = c.args in
    let inv = a.panner.now.inv in
    let h : c.loop-t.t < length c.loop-t.leasts = omega arith in (
      simp length-set c.loop-t.invariant.0,
      mapped_more (least_at a.s inv) c.loop-t.leasts c.loop-t.t _ h c.loop-t.invariant.1 (least_told a.s inv c.loop-t.t c.gains_at.ensures c.least.ensures),
    )
