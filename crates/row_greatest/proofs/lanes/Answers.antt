use Rattle.std.proofs.Common.{arith}
use lib.Ieee.{of_bits}
use Rattle.row_greatest.proofs.Tops.{lanes_none}
use Rattle.row_greatest.proofs.Eights.{taken_start, turn_start, turn_more}
use Rattle.row_greatest.proofs.lanes.Goals as goal

pub loop-eight-init : goal.loop-eight-init
unfolding of_bits
loop-eight-init c =
    rw c.into_iter-eight-iterator.ensures.into_iter_gives (taken_start c.chunks_exact-eight-items.ensures.size c.chunks_exact-eight-items.ensures.rest (lanes_none c.args.l.now))

pub loop-k-init : goal.loop-k-init
loop-k-init c = turn_start c.loop-eight.invariant _ _ c.in-Some.ensures.steps.1.0 c.in-Some.ensures.steps.1.1 c.in-Some.ensures.steps.0

pub loop-k-preserved : goal.loop-k-preserved
loop-k-preserved c = turn_more c.loop-k.invariant (omega (arith, c.loop-k.invariant.lanes_of.long)) c.greater.ensures
