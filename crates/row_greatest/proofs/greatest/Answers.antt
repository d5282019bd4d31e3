use Rattle.std.proofs.Common.{arith}
use lib.Ieee.{of_bits}
use Rattle.row_greatest.proofs.Tops.{top_none, top_more}
use Rattle.row_greatest.proofs.greatest.Goals as goal

pub loop-x-init : goal.loop-x-init
unfolding of_bits
loop-x-init c = top_none c.args.l.now 0

pub loop-x-preserved : goal.loop-x-preserved
loop-x-preserved c = rw c.greater-g.ensures (top_more c.args.l.now 0 c.loop-x.x-index c.loop-x.g (omega arith) c.loop-x.invariant)
