use Rattle.std.proofs.Common.{◌<◌, refl, arith, length, length-set, replicate}
use lib.Ieee.{binary32, of_bits}
use Rattle.lists.specs.Lists.{part}
use Rattle.float_order.specs.Values.{+0}
use Rattle.vector.specs.Vector.{dot_in}
use Rattle.row_hull.specs.Inner.Steps.{products_of}
use Rattle.row_hull.proofs.Places.{mapped_none, mapped_more}
use Rattle.row_hull.proofs.nearest_point.Goals as goal

pub loop-i-init : goal.loop-i-init
unfolding products_of of_bits
loop-i-init c = let a = c.args in (refl, mapped_none (λ i. dot_in binary32 (part 3 a.panner.now.pt_dir i) a.s) (replicate 40 +0))

pub loop-i-preserved : goal.loop-i-preserved
unfolding products_of
loop-i-preserved c =
    let a = c.args in
    let h : c.loop-i.i < length c.loop-i.products = omega arith in (
      simp length-set c.loop-i.invariant.0,
      mapped_more (λ i. dot_in binary32 (part 3 a.panner.now.pt_dir i) a.s) c.loop-i.products c.loop-i.i _ h c.loop-i.invariant.1 c.product.ensures,
    )
