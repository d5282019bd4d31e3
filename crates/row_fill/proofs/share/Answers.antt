use Rattle.std.proofs.Common.{◌∙◌, arith, take_all, ap}
use lib.Ieee.{Float, binary32, div, of_bits}
use Rattle.float_root.specs.Root.{sqrt_of}
use Rattle.row_fill.proofs.Places.{shared_yes, shared_no}
use Rattle.row_fill.proofs.share.Goals as goal

pub returns-after-loop-slot : goal.returns-after-loop-slot
unfolding of_bits
returns-after-loop-slot c =
    let a = c.args in
    let w = c.sqrt32.ensures ∙ ap (sqrt_of binary32) c.f32_from_u64.ensures in
    rw (take_all c.loop-slot.slot-index a.nbrs.now (omega arith)) at c.loop-slot.invariant
    ∙ shared_yes a.nbrs.now a.g a.out.now c.is_empty.ensures (ap (λ (x : Float). div binary32 a.g x) w) c.if-g-is_empty.true

pub returns-else-g-is_empty : goal.returns-else-g-is_empty
unfolding of_bits
returns-else-g-is_empty c = shared_no c.args.nbrs.now c.args.g c.args.out.now c.is_empty.ensures c.if-g-is_empty.false
