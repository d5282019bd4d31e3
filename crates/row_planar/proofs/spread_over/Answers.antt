use Rattle.std.proofs.Common.{◌∙◌, arith, take_all}
use lib.Ieee.{of_bits}
use Rattle.row_planar.proofs.Rows.{spread_each, spread_not}
use Rattle.row_planar.proofs.spread_over.Goals as goal

pub returns-after-loop-slot : goal.returns-after-loop-slot
unfolding of_bits
returns-after-loop-slot c =
    let s = c.args.slots.now in
    rw (take_all c.loop-slot.slot-index s (omega arith)) at c.loop-slot.invariant
    ∙ spread_each c.args.w s c.args.row.now c.is_empty.ensures c.f32_from_u64.ensures c.if-w-is_empty.true

pub returns-else-w-is_empty : goal.returns-else-w-is_empty
unfolding of_bits
returns-else-w-is_empty c = spread_not c.args.w c.args.slots.now c.args.row.now c.is_empty.ensures c.if-w-is_empty.false
