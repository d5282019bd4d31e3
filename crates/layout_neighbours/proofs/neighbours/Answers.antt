use Rattle.std.proofs.Common.{◌<◌, refl, arith}
use Rattle.layout_neighbours.specs.Inner.Search.{Slots}
use Rattle.layout_neighbours.proofs.Holds.{slots}
use Rattle.layout_neighbours.proofs.Laid.{nums_none, rows_none, count_few, turn_nums, turn_imag}
use Rattle.layout_neighbours.proofs.neighbours.Goals as goal

pub loop-k-init : goal.loop-k-init
loop-k-init c = (nums_none _ _, rows_none _ _)

pub overflow_cast-num_nbrs : goal.overflow_cast-num_nbrs
overflow_cast-num_nbrs c =
    let s : Slots c.args.slots.now = slots c.requires.real c.requires.low in
    let h : c.loop-k.k < 14 = omega arith in
    omega (arith, count_few s _ _ h _ refl c.neighbours_of-s.result c.neighbours_of-s.ensures.nbrs c.neighbours_of-s.ensures.found)

pub loop-k-preserved : goal.loop-k-preserved
loop-k-preserved c =
    let s : Slots c.args.slots.now = slots c.requires.real c.requires.low in
    let h : c.loop-k.k < 14 = omega arith in (
      turn_nums s _ _ h _ refl c.neighbours_of-s.result c.neighbours_of-s.ensures.nbrs c.neighbours_of-s.ensures.found c.loop-k.invariant.0,
      turn_imag s _ _ h _ refl c.neighbours_of-s.result c.neighbours_of-s.ensures.nbrs c.neighbours_of-s.ensures.found c.loop-k.invariant.1 c.store.ensures,
    )
