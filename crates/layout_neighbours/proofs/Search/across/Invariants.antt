-- The loop's invariant: the points that came so far are reached, as in the definition's fold. Assumes nothing.
use Rattle.layout_neighbours.specs.Inner.Arrays.{arrays_of}
use Rattle.layout_neighbours.proofs.Triplet.{Reached}
use Rattle.layout_neighbours.proofs.Search.across.Given as goal

abbrev pub invariant-loop-p : goal.invariant-loop-p
invariant-loop-p l = Reached l.g.slots.now l.t l.p-index (arrays_of l.fn.self) (arrays_of l.self)
