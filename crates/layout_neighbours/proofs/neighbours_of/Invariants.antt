-- The loop's invariant: what is left to do from here gives the neighbours of p. Each pass but the last visits one more of fourteen points. Assumes nothing.
use Rattle.std.proofs.Common.{◌-◌}
use Rattle.layout_neighbours.specs.Inner.Flat.{triples_of}
use Rattle.layout_neighbours.specs.Inner.Arrays.{arrays_of}
use Rattle.layout_neighbours.proofs.Left.{Left}
use Rattle.layout_neighbours.proofs.neighbours_of.Given as goal

abbrev pub invariant-loop-s : goal.invariant-loop-s
invariant-loop-s l = Left l.g.slots.now (triples_of l.g.idx.now) l.p (arrays_of l.s)

abbrev pub decreases-loop-s : goal.decreases-loop-s
decreases-loop-s l = 14 - l.s.seen
