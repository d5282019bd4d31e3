-- The loop's invariant: what is left of the triplets leads on from the search as it stands. Assumes nothing.
use Rattle.layout_neighbours.specs.Inner.Arrays.{arrays_of}
use Rattle.layout_neighbours.proofs.Chunks.{Walked}
use Rattle.layout_neighbours.proofs.Search.pass.Given as goal

abbrev pub invariant-loop-t : goal.invariant-loop-t
invariant-loop-t l = Walked l.g.slots.now l.g.idx.now l.t-iterator.rest.now l.t-iterator.size (arrays_of l.fn.self) (arrays_of l.self)
