-- The loop's invariant: the arrays hold the neighbours of the first k imaginary points, laid flat. Assumes nothing.
use Rattle.std.proofs.Common.{◌≡◌}
use Rattle.layout_neighbours.specs.Inner.Flat.{triples_of, neighbours_in}
use Rattle.layout_neighbours.proofs.neighbours.Given as goal

abbrev pub invariant-loop-k : goal.invariant-loop-k
invariant-loop-k l = (l.num_nbrs ≡ (neighbours_in l.slots (triples_of l.idx) l.k).num_nbrs) × (l.imag_nbrs ≡ (neighbours_in l.slots (triples_of l.idx) l.k).imag_nbrs)
