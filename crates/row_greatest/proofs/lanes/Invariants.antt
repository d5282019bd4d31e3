-- `row_greatest::lanes` meets its contract. The loops' invariants: the numbers that came are in the lanes. Assumes nothing.
use Rattle.row_greatest.proofs.Eights.{Taken, Turn}
use Rattle.row_greatest.proofs.lanes.Given as goal

abbrev pub invariant-loop-eight : goal.invariant-loop-eight
invariant-loop-eight l = Taken l.l l.eight-iterator.rest.now l.eight-iterator.size l.lanes

abbrev pub invariant-loop-k : goal.invariant-loop-k
invariant-loop-k l = Turn l.l l.eight l.eight-iterator.rest.now l.eight-iterator.size l.k l.lane-items
