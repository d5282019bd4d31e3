-- `row_greatest::skipped` meets its contract. The loop's invariant: all numbers of the eights before are passed. Assumes nothing.
use Rattle.row_greatest.proofs.Eights.{Skipped}
use Rattle.row_greatest.proofs.skipped.Given as goal

abbrev pub invariant-loop-i : goal.invariant-loop-i
invariant-loop-i l = Skipped l.g l.l l.i-iterator.iter.rest.now l.i-iterator.iter.size l.i-iterator.count
