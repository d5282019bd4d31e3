-- `row_greatest::greatest` meets its contract. The loop's invariant: g is the greatest of the numbers passed. Assumes nothing.
use Rattle.row_greatest.specs.Inner.Steps.{Top}
use Rattle.row_greatest.proofs.greatest.Given as goal

abbrev pub invariant-loop-x : goal.invariant-loop-x
invariant-loop-x l = Top l.l 0 l.x-index l.g
