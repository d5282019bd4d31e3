-- `row_planar::chosen_pair` meets its contract. The invariant: no pair before contains the azimuth. Assumes nothing.
use Rattle.row_planar.proofs.Branches.{NoneBefore}
use Rattle.row_planar.proofs.chosen_pair.Given as goal

abbrev pub invariant-loop-p : goal.invariant-loop-p
invariant-loop-p l = NoneBefore l.az l.pairs l.p-index
