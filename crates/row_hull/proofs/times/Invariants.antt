-- `row_hull::times` meets its contract. The loop's invariant: the places passed are scaled, and the others are as they were. Assumes nothing.
use Rattle.std.proofs.Common.{◌≡◌, ◌++◌, take, drop}
use Rattle.row_hull.specs.Inner.Steps.{times_of}
use Rattle.row_hull.proofs.times.Given as goal

abbrev pub invariant-loop-g : goal.invariant-loop-g
invariant-loop-g l = l.out ≡ times_of l.x (take l.g-index l.initial.out) ++ drop l.g-index l.initial.out
