-- `row_hull::power` meets its contract. The loop's invariant: the power of the places passed. Assumes nothing.
use Rattle.std.proofs.Common.{◌≡◌, take}
use Rattle.row_hull.specs.Inner.Steps.{power_of}
use Rattle.row_hull.proofs.power.Given as goal

abbrev pub invariant-loop-g : goal.invariant-loop-g
invariant-loop-g l = l.p ≡ power_of (take l.g-index l.out)
