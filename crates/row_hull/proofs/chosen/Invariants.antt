-- `row_hull::chosen` meets its contract. The loop's invariant: the first places of the array hold the least gains so far. Assumes nothing.
use Rattle.std.proofs.Common.{◌≡◌, length, take}
use Rattle.row_hull.specs.Inner.Steps.{leasts_of}
use Rattle.row_hull.proofs.chosen.Given as goal

abbrev pub invariant-loop-t : goal.invariant-loop-t
invariant-loop-t l = (length l.leasts ≡ length l.initial.leasts) × (take l.t l.leasts ≡ leasts_of l.s l.panner.inv l.t)
