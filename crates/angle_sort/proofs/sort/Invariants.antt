-- `angle_sort::sort` meets its contract: the first q spots are sorted and the others as they were. Assumes nothing.
use Rattle.std.proofs.Common.{◌≡◌}
use Rattle.angle_sort.specs.Inner.Front.{sorted_in}
use Rattle.angle_sort.proofs.sort.Given as goal

abbrev pub invariant-loop-q : goal.invariant-loop-q
invariant-loop-q l = l.spots ≡ sorted_in l.fn.spots l.q
