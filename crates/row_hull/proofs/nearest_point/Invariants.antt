-- `row_hull::nearest_point` meets its contract. The loop's invariant: the first places of the array hold the products so far. Assumes nothing.
use Rattle.std.proofs.Common.{◌≡◌, length, take}
use Rattle.row_hull.specs.Inner.Steps.{products_of}
use Rattle.row_hull.proofs.nearest_point.Given as goal

abbrev pub invariant-loop-i : goal.invariant-loop-i
invariant-loop-i l = (length l.products ≡ length l.initial.products) × (take l.i l.products ≡ products_of l.s l.panner.pt_dir l.i)
