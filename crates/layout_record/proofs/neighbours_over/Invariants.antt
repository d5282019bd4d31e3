-- `layout_record::neighbours_over` meets its contract. Where no byte of the whole array is over, none that is reached is; else the loop's invariant: none of the points passed has a neighbour over. Assumes nothing.
use Rattle.std.proofs.Common.{◌≡◌, false, leb}
use mathlib.Core.List.{flat_map}
use Rattle.lists.specs.Lists.{any, range}
use Rattle.layout_record.specs.Panner.{near_in}
use Rattle.layout_record.proofs.neighbours_over.Given as goal

abbrev pub invariant-loop-k : goal.invariant-loop-k
invariant-loop-k l = any (λ x. leb l.bound x) (flat_map (near_in l.p.num_nbrs l.p.imag_nbrs) (range l.k)) ≡ false
