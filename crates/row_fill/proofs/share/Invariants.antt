-- `row_fill::share` meets its contract. The loop's invariant: the gain is added in the places of the slots passed. Assumes nothing.
use Rattle.std.proofs.Common.{◌≡◌, take}
use Rattle.row_fill.specs.Inner.Filling.{add_each}
use Rattle.row_fill.proofs.share.Given as goal

abbrev pub invariant-loop-slot : goal.invariant-loop-slot
invariant-loop-slot l = l.out ≡ add_each l.w l.initial.out (take l.slot-index l.nbrs)
