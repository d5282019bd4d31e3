-- `row_planar::spread_over` meets its contract. The invariant: the slots before are spread. Assumes nothing.
use Rattle.std.proofs.Common.{◌≡◌, take}
use mathlib.Core.List.{foldl}
use Rattle.row_planar.specs.PlanarRow.{spread_at}
use Rattle.row_planar.proofs.spread_over.Given as goal

abbrev pub invariant-loop-slot : goal.invariant-loop-slot
invariant-loop-slot l = l.row ≡ foldl (spread_at l.w l.d2) l.initial.row (take l.slot-index l.slots)
