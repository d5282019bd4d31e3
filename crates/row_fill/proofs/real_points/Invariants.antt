-- `row_fill::real_points` meets its contract. The loop's invariant: the gains of the points passed are in their slots. Assumes nothing.
use Rattle.std.proofs.Common.{◌≡◌, get_or}
use mathlib.Core.List.{foldl}
use lib.Ieee.{nan}
use Rattle.lists.specs.Lists.{range}
use Rattle.row_fill.specs.Inner.Filling.{to_real}
use Rattle.row_fill.proofs.real_points.Given as goal

abbrev pub invariant-loop-i : goal.invariant-loop-i
invariant-loop-i l = l.out ≡ foldl (λ r i. to_real l.slots r (get_or l.fn.points i 0) (get_or l.g i nan)) l.initial.out (range l.i)
