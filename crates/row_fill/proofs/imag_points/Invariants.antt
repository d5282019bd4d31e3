-- `row_fill::imag_points` meets its contract. The loop's invariant: the gains of the points passed are in their sums. Assumes nothing.
use Rattle.std.proofs.Common.{◌≡◌, get_or}
use mathlib.Core.List.{foldl}
use lib.Ieee.{nan}
use Rattle.lists.specs.Lists.{range}
use Rattle.row_fill.specs.Inner.Filling.{to_imag}
use Rattle.row_fill.proofs.imag_points.Given as goal

abbrev pub invariant-loop-i : goal.invariant-loop-i
invariant-loop-i l = l.sums ≡ foldl (λ r i. to_imag l.n r (get_or l.fn.points i 0) (get_or l.g i nan)) l.initial.sums (range l.i)
