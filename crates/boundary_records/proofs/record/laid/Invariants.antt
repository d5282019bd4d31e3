-- `boundary_records::record::laid` meets its contract. The loop's invariant: what is made of the pairs passed stands in front, blanks after it. Assumes nothing.
use mathlib.Core.Path.{◌≡◌}
use mathlib.Core.List.{map}
use lib.ListN.{take}
use Rattle.lists.specs.Lists.{filled}
use Rattle.layout_planar.specs.declared.PlanarPair.{PlanarPair}
use Rattle.boundary_records.specs.Places.{most_outputs}
use Rattle.boundary_records.proofs.record.laid.Given as goal

abbrev pub invariant-loop-i : goal.invariant-loop-i
invariant-loop-i g l =
    (h : PlanarPair → g.row.E.Denot) → ((p : PlanarPair) (y : g.row.E.Denot) → goal.F-post g l.entries p y → y ≡ h p)
    → l.to ≡ filled most_outputs l.fn.blank (map h (take l.i l.pairs))
