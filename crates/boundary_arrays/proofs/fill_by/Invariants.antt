-- `boundary_arrays::fill_by` meets its contract: the first `i` places are written. Assumes nothing.
use Prim.Native.Nat.{ℕ, ◌<◌}
use mathlib.Core.Path.{◌≡◌}
use mathlib.Core.List.{◌++◌, map}
use lib.ListN.{length, drop}
use Rattle.lists.specs.Lists.{range}
use Rattle.boundary_arrays.proofs.fill_by.Given as goal

abbrev pub invariant-loop-i : goal.invariant-loop-i
invariant-loop-i g l =
    (h : ℕ → g.row.T.Denot) → ((i : ℕ) (y : g.row.T.Denot) → i < length l.initial.dst → goal.F-post g l.f i y → y ≡ h i)
    → l.dst ≡ map h (range l.i) ++ drop l.i l.initial.dst
