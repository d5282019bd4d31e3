-- `boundary_records::directions::rows` meets its contract. The loop's invariant: the rows so far and those of the directions left are all rows. Assumes nothing.
use Prim.Native.Nat.{◌≤◌}
use mathlib.Core.Path.{◌≡◌}
use mathlib.Core.List.{◌++◌}
use lib.ListN.{length, take, drop}
use Rattle.std.specs.Iterator.Adapters.{zip_first, zip_second}
use Rattle.std.specs.Slice.Iter.{iter_rest}
use Rattle.boundary_records.specs.Rows.{rows_of}
use Rattle.boundary_records.proofs.directions.rows.Given as goal

abbrev pub invariant-loop-a : goal.invariant-loop-a
invariant-loop-a l =
    (goal.iterator-loop-a).can_next l.a-iterator × (goal.iterator-loop-a).is_finite l.a-iterator
    × (l.from ≤ length l.initial.out) × (take l.from l.out ++ rows_of l.p (iter_rest (zip_first l.a-iterator)) (iter_rest (zip_second l.a-iterator)) l.width (drop l.from l.out) ≡ rows_of l.p l.az l.el l.width l.initial.out)
