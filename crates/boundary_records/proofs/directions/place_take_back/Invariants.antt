-- `boundary_records::directions::place_take_back` meets its contract. The loop's invariant: what is left to do gives the same as all of it. Assumes nothing.
use mathlib.Core.Path.{◌≡◌}
use Rattle.std.specs.Iterator.Adapters.{zip_first, zip_second}
use Rattle.std.specs.Slice.Iter.{iter_rest}
use Rattle.boundary_records.specs.Sessions.{place_take_back}
use Rattle.boundary_records.proofs.directions.place_take_back.Given as goal

abbrev pub invariant-loop-a : goal.invariant-loop-a
invariant-loop-a l =
    (goal.iterator-loop-a).can_next l.a-iterator × (goal.iterator-loop-a).is_finite l.a-iterator
    × (place_take_back l.s l.source (iter_rest (zip_first l.a-iterator)) (iter_rest (zip_second l.a-iterator)) ≡ place_take_back l.initial.s l.source l.az l.el)
