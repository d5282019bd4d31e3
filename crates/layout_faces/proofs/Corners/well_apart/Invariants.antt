-- `layout_faces::Corners::well_apart` meets its contract: each flag that is set has a point for its reason, and a triple with a point well over its plane and one well under it is no face. Assumes nothing.
use Rattle.std.proofs.Common.{◌≡◌, true}
use Rattle.layout_faces.proofs.Apart.{Over, Under, Each}
use Rattle.layout_faces.proofs.Corners.well_apart.Given as goal

abbrev pub invariant-loop-p : goal.invariant-loop-p
invariant-loop-p l =
    (l.over ≡ true → Over l.pts l.plane)
    × (l.under ≡ true → Under l.pts l.plane)
    × Each l.pts l.p-iterator.a.rest.now
    × Each l.pts l.p-iterator.b.iter.rest.now
