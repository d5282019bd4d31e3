-- `row_hull::hull_row` meets its contract: by whether a triplet is chosen, the callees' promises make up the row. Assumes nothing.
use Rattle.std.proofs.Common.{length}
use Rattle.row_hull.proofs.Row.{nearest_made, triplet_made}
use Rattle.row_hull.proofs.hull_row.Goals as goal

pub returns-in-None : goal.returns-in-None
returns-in-None c =
    let a = c.args in
    nearest_made a.panner.now (length a.out.now) a.az a.el _ c.dir_vec-s.ensures _ c.chosen.ensures.place _ c.in-None.is c.nearest.ensures

pub returns-in-Some : goal.returns-in-Some
returns-in-Some c =
    let a = c.args in
    triplet_made a.panner.now (length a.out.now) a.az a.el _ c.dir_vec-s.ensures _ c.chosen.ensures.place c.in-Some.t _ _ _ c.in-Some.is c.in-Some.ensures.within c.requires.points.imag c.gains_at.ensures (rw c.real_slots.ensures at c.fill.ensures) c.scale.ensures
