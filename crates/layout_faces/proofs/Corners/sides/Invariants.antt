-- `layout_faces::Corners::sides` meets its contract: the loop takes the points from the last on, and a side that has a point keeps it whatever points come before. Assumes nothing.
use Rattle.layout_faces.proofs.Heights.{Left}
use Rattle.layout_faces.proofs.Corners.sides.Given as goal

abbrev pub invariant-loop-p : goal.invariant-loop-p
invariant-loop-p l =
    let c = l.self in
    Left c.pts.now c.t.i c.t.j c.t.k l.plane l.s l.p-iterator.iter.count l.p-iterator.iter.iter.rest.now
