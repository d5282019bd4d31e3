-- `layout_faces::Corners::face_test` meets its contract: a triple that `well_apart` tells is skipped by the definition too, and else it makes the definition's tests in their order; past the first, the definition goes by what the code computed. Assumes nothing.
use Rattle.std.proofs.Common.{◌≡◌, refl}
use Rattle.layout_faces.specs.Inner.Steps.{turned_by, face_of}
use Rattle.layout_faces.proofs.Faces.{computed_thin, computed_placed}
use Rattle.layout_faces.proofs.Corners.face_test.Goals as goal
use Rattle.layout_faces.proofs.Corners.face_test.Goals.{After-sides-s}

-- past the test of the normal's length the definition goes by what the code computed
placed :
    (c : After-sides-s) →
    let a = c.args in
    face_of a.self.pts.now a.self.t.i a.self.t.j a.self.t.k ≡ turned_by c.sides-s.result (record { nrm = c.over-nrm.result; d = c.dot-d.result })
placed c = computed_placed _ _ _ _ c.raw_normal-raw.ensures c.length64-nl.ensures c.over-nrm.ensures c.dot-d.ensures c.if-nl.false c.sides-s.ensures

pub returns-then-nl : goal.returns-then-nl
returns-then-nl c = computed_thin _ _ _ _ c.raw_normal-raw.ensures c.length64-nl.ensures c.if-nl.true

pub returns-then-s : goal.returns-then-s
unfolding turned_by
returns-then-s c = rw (placed (goal.at.returns-then-s c).After-sides-s, c.if-s.true) c.outward.ensures

pub returns-then-s-2 : goal.returns-then-s-2
unfolding turned_by
returns-then-s-2 c = rw (placed (goal.at.returns-then-s-2 c).After-sides-s, c.if-s.false, c.if-s-2.true, ← c.turned.ensures) c.outward-then-s-2.ensures

pub returns : goal.returns
unfolding turned_by
returns c = rw (placed (goal.at.returns c).After-sides-s, c.if-s.false, c.if-s-2.false) refl
