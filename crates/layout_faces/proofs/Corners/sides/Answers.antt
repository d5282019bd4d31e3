use Rattle.std.proofs.Common.{sym, ap, ◌∙◌}
use Rattle.layout_faces.proofs.Heights.{Left, left_first, left_own, left_more, left_early, left_all}
use Rattle.layout_faces.proofs.Corners.sides.Goals as goal
use Rattle.layout_faces.proofs.Corners.sides.Goals.{After-beside-s}

-- a turn adds the last point that is left
turn :
    (c : After-beside-s) →
    let a = c.args in
    Left a.self.pts.now a.self.t.i a.self.t.j a.self.t.k a.plane c.beside-s.result c.next.new.self.iter.count c.next.new.self.iter.iter.rest.now
turn c =
    let s = c.in-Some.ensures.steps in
    left_more _ _ _ _ _ _ _ c.loop-p.invariant s.1.0 s.0 s.1.1 (sym c.is_other.ensures ∙ c.if-not-is_other.false) c.beside-s.ensures

pub loop-p-init : goal.loop-p-init
loop-p-init c =
    let s = c.rev-p-items.ensures.source in
    let e = c.into_iter-p-iterator.ensures.into_iter_gives in
    left_first _ _ _ _ _
    (ap (λ r. r.iter.count) e ∙ ap (λ r. r.count) s ∙ c.enumerate.ensures.count)
    (ap (λ r. r.iter.iter.rest.now) e ∙ ap (λ r. r.iter.rest.now) s ∙ ap (λ r. r.rest.now) c.enumerate.ensures.source ∙ c.iter.ensures.rest)

pub loop-p-preserved-then-not-is_other : goal.loop-p-preserved-then-not-is_other
loop-p-preserved-then-not-is_other c =
    let s = c.in-Some.ensures.steps in
    left_own _ _ _ _ _ _ _ c.loop-p.invariant s.1.0 s.0 s.1.1 (sym c.is_other.ensures ∙ c.if-not-is_other.true)

pub returns-then-not-s : goal.returns-then-not-s
returns-then-not-s c = left_early _ _ _ _ _ (turn (goal.at.returns-then-not-s c).After-beside-s) c.if-not-s.true

pub loop-p-preserved : goal.loop-p-preserved
loop-p-preserved c = turn (goal.at.loop-p-preserved c).After-beside-s

pub returns : goal.returns
returns c = left_all _ _ _ _ _ c.loop-p.invariant c.in-None.ensures.steps.1.0
