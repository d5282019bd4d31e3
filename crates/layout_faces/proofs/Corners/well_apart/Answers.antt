use Rattle.std.proofs.Common.{◌≡◌, true, ◌&&◌, ◌||◌, sym, ap, ◌∙◌}
use lib.Ieee.{Float, neg, lt}
use Rattle.lists.proofs.Tests.{and_left, and_right}
use Rattle.layout_faces.specs.Faces.{Plane}
use Rattle.layout_faces.specs.Inner.Steps.{height_of}
use Rattle.layout_faces.specs.Inner.Margin.{margin}
use Rattle.layout_faces.proofs.Apart.{Over, Under, of_three, of_both, each_all, each_take, each_tail, each_front, found_first, found_last, apart_skip}
use Rattle.layout_faces.proofs.Corners.well_apart.Goals as goal
use Rattle.layout_faces.proofs.Corners.well_apart.Goals.{After-height-w}

pub loop-p-init : goal.loop-p-init
loop-p-init c =
    let e = c.into_iter-p-iterator.ensures.into_iter_gives in
    let z = c.zip-p-items.ensures in (
      λ h. cc,
      λ h. cc,
      each_take c.args.self.pts.now _ (ap (λ q. q.a.rest.now) e ∙ ap (λ q. q.rest.now) z.first ∙ c.iter.ensures.rest),
      each_all c.args.self.pts.now (ap (λ q. q.b.iter.rest.now) e ∙ ap (λ q. q.iter.rest.now) z.second ∙ ap (λ q. q.rest.now) c.rev.ensures.source ∙ c.iter-2.ensures.rest),
    )

-- a turn adds two points
turn :
    (c : After-height-w) →
    let a = c.args.self in
    let f : Plane = record { nrm = c.args.raw; d = c.dot.result } in
    (c.loop-p.over || lt margin c.height-v.result || lt margin c.height-w.result ≡ true → Over a.pts.now f)
    × (c.loop-p.under || lt c.height-v.result (neg margin) || lt c.height-w.result (neg margin) ≡ true → Under a.pts.now f)
turn c =
    let i = c.loop-p.invariant in
    let s = c.in-Some.ensures.steps in
    let f : Plane = record { nrm = c.args.raw; d = c.dot.result } in
    let p = found_first c.args.self.pts.now _ _ i.2 s.0 in
    let q = found_last c.args.self.pts.now _ _ i.3 s.1 in
    let v = sym (c.height-v.ensures ∙ ap (height_of f) p.2) in
    let w = sym (c.height-w.ensures ∙ ap (height_of f) q.2) in (
      of_three _ _ _ i.0 (λ e. (p.0, p.1, ap (λ (x : Float). lt margin x) v ∙ e)) (λ e. (q.0, q.1, ap (λ (x : Float). lt margin x) w ∙ e)),
      of_three _ _ _ i.1 (λ e. (p.0, p.1, ap (λ (x : Float). lt x (neg margin)) v ∙ e)) (λ e. (q.0, q.1, ap (λ (x : Float). lt x (neg margin)) w ∙ e)),
    )

pub returns-then-over-under : goal.returns-then-over-under
returns-then-over-under c e near =
    let a = c.args.self in
    let b = a.within in
    let found = of_both _ _ (turn (goal.at.returns-then-over-under c).After-height-w) c.if-over-under.true in
    let first = c.is_level.result && c.is_level-then-over-under.result in
    let both = and_left first c.is_level-then-over-under-2.result e in
    apart_skip a.pts.now a.t.i a.t.j a.t.k b.0 b.1 b.2 c.args.raw c.requires c.dot.ensures near found.0 found.1
    (sym c.is_level.ensures ∙ and_left c.is_level.result c.is_level-then-over-under.result both)
    (sym c.is_level-then-over-under.ensures ∙ and_right c.is_level.result c.is_level-then-over-under.result both)
    (sym c.is_level-then-over-under-2.ensures ∙ and_right first c.is_level-then-over-under-2.result e)

pub loop-p-preserved : goal.loop-p-preserved
loop-p-preserved c =
    let i = c.loop-p.invariant in
    let s = c.in-Some.ensures.steps in
    let t = turn (goal.at.loop-p-preserved c).After-height-w in
    (t.0, t.1, each_tail c.args.self.pts.now _ _ i.2 s.0, each_front c.args.self.pts.now _ _ i.3 s.1)
