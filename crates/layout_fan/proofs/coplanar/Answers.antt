use Rattle.std.proofs.Common.{◌≡◌, length, refl, ap, ◌∙◌, arith}
use Rattle.lists.specs.Lists.{filter, range}
use Rattle.lists.proofs.Ranges.{range_none, length_range}
use Rattle.lists.proofs.Collect.{length_filter}
use Rattle.layout_fan.proofs.Fans.{coplanar_at, coplanar_range, found_no, found_yes}
use Rattle.layout_fan.proofs.coplanar.Goals as goal

pub loop-p-init : goal.loop-p-init
unfolding filter
loop-p-init c = c.new-numbers.ensures ∙ rw range_none refl

pub push-requires : goal.push-requires
push-requires c =
    let a = c.args.c in
    let f = coplanar_at a.pts.now a.t.i a.t.j a.t.k c.args.plane in
    omega (arith, ap length c.loop-p.invariant, length_filter f (range c.loop-p.p), length_range c.loop-p.p)

pub loop-p-preserved-then-not-is_coplanar : goal.loop-p-preserved-then-not-is_coplanar
loop-p-preserved-then-not-is_coplanar c = found_no _ c.loop-p.p c.loop-p.invariant c.is_coplanar.ensures c.if-not-is_coplanar.true

pub loop-p-preserved : goal.loop-p-preserved
loop-p-preserved c = c.push.ensures.items ∙ found_yes _ c.loop-p.p c.loop-p.invariant c.is_coplanar.ensures c.if-not-is_coplanar.false

pub returns : goal.returns
returns c =
    let a = c.args.c in
    let e : c.loop-p.p ≡ length a.pts.now = omega arith in
    c.loop-p.invariant
    ∙ ap (λ n. filter (coplanar_at a.pts.now a.t.i a.t.j a.t.k c.args.plane) (range n)) e
    ∙ coplanar_range a.pts.now a.t.i a.t.j a.t.k c.args.plane
