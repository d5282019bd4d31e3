use Rattle.std.proofs.Common.{◌≡◌, ℕ, ◌<◌, List, ◌∷◌, [], ◌++◌, map, take, length, get_or, rules, refl, sym, ap, ◌∙◌, arith}
use lib.ListN.{length-map, length-take}
use Rattle.std.proofs.Math.Seq.{take-length}
use Rattle.angle_sort.specs.declared.Spot.{Spot}
use Rattle.layout_faces.specs.Faces.{point}
use Rattle.layout_fan.specs.Inner.Steps.{spot_of}
use Rattle.layout_fan.proofs.Fans.{below_at, map_more}
use Rattle.layout_fan.proofs.spots.Goals as goal

pub loop-p-init : goal.loop-p-init
loop-p-init c = rw (c.push-2.ensures.items, c.push.ensures.items, c.new-ring.ensures, c.spot.ensures, c.spot-2.ensures) refl

pub offset_bounds-c-p : goal.offset_bounds-c-p
offset_bounds-c-p c =
    let h : get_or c.args.numbers.now c.loop-p.p-index 0 < length c.args.c.pts.now = below_at _ _ c.loop-p.p-index c.requires.within c.loop-p-test.true in
    search rules

pub bounds-c-p : goal.bounds-c-p
bounds-c-p c = below_at _ _ c.loop-p.p-index c.requires.within c.loop-p-test.true

pub push-requires-in-loop-p : goal.push-requires-in-loop-p
push-requires-in-loop-p c =
    let a = c.args in
    let f = λ (p : ℕ). spot_of a.basis a.first p (point a.c.pts.now p) in
    omega (
      arith,
      ap length c.loop-p.invariant,
      length-map (a.c.t.j ∷ a.c.t.k ∷ take c.loop-p.p-index a.numbers.now) f,
      length-take c.loop-p.p-index a.numbers.now,
      c.requires.few,
      c.loop-p-test.true,
    )

pub loop-p-preserved : goal.loop-p-preserved
loop-p-preserved c =
    let a = c.args in
    let f = λ (p : ℕ). spot_of a.basis a.first p (point a.c.pts.now p) in
    c.push-in-loop-p.ensures.items
    ∙ ap (λ (r : List Spot). r ++ c.spot-in-loop-p.result ∷ []) c.loop-p.invariant
    ∙ ap (λ (s : Spot). map f (a.c.t.j ∷ a.c.t.k ∷ take c.loop-p.p-index a.numbers.now) ++ s ∷ []) c.spot-in-loop-p.ensures
    ∙ sym (map_more f (a.c.t.j ∷ a.c.t.k ∷ []) a.numbers.now c.loop-p.p-index c.loop-p-test.true)

pub returns : goal.returns
returns c =
    let a = c.args in
    let e : c.loop-p.p-index ≡ length a.numbers.now = omega arith in
    c.loop-p.invariant ∙ ap (λ r. map (λ p. spot_of a.basis a.first p (point a.c.pts.now p)) (a.c.t.j ∷ a.c.t.k ∷ r)) (ap (λ n. take n a.numbers.now) e ∙ take-length a.numbers.now)
