use Rattle.std.proofs.Common.{◌≡◌, true, [], length, map, take, refl, ap, ◌∙◌, arith, length-set}
use Rattle.std.proofs.lemmas.List.{take_more_set, take_all}
use Rattle.lists.specs.Lists.{every}
use Rattle.lists.proofs.Tests.{every_snoc}
use Rattle.vector.proofs.Speakers.{made_more}
use Rattle.layout_planar.specs.Planar.{spot_of}
use Rattle.layout_planar.specs.Inner.Arrays.{slot_fits}
use Rattle.layout_planar.proofs.Places.{ring_front, ring_slots}
use Rattle.layout_planar.proofs.sorted_spots.Goals as goal
use Rattle.layout_planar.proofs.sorted_spots.Goals.{After-loop-i}

pub loop-i-init : goal.loop-i-init
unfolding every
loop-i-init c = (refl, refl, refl)

pub loop-i-preserved : goal.loop-i-preserved
loop-i-preserved c =
    let l = c.loop-i in
    let s = c.spot.ensures in (
      length-set l.a l.i c.spot.result ∙ l.invariant.0,
      rw s.is (made_more c.args.active.now spot_of (record { slot = 0; dir = [] }) l.a l.i c.loop-i-test.true (omega (arith, l.invariant.0)) l.invariant.1),
      ap (every slot_fits) (take_more_set l.a l.i c.spot.result (omega (arith, l.invariant.0))) ∙ every_snoc slot_fits (take l.i l.a) c.spot.result ∙ rw (l.invariant.2, s.slot) refl,
    )

-- after the loop the spots of all speakers stand in front
told : (c : After-loop-i) → let l = take (length c.args.active.now) c.loop-i.a in (l ≡ map spot_of c.args.active.now) × (every slot_fits l ≡ true)
told c =
    let n = length c.args.active.now in
    let e : c.loop-i.i ≡ n = omega arith in
    let v = rw e at c.loop-i.invariant in
    (v.1 ∙ ap (map spot_of) (take_all n c.args.active.now (omega arith)), v.2)

pub returns-clause-are : goal.returns-clause-are
returns-clause-are c = ring_front c.args.active.now (told (goal.at.returns-clause-are c).After-loop-i).0 c.sort.ensures _

pub returns-clause-slots : goal.returns-clause-slots
returns-clause-slots c =
    let t = told (goal.at.returns-clause-slots c).After-loop-i in
    ring_slots c.args.active.now t.0 c.sort.ensures _ t.1
