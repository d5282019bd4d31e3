use Rattle.std.proofs.Common.{◌≡◌, ◌<◌, ◌≤◌, List, length, take, get_or, ap, ◌∙◌, arith, length-take-le}
use Rattle.angle_sort.specs.declared.Spot.{Spot}
use Rattle.angle_sort.specs.Inner.Front.{place_of, opened_of}
use Rattle.angle_sort.proofs.Insertion.{no_spot, turned_opened, opened_inserted, sorted_none, sorted_next, sorted_more, sorted_all}
use Rattle.angle_sort.proofs.sort.Goals as goal
use Rattle.angle_sort.proofs.sort.Goals.{After-place-p}

-- spot q goes to a place at or before it
before : (s : After-place-p) → s.place-p.result ≤ s.loop-q.q
before s =
    omega (arith, s.place-p.ensures.within, length-take-le s.loop-q.q s.loop-q.spots (omega arith))

pub loop-q-init : goal.loop-q-init
loop-q-init c = sorted_none _

pub loop-q-preserved : goal.loop-q-preserved
loop-q-preserved c =
    let b = c.loop-q.spots in
    let q = c.loop-q.q in
    let a = c.args.spots.now in
    let h : q < length b = omega arith in
    let long : q < length a = omega arith in
    let y = get_or b q no_spot in
    let p : c.place-p.result ≡ place_of y.angle (take q b) = c.place-p.ensures.is in
    let same : y ≡ get_or a q no_spot = ap (λ (l : List Spot). get_or l q no_spot) c.loop-q.invariant ∙ sorted_next a q long in
    turned_opened b c.place-p.result q (before (goal.at.loop-q-preserved c).After-place-p) h c.rotate_right.ensures.after
    ∙ ap (λ k. opened_of b k q y) p
    ∙ opened_inserted b q y h
    ∙ rw (same, c.loop-q.invariant) (sorted_more a q long)

pub returns : goal.returns
returns c = c.loop-q.invariant ∙ sorted_all _ _ c.loop-q-test.false
