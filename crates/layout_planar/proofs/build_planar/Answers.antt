use Rattle.std.proofs.Common.{◌≡◌, ◌+◌, ◌%◌, ◌<◌, length, take, sym, ap, ◌∙◌, zero-le, mod-eq_of_lt, arith, get_or-take, length-take}
use lib.Ieee.{nan}
use Rattle.angle_sort.specs.declared.Spot.{Spot}
use Rattle.layout_planar.specs.Planar.{pair_at, spot_at}
use Rattle.layout_planar.specs.Inner.Arrays.{sin_cos_of, told_of}
use Rattle.layout_planar.proofs.Chosen.{both_told}
use Rattle.layout_planar.proofs.Pairs.{next_below, slot_here, pair_here, pairs_none, pairs_skip, pairs_more, pairs_done}
use Rattle.layout_planar.proofs.Places.{length_ring}
use Rattle.layout_planar.proofs.build_planar.Goals as goal
use Rattle.layout_planar.proofs.build_planar.Goals.{After-pair_of-pair, After-sin_cos-next, At-loop-i}

-- the ring has n spots
long : (l : At-loop-i) → length (take (length l.args.active.now) l.sorted_spots-a.result) ≡ length l.args.active.now
long l = ap length l.sorted_spots-a.ensures.are ∙ length_ring l.args.active.now

-- the sine and the cosine of the next spot
turned : (t : After-sin_cos-next)
    → t.sin_cos-next.result ≡ sin_cos_of (spot_at (take (length t.args.active.now) t.sorted_spots-a.result) ((t.loop-i.i + 1) % length t.args.active.now)).angle
turned t = both_told _ t.sin_cos-next.ensures

-- what the pair from spot i to the next is
told_at : (p : After-pair_of-pair)
    → p.pair_of-pair.result ≡ told_of (pair_at (take (length p.args.active.now) p.sorted_spots-a.result) p.loop-i.i)
told_at p =
    rw (p.pair_of-pair.ensures, p.gap_at.ensures)
    (ap told_of (pair_here (take (length p.args.active.now) p.sorted_spots-a.result) (length p.args.active.now) p.loop-i.i (long p.before.before.before.before.before.before)))

pub loop-i-init : goal.loop-i-init
loop-i-init c =
    (zero-le, λ h. both_told _ c.sin_cos-here.ensures ∙ ap (λ (s : Spot). sin_cos_of s.angle) (sym (get_or-take (length c.args.active.now) c.sorted_spots-a.result 0 (record { angle = nan; number = 0 }) (omega (arith, length-take (length c.args.active.now) c.sorted_spots-a.result)))), rw c.no_pair-none.ensures (pairs_none _))

pub pair_of-pair-requires : goal.pair_of-pair-requires
pair_of-pair-requires c =
    let l = take (length c.args.active.now) c.sorted_spots-a.result in
    let e = long (goal.at.pair_of-pair-requires c).At-loop-i in
    let h : (c.loop-i.i + 1) % (length c.args.active.now) < length l = rw e (next_below (length c.args.active.now) c.loop-i.i (omega (arith, e))) in
    record {
      s_value = (slot_here l c.loop-i.i c.loop-i-test.true c.sorted_spots-a.ensures.slots, slot_here l ((c.loop-i.i + 1) % length c.args.active.now) h c.sorted_spots-a.ensures.slots);
      a_value = (c.loop-i.invariant.1 c.loop-i-test.true, turned (goal.at.pair_of-pair-requires c).After-sin_cos-next);
    }

-- the next turn begins with what this one made of the next spot
onward : (t : After-sin_cos-next)
    → t.loop-i.i + 1 < length (take (length t.args.active.now) t.sorted_spots-a.result) → t.sin_cos-next.result ≡ sin_cos_of (spot_at (take (length t.args.active.now) t.sorted_spots-a.result) (t.loop-i.i + 1)).angle
onward t h =
    let g : t.loop-i.i + 1 < (length t.args.active.now) = omega (arith, long t.before.before.before.before) in
    rw (mod-eq_of_lt g) at (turned t)

pub loop-i-preserved-in_default : goal.loop-i-preserved-in_default
loop-i-preserved-in_default c =
    (omega arith, λ h. onward (goal.at.loop-i-preserved-in_default c).After-sin_cos-next h, pairs_skip _ _ c.loop-i.invariant.2 (sym (told_at (goal.at.loop-i-preserved-in_default c).After-pair_of-pair) ∙ c.in_default.is))

pub loop-i-preserved : goal.loop-i-preserved
loop-i-preserved c =
    (omega arith, λ h. onward (goal.at.loop-i-preserved c).After-sin_cos-next h, pairs_more _ _ c.loop-i.invariant.2 _ (sym (told_at (goal.at.loop-i-preserved c).After-pair_of-pair) ∙ c.in-Some.is) (omega (arith, long (goal.at.loop-i-preserved c).At-loop-i)))

pub returns : goal.returns
returns c =
    let e : c.loop-i.i ≡ (length c.args.active.now) = omega (arith, long (goal.at.returns c).At-loop-i) in
    pairs_done _ (rw (← c.sorted_spots-a.ensures.are) (rw e at c.loop-i.invariant.2))
