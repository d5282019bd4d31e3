use Rattle.std.proofs.Common.{[], ◌∷◌, length-set, sym, ap, ◌∙◌, arith}
use Rattle.std.proofs.lemmas.List.{take_more_set}
use lib.Ieee.{neg, of_bits}
use Rattle.float_order.specs.Values.{+0, 1·0}
use Rattle.vector.specs.Vector.{Points}
use Rattle.vector.specs.Speakers.{dirs_of}
use Rattle.vector.proofs.Speakers.{dirs_count}
use Rattle.layout_closing.specs.Closing.{−1, with_pole, with_poles}
use Rattle.layout_closing.proofs.Stages.{left_start, left_turn, done_full, done_closed, done_none}
use Rattle.layout_closing.proofs.close.Goals as goal
use Rattle.layout_closing.proofs.close.Goals.{else-loop-m-test, then-loop-m-test+then-hull, then-loop-m-test+else-hull+in_default}

pub loop-m-init : goal.loop-m-init
unfolding with_poles of_bits neg
loop-m-init c =
    let real = c.args.real.now in
    left_start (dirs_of real) c.with_pole-m.new.pts (dirs_count real) c.with_pole-m.array_long c.requires (omega arith) (omega arith)
    (c.with_pole-m.ensures.2 ∙ ap (λ (v : Points). with_pole v (+0 ∷ −1 ∷ +0 ∷ [])) (c.with_pole-top.ensures.2 ∙ ap (λ (v : Points). with_pole v (+0 ∷ 1·0 ∷ +0 ∷ [])) c.with_room-pts.ensures)) c.hull_triplets-hull.ensures

pub loop-m-preserved : goal.loop-m-preserved
loop-m-preserved c =
    left_turn c.loop-m.invariant c.loop-m-test.true c.if-hull.false c.in-Some.ensures _
    (length-set c.loop-m.pts c.loop-m.m c.in-Some.best.c ∙ c.loop-m.invariant.long) (take_more_set c.loop-m.pts c.loop-m.m c.in-Some.best.c (omega arith)) c.hull_triplets-hull-in-loop-m.ensures

pub returns : goal.returns
returns c =
    let r = dirs_count c.args.real.now in
    elim c.loop-m-test.branch [
      | else-loop-m-test w ↦ done_full c.loop-m.invariant r w.loop-m-test.false
      | then-loop-m-test+then-hull w ↦ done_closed c.loop-m.invariant r w.if-hull.true
      | then-loop-m-test+else-hull+in_default w ↦ done_none c.loop-m.invariant r w.if-hull.false (sym w.in_default.is ∙ w.candidate.ensures)
    ]
