use native.Mathlib.Omega.{arith}
use Rattle.mix_ramp.specs.Inner.Turns.{ramp_turn}
use Rattle.lists.proofs.Ranges.{between_none}
use Rattle.mix_ramp.proofs.Turns.{turns_more_from}
use Rattle.mix_ramp.proofs.one_by_one.Goals as goal

pub loop-i-init : goal.loop-i-init
loop-i-init c = rw (between_none c.args.from c.args.from (omega arith))

pub loop-i-preserved : goal.loop-i-preserved
unfolding ramp_turn
loop-i-preserved c =
    let s = c.args in
    rw (c.sample.ensures, c.f32_from_u64-count.ensures)
    (turns_more_from (ramp_turn s.src.now s.ramp.g0 s.ramp.step) s.dst.now s.from c.loop-i.i (omega arith) c.loop-i.invariant)
