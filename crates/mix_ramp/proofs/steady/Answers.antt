use mathlib.Core.Path.{sym}
use Rattle.mix_ramp.specs.Inner.Turns.{steady_turn}
use Rattle.mix_ramp.proofs.Turns.{turns_none, turns_more}
use Rattle.mix_ramp.proofs.steady.Goals as goal

pub loop-i-init : goal.loop-i-init
loop-i-init c = sym (turns_none (steady_turn c.args.src.now c.args.g) c.args.dst.now)

pub loop-i-preserved : goal.loop-i-preserved
unfolding steady_turn
loop-i-preserved c = turns_more (steady_turn c.args.src.now c.args.g) c.args.dst.now c.loop-i.i c.loop-i.invariant
