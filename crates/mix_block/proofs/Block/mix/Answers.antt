use mathlib.Core.Path.{sym, ◌∙◌}
use Rattle.mix_ramp.proofs.Turns.{turns_none, turns_more}
use Rattle.mix_block.specs.Inner.Turns.{ramp_source}
use Rattle.mix_block.proofs.Block.mix.Goals as goal

pub loop-i-init : goal.loop-i-init
loop-i-init c = sym (turns_none _ _)

pub loop-i-preserved : goal.loop-i-preserved
unfolding ramp_source
loop-i-preserved c = c.mix_source.ensures ∙ turns_more (ramp_source c.args.self) c.args.out.now c.loop-i.i c.loop-i.invariant
