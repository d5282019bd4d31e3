use mathlib.Core.Path.{sym, ◌∙◌}
use Rattle.mix_ramp.proofs.Turns.{turns_none, turns_more}
use Rattle.mix_block.specs.Inner.Turns.{ramp_part}
use Rattle.mix_block.proofs.Parts.{part_back}
use Rattle.mix_block.proofs.Block.mix_source.Goals as goal

pub loop-o-init : goal.loop-o-init
loop-o-init c = sym (turns_none _ _)

pub loop-o-preserved : goal.loop-o-preserved
loop-o-preserved c =
    let s = c.args in
    part_back s.self s.i c.loop-o.out c.ramp_add.new.dst c.loop-o.o c.ramp_add.ensures
    ∙ turns_more (ramp_part s.self s.i) s.out.now c.loop-o.o c.loop-o.invariant
