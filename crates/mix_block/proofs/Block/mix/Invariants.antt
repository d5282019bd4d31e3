-- `mix_block::Block::mix` meets its contract: each turn mixes one source. Assumes nothing.
use mathlib.Core.Path.{◌≡◌}
use mathlib.Core.List.{foldl}
use Rattle.lists.specs.Lists.{range}
use Rattle.mix_block.specs.Inner.Turns.{ramp_source}
use Rattle.mix_block.proofs.Block.mix.Given as goal

abbrev pub invariant-loop-i : goal.invariant-loop-i
invariant-loop-i l = l.out ≡ foldl (ramp_source l.self) l.initial.out (range l.i)
