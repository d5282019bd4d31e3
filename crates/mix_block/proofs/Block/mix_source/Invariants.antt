-- `mix_block::Block::mix_source` meets its contract: each turn ramps the part of one slot. Assumes nothing.
use mathlib.Core.Path.{◌≡◌}
use mathlib.Core.List.{foldl}
use Rattle.lists.specs.Lists.{range}
use Rattle.mix_block.specs.Inner.Turns.{ramp_part}
use Rattle.mix_block.proofs.Block.mix_source.Given as goal

abbrev pub invariant-loop-o : goal.invariant-loop-o
invariant-loop-o l = l.out ≡ foldl (ramp_part l.self l.i) l.initial.out (range l.o)
