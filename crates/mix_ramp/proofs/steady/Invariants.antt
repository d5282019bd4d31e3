-- `mix_ramp::steady` meets its contract. The invariant: the samples before i had their turns. Assumes nothing.
use mathlib.Core.Path.{◌≡◌}
use mathlib.Core.List.{foldl}
use Rattle.lists.specs.Lists.{range}
use Rattle.mix_ramp.specs.Inner.Turns.{steady_turn}
use Rattle.mix_ramp.proofs.steady.Given as goal

abbrev pub invariant-loop-i : goal.invariant-loop-i
invariant-loop-i l = l.dst ≡ foldl (steady_turn l.src l.g) l.initial.dst (range l.i)
