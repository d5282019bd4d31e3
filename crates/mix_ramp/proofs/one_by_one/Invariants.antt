-- `mix_ramp::one_by_one` meets its contract. The invariant: the samples from `from` to i had their turns. Assumes nothing.
use mathlib.Core.Path.{◌≡◌}
use mathlib.Core.List.{foldl}
use Rattle.lists.specs.Lists.{between}
use Rattle.mix_ramp.specs.Inner.Turns.{ramp_turn}
use Rattle.mix_ramp.proofs.one_by_one.Given as goal

abbrev pub invariant-loop-i : goal.invariant-loop-i
invariant-loop-i l = l.dst ≡ foldl (ramp_turn l.src l.ramp.g0 l.ramp.step) l.initial.dst (between l.from l.i)
