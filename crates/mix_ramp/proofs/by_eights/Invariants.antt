-- `mix_ramp::by_eights` meets its contract. The invariant: the samples before the k-th eight had their turns, and c holds the counts of that eight, exact up to 2^24. Assumes nothing.
use Prim.Native.Nat.{◌*◌}
use mathlib.Core.Path.{◌≡◌}
use mathlib.Core.List.{foldl}
use Rattle.lists.specs.Lists.{range}
use Rattle.mix_ramp.specs.Inner.Turns.{ramp_turn}
use Rattle.mix_ramp.proofs.Counts.{counts_from}
use Rattle.mix_ramp.proofs.by_eights.Given as goal

abbrev pub invariant-loop-k : goal.invariant-loop-k
invariant-loop-k l = (l.c ≡ counts_from (l.k * 8)) × (l.dst ≡ foldl (ramp_turn l.src l.ramp.g0 l.ramp.step) l.initial.dst (range (l.k * 8)))
