-- `mix_eights::store` meets its contract. The invariant: the places before k are stored. Assumes nothing.
use Prim.Native.Nat.{◌+◌}
use mathlib.Core.Path.{◌≡◌}
use mathlib.Core.List.{foldl}
use lib.Ieee.{nan}
use lib.ListN.{set, get_or}
use Rattle.lists.specs.Lists.{range}
use Rattle.mix_eights.proofs.store.Given as goal

abbrev pub invariant-loop-k : goal.invariant-loop-k
invariant-loop-k l = l.d ≡ foldl (λ m j. set m (l.i + j) (get_or l.x-items j nan)) l.initial.d (range l.k)
