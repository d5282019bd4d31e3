-- `ActiveSpeakers::slots` meets its contract. The loop's invariant: the slots of the speakers passed, 0 after them. Assumes nothing.
use Rattle.std.proofs.Common.{◌≡◌, map, take}
use Rattle.lists.specs.Lists.{filled}
use Rattle.layout_new.proofs.active.ActiveSpeakers.slots.Given as goal

abbrev pub invariant-loop-i : goal.invariant-loop-i
invariant-loop-i l = l.r ≡ filled 40 0 (map (λ s. s.slot) (take l.i l.s-items))
