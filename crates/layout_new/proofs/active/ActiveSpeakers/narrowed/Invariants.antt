-- `ActiveSpeakers::narrowed` meets its contract. The loop's invariant: the directions of the speakers passed stand narrowed, three numbers each, +0 after them. Assumes nothing.
use Rattle.std.proofs.Common.{◌≡◌, ◌*◌, length, take}
use Rattle.lists.specs.Lists.{filled}
use Rattle.float_order.specs.Values.{+0}
use Rattle.layout_new.proofs.Building.{narrowed_of}
use Rattle.layout_new.proofs.active.ActiveSpeakers.narrowed.Given as goal

abbrev pub invariant-loop-i : goal.invariant-loop-i
invariant-loop-i l = (l.r ≡ filled 120 +0 (narrowed_of (take l.i l.s-items))) × (length (narrowed_of (take l.i l.s-items)) ≡ l.i * 3)
