-- `layout_new::active_speakers` meets its contract. The loop's invariant: those of the slots passed are found. Assumes nothing.
use Rattle.std.proofs.Common.{◌≡◌}
use Rattle.lists.specs.Lists.{range, collect}
use Rattle.layout_new.specs.Layout.{speaker_at}
use Rattle.layout_new.proofs.active_speakers.Given as goal

abbrev pub invariant-loop-i : goal.invariant-loop-i
invariant-loop-i l = l.found ≡ collect (speaker_at l.positions l.lfe) (range l.i)
