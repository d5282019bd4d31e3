-- The loop's invariant: what is left to do from the present points gives the same as from the start. Assumes nothing.
use Rattle.std.proofs.Common.{◌-◌, length}
use Rattle.vector.specs.Speakers.{dirs_of}
use Rattle.layout_closing.proofs.Stages.{Left}
use Rattle.layout_closing.proofs.close.Given as goal

abbrev pub invariant-loop-m : goal.invariant-loop-m
invariant-loop-m l = Left (dirs_of l.real) (length l.real) l.pts l.m l.hull l.over

abbrev pub decreases-loop-m : goal.decreases-loop-m
decreases-loop-m l = 14 - (l.m - length l.real)
