-- The loop's invariant: the first i directions stand in front. Assumes nothing.
use Rattle.std.proofs.Common.{◌≡◌, length, map, take}
use Rattle.layout_closing.proofs.with_room.Given as goal

abbrev pub invariant-loop-i : goal.invariant-loop-i
invariant-loop-i l = (length l.pts ≡ 54) × (take l.i l.pts ≡ map (λ s. s.dir) (take l.i l.real))
