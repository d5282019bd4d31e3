-- `layout_planar::build_planar` meets its contract: the invariant has the pairs from the ring's first i spots in the array. Assumes nothing.
use Rattle.std.proofs.Common.{◌≡◌, ◌<◌, ◌≤◌, length}
use Rattle.lists.proofs.Filled.{Gathered}
use Rattle.layout_planar.specs.Planar.{no_pair, spot_at}
use Rattle.layout_planar.specs.Inner.Arrays.{sin_cos_of}
use Rattle.layout_planar.proofs.Pairs.{pairs_from}
use Rattle.layout_planar.proofs.build_planar.Given as goal

abbrev pub invariant-loop-i : goal.invariant-loop-i
invariant-loop-i l = (l.num_pairs ≤ l.i) × (l.i < length l.ring → l.here ≡ sin_cos_of (spot_at l.ring l.i).angle) × Gathered 40 no_pair (pairs_from l.ring l.i) l.pairs l.num_pairs
