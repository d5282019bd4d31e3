-- `layout_hull::hull_triplets` meets its contract: wherever the three loops stand, the arrays hold the verdicts on the triples passed so far. Assumes nothing.
use Rattle.std.proofs.Common.{◌≡◌, ◌+◌, ◌≤◌, length}
use Rattle.layout_hull.specs.Triplets.{verdict}
use Rattle.layout_hull.proofs.Laid.{laid_of}
use Rattle.layout_hull.proofs.Verdicts.{at_first, at_second}
use Rattle.layout_hull.proofs.Turns.{Third}
use Rattle.layout_hull.proofs.hull_triplets.Given as goal

abbrev pub invariant-third : goal.invariant-third
invariant-third l = Third l.pts l.i l.j l.k l.h

abbrev pub invariant-second : goal.invariant-second
invariant-second l = (l.i + 1 ≤ l.j) × (l.j ≤ length l.pts) × (l.h ≡ laid_of (length l.pts) (at_second (verdict l.pts) (length l.pts) l.i l.j))

abbrev pub invariant-first : goal.invariant-first
invariant-first l = (l.i ≤ length l.pts) × (l.h ≡ laid_of (length l.pts) (at_first (verdict l.pts) (length l.pts) l.i))
