-- `test_lines::List::replay` ends: `next` leaves less each time. Assumes nothing.
use Rattle.test_lines.proofs.lines.List.replay.Given as goal

abbrev pub decreases-loop-self : goal.decreases-loop-self
decreases-loop-self g l = l.self.lines.left
