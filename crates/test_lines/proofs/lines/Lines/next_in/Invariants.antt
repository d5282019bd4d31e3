-- `test_lines::Lines::next_in` meets its contract: each turn leaves less, and the buffer keeps its length. Assumes nothing.
use Rattle.std.proofs.Common.{◌≡◌, ◌≤◌, length}
use Rattle.test_lines.proofs.lines.Lines.next_in.Given as goal

abbrev pub invariant-loop-l : goal.invariant-loop-l
invariant-loop-l g l = (length l.buf ≡ length l.initial.buf) × (l.l.left ≤ l.initial.l.left)

abbrev pub decreases-loop-l : goal.decreases-loop-l
decreases-loop-l g l = l.l.left
