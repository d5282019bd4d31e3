-- `test_lines::number` meets its contract: the digits that are left, after `value`, make the number of the whole word. Assumes nothing.
use Rattle.std.proofs.Common.{◌≡◌, ◌*◌, ◌^◌, ◌<◌, drop}
use Rattle.test_lines.specs.Words.{value_from}
use Rattle.test_lines.proofs.number.Given as goal

abbrev pub invariant-loop-c : goal.invariant-loop-c
invariant-loop-c l = (l.value < 2 ^ (4 * l.c-index)) × (value_from l.value (drop l.c-index l.w) ≡ value_from 0 l.w)
