-- `float_root_digits::root_by_digits` meets its contract. After i turns `root` is the whole root of m * 4 ^ i / 2 ^ 64, `rem` is what is left of that number, and `left` holds the digits that are not taken yet. Assumes nothing.
use Rattle.std.proofs.Common.{◌≡◌, ℕ, ◌+◌, ◌*◌, ◌^◌, ◌<◌, ◌≤◌}
use Rattle.float_root_digits.proofs.root_by_digits.Given as goal

pub record Inv (m left root rem i : ℕ) : Type 0 where
  pub short : root < 2 ^ i
  pub rest : rem ≤ 2 * root
  pub word : left < 2 ^ 64
  pub digits : (root * root + rem) * 2 ^ 64 + left ≡ m * 4 ^ i

abbrev pub invariant-loop-i : goal.invariant-loop-i
invariant-loop-i l = Inv l.m l.left l.root l.rem l.i
