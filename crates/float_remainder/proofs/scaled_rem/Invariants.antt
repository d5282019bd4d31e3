use Rattle.std.proofs.Common.{◌≡◌, ◌<◌, ◌*◌, ◌^◌, ◌%◌}
use Rattle.float_remainder.proofs.scaled_rem.Given as goal

-- The remainder after i doublings.
abbrev pub invariant-loop-i : goal.invariant-loop-i
invariant-loop-i l = record { value : l.r ≡ (l.m * 2 ^ l.i) % l.n; less : l.r < l.n }
