use Rattle.std.proofs.Common.{◌≡◌, ◌<◌, ◌≤◌, ◌*◌, ◌+◌, ◌^◌}
use Rattle.float_remainder.proofs.Field.encoded.Given as goal

-- The value stays, and the pattern does not grow.
abbrev pub invariant-loop-d : goal.invariant-loop-d
invariant-loop-d l = record { value : l.d * 2 ^ l.e ≡ l.r * 2 ^ l.k; digits : l.d < 2 * l.fn.self.weight; range : l.e * l.fn.self.weight + l.d ≤ l.k * l.fn.self.weight + l.r; field : l.e ≤ l.k }

abbrev pub decreases-loop-d : goal.decreases-loop-d
decreases-loop-d l = l.e
