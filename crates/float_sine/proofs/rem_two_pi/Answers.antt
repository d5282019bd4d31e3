-- `float_sine::rem_two_pi` meets its contract: a value inside ±2·pi is its own remainder. Assumes nothing.
use Rattle.std.proofs.Common.{T, sym, subst}
use lib.Ieee.{neg, lt}
use Rattle.float_sine.specs.Pi.{two_pi}
use Rattle.float_sine.specs.Sine.{remainder}
use Rattle.float_order.proofs.Remainder.{both_left, both_right}
use Rattle.float_sine.proofs.Remainder.{remainder_inside}
use Rattle.float_sine.proofs.rem_two_pi.Goals as goal

pub returns-then-v : goal.returns-then-v
returns-then-v c =
    remainder_inside c.args.v (subst T (sym c.well_formed.0.1) tt) (both_left (lt c.args.v two_pi) (lt (neg two_pi) c.args.v) c.if-v.true) (both_right (lt c.args.v two_pi) (lt (neg two_pi) c.args.v) c.if-v.true)

pub returns : goal.returns
unfolding remainder
returns c = c.rem.ensures
