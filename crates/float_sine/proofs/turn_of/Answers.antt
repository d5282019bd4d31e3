-- `float_sine::turn_of` meets its contract: each branch lies between k − ½ and k + ½. Assumes nothing.
use Rattle.std.proofs.Common.{pos, negsuc}
use lib.Ieee.{neg, of_bits, of_int, round}
use Rattle.float_sine.specs.Sine.{mod4}
use Rattle.float_sine.proofs.Turns.{reach_above, reach_below, turn_is}
use Rattle.float_sine.proofs.turn_of.Goals as goal

pub returns-then-q : goal.returns-then-q
unfolding neg of_bits of_int round mod4
returns-then-q c h = turn_is _ h (negsuc 3) c.if-q.true (reach_below _ h)

pub returns-then-q-2 : goal.returns-then-q-2
unfolding neg of_bits of_int round mod4
returns-then-q-2 c h = turn_is _ h (negsuc 2) c.if-q-2.true c.if-q.false

pub returns-then-q-3 : goal.returns-then-q-3
unfolding neg of_bits of_int round mod4
returns-then-q-3 c h = turn_is _ h (negsuc 1) c.if-q-3.true c.if-q-2.false

pub returns-then-q-4 : goal.returns-then-q-4
unfolding neg of_bits of_int round mod4
returns-then-q-4 c h = turn_is _ h (negsuc 0) c.if-q-4.true c.if-q-3.false

pub returns-then-q-5 : goal.returns-then-q-5
unfolding neg of_bits of_int round mod4
returns-then-q-5 c h = turn_is _ h (pos 0) c.if-q-5.true c.if-q-4.false

pub returns-then-q-6 : goal.returns-then-q-6
unfolding neg of_bits of_int round mod4
returns-then-q-6 c h = turn_is _ h (pos 1) c.if-q-6.true c.if-q-5.false

pub returns-then-q-7 : goal.returns-then-q-7
unfolding neg of_bits of_int round mod4
returns-then-q-7 c h = turn_is _ h (pos 2) c.if-q-7.true c.if-q-6.false

pub returns-then-q-8 : goal.returns-then-q-8
unfolding neg of_bits of_int round mod4
returns-then-q-8 c h = turn_is _ h (pos 3) c.if-q-8.true c.if-q-7.false

pub returns : goal.returns
unfolding neg of_bits of_int round mod4
returns c h = turn_is _ h (pos 4) (reach_above _ h) c.if-q-8.false
