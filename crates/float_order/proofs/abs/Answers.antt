-- `float_order::abs` meets its contract: a value with the sign bit set is negated. Assumes nothing.
use Rattle.std.proofs.Common.{sym, ◌∙◌}
use Rattle.float_order.proofs.Values.{abs_negative, abs_positive}
use Rattle.float_order.proofs.abs.Goals as goal

pub returns-then-sign_bit : goal.returns-then-sign_bit
returns-then-sign_bit g c = g.met.W.Float.float_neg_law _ _ c.neg.ensures ∙ abs_negative _ (sym c.sign_bit.ensures ∙ c.if-sign_bit.true)

pub returns-else-sign_bit : goal.returns-else-sign_bit
returns-else-sign_bit g c = abs_positive _ (sym c.sign_bit.ensures ∙ c.if-sign_bit.false)
