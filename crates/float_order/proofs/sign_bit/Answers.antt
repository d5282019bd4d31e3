-- `float_order::sign_bit` meets its contract: the sign bit is the pattern's highest. Assumes nothing.
use Rattle.std.proofs.Common.{ℕ, ap, ◌∙◌}
use lib.Dec.{leb}
use Rattle.float_order.proofs.Values.{unsigned}
use Rattle.float_order.proofs.Weights.{pattern_sign}
use Rattle.float_order.proofs.sign_bit.Goals as goal

pub returns-in-Some : goal.returns-in-Some
returns-in-Some g c = ap (λ (s : ℕ). leb s c.in-Some.p) c.SIGN.ensures ∙ pattern_sign g.met.W.Width.weights c.in-Some.ensures

pub returns-in-None : goal.returns-in-None
returns-in-None g c = unsigned _ c.in-None.ensures
