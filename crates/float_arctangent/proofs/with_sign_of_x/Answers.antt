-- `float_arctangent::with_sign_of_x` meets its contract: the branch goes by the sign bit, as the definition does. Assumes nothing.
use mathlib.Core.Path.{sym, ◌∙◌}
use lib.Ieee.{binary64, sub}
use Rattle.lists.proofs.Tests.{cond_yes, cond_no}
use Rattle.float_sine.specs.Pi.{PI64}
use Rattle.float_arctangent.specs.Arctangent.{with_sign_of_x}
use Rattle.float_arctangent.proofs.with_sign_of_x.Goals as goal

pub returns-then-sign_bit : goal.returns-then-sign_bit
unfolding with_sign_of_x
returns-then-sign_bit c = sym (cond_yes (sub binary64 PI64 c.args.a) c.args.a (sym c.sign_bit.ensures ∙ c.if-sign_bit.true))

pub returns : goal.returns
unfolding with_sign_of_x
returns c = sym (cond_no (sub binary64 PI64 c.args.a) c.args.a (sym c.sign_bit.ensures ∙ c.if-sign_bit.false))
