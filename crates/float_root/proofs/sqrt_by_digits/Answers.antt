-- `float_root::sqrt_by_digits` meets its contract: a value's fields give its size in smallest values, and `root_of` rounds its root. Assumes nothing.
use Rattle.std.proofs.Common.{ap, ap₂, ◌∙◌}
use lib.Ieee.{div}
use Rattle.float_order.proofs.Order.{is_nan-is}
use Rattle.float_order.proofs.Weights.{weights_read}
use Rattle.float_root.proofs.Sqrt.{sqrt_nan}
use Rattle.float_root.proofs.Fields.{zero_root, negative_root, infinite_root, low_root, mid_root}
use Rattle.float_root.proofs.sqrt_by_digits.Goals as goal

pub returns-in_default : goal.returns-in_default
returns-in_default g c = g.met.W.Float.float_add_law _ _ _ c.add.ensures ∙ sqrt_nan _ _ (is_nan-is _ c.in_default.ensures)

pub returns-then-b-sign-eq0 : goal.returns-then-b-sign-eq0
returns-then-b-sign-eq0 g c =
    let w = weights_read g.met.W.Width.weights c.SIGN-sign.ensures c.FIELD-weight.ensures c.HIGHEST-highest.ensures in
    zero_root w c.in-Some.ensures c.if-b-sign-eq0.true

pub returns-then-b-sign : goal.returns-then-b-sign
unfolding div
returns-then-b-sign g c =
    let w = weights_read g.met.W.Width.weights c.SIGN-sign.ensures c.FIELD-weight.ensures c.HIGHEST-highest.ensures in
    let zero = g.met.W.Float.float_zero_law in
    let v = g.W.Float.float in
    g.met.W.Float.float_div_law _ _ _ c.div.ensures ∙ ap₂ (div g.W.Float.format) (ap v c.zero.ensures ∙ zero) (ap v c.zero-then-b-sign.ensures ∙ zero) ∙ negative_root w c.in-Some.ensures c.if-b-sign.true c.if-b-sign-eq0.false

pub returns-then-e-highest : goal.returns-then-e-highest
returns-then-e-highest g c =
    let w = weights_read g.met.W.Width.weights c.SIGN-sign.ensures c.FIELD-weight.ensures c.HIGHEST-highest.ensures in
    infinite_root w c.in-Some.ensures c.if-b-sign.false c.if-e-highest.true

pub returns-then-e-eq0 : goal.returns-then-e-eq0
returns-then-e-eq0 g c =
    let w = weights_read g.met.W.Width.weights c.SIGN-sign.ensures c.FIELD-weight.ensures c.HIGHEST-highest.ensures in
    c.root_of.ensures ∙ low_root w c.in-Some.ensures c.if-b-sign.false c.if-b-sign-eq0.false c.if-e-eq0.true

pub returns-else-e-eq0 : goal.returns-else-e-eq0
returns-else-e-eq0 g c =
    let w = weights_read g.met.W.Width.weights c.SIGN-sign.ensures c.FIELD-weight.ensures c.HIGHEST-highest.ensures in
    c.root_of-else-e-eq0.ensures ∙ mid_root w c.in-Some.ensures c.if-b-sign.false c.if-e-eq0.false c.if-e-highest.false
