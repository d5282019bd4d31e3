-- `float_order::max` meets its contract: it makes the definition's tests in their order, and of two NaNs gives their sum. Assumes nothing.
use Rattle.std.proofs.Common.{◌≡◌, true, false, ◌&&◌, ap, sym, ◌∙◌}
use lib.Ieee.{eq}
use Rattle.float_order.specs.Values.{+0}
use Rattle.float_order.proofs.Order.{max_both_nan, max_first_nan, max_second_nan, max_zeros, max_second, max_first}
use Rattle.float_order.proofs.max.Goals as goal

pub returns-then-is_nan-2 : goal.returns-then-is_nan-2
returns-then-is_nan-2 g c =
    g.met.W.Float.float_add_law _ _ _ c.add.ensures ∙ max_both_nan _ _ _ (sym c.is_nan.ensures ∙ c.if-is_nan.true) (sym c.is_nan-then-is_nan.ensures ∙ c.if-is_nan-2.true)

pub returns-else-is_nan-2 : goal.returns-else-is_nan-2
returns-else-is_nan-2 g c = max_first_nan _ _ (sym c.is_nan.ensures ∙ c.if-is_nan.true)

pub returns-then-is_nan-3 : goal.returns-then-is_nan-3
returns-then-is_nan-3 g c = max_second_nan _ _ (sym c.is_nan.ensures ∙ c.if-is_nan.false) (sym c.is_nan-2.ensures ∙ c.if-is_nan-3.true)

pub returns-then-is_zero : goal.returns-then-is_zero
returns-then-is_zero g c =
    let law = g.met.W.Float in
    let v = g.W.Float.float in
    let z : (eq (v c.args.x) +0 && eq (v c.args.y) +0) ≡ true = cc (c.is_zero.ensures.test, c.is_zero-2.ensures.test, law.float_eq_law c.args.x g.W.Zero.zero, law.float_eq_law c.args.y g.W.Zero.zero, law.float_zero_law, c.if-is_zero.true) in
    ap v c.zero.ensures ∙ law.float_zero_law
    ∙ max_zeros _ _ (sym c.is_nan.ensures ∙ c.if-is_nan.false) (sym c.is_nan-2.ensures ∙ c.if-is_nan-3.false) z

pub returns-then-is_less : goal.returns-then-is_less
returns-then-is_less g c =
    let law = g.met.W.Float in
    let v = g.W.Float.float in
    let z : (eq (v c.args.x) +0 && eq (v c.args.y) +0) ≡ false = cc (c.is_zero.ensures.test, c.is_zero-2.ensures.test, law.float_eq_law c.args.x g.W.Zero.zero, law.float_eq_law c.args.y g.W.Zero.zero, law.float_zero_law, c.if-is_zero.false) in
    max_second _ _ (sym c.is_nan.ensures ∙ c.if-is_nan.false) (sym c.is_nan-2.ensures ∙ c.if-is_nan-3.false) z (sym c.is_less.ensures.less ∙ c.if-is_less.true)

pub returns-else-is_less : goal.returns-else-is_less
returns-else-is_less g c =
    let law = g.met.W.Float in
    let v = g.W.Float.float in
    let z : (eq (v c.args.x) +0 && eq (v c.args.y) +0) ≡ false = cc (c.is_zero.ensures.test, c.is_zero-2.ensures.test, law.float_eq_law c.args.x g.W.Zero.zero, law.float_eq_law c.args.y g.W.Zero.zero, law.float_zero_law, c.if-is_zero.false) in
    max_first _ _ (sym c.is_nan.ensures ∙ c.if-is_nan.false) (sym c.is_nan-2.ensures ∙ c.if-is_nan-3.false) z (sym c.is_less.ensures.less ∙ c.if-is_less.false)
