-- `float_order::rem_euclid` meets its contract: a value between the modulus and its negative is its own remainder. Assumes nothing.
use Rattle.std.proofs.Common.{◌≡◌, true, cond, ap, sym, ◌∙◌}
use lib.Ieee.{Float, add, neg, lt}
use Rattle.float_order.specs.Values.{+0}
use Rattle.float_order.specs.Remainder.{rem_euclid_of}
use Rattle.float_order.proofs.Remainder.{both_left, both_right, rem_inside}
use Rattle.float_order.proofs.rem_euclid.Goals as goal

pub returns-then-is_less : goal.returns-then-is_less
unfolding rem_euclid_of
returns-then-is_less g c =
    let v = g.W.Float.float in
    let f = g.W.Float.format in
    let below : lt (v c.args.x) (v c.args.m) ≡ true = sym c.is_less.ensures.less ∙ both_left _ _ c.if-is_less.true in
    let above : lt (neg (v c.args.m)) (v c.args.x) ≡ true = ap (λ (m : Float). lt m (v c.args.x)) (sym (g.met.W.Float.float_neg_law _ _ c.neg.ensures)) ∙ sym c.is_less-2.ensures.less ∙ both_right _ _ c.if-is_less.true in
    c.raised.ensures
    ∙ ap (λ (r : Float). cond (lt r +0) (add f r (v c.args.m)) r) (rem_inside f (v c.args.x) (v c.args.m) c.is_less.ensures.held below above)

pub returns : goal.returns
unfolding rem_euclid_of
returns g c =
    c.raised-2.ensures ∙ ap (λ (r : Float). cond (lt r +0) (add g.W.Float.format r (g.W.Float.float c.args.m)) r) c.rem.ensures
