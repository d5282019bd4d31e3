-- `float_widths::assemble` meets its contract: the sum is the pattern of q * 2 ^ k smallest values, and from k = 2 * emax on they are too many. Assumes nothing.
use Rattle.std.proofs.Common.{ℕ, ◌+◌, ◌*◌, ◌<◌, T, not, true, false, refl, sym, ap, subst, ◌∙◌}
use lib.Ieee.{of_bits, nan_bits}
use Rattle.float_order.proofs.Laws.{at_sign}
use Rattle.float_order.proofs.Weights.{weights_read}
use Rattle.float_widths.proofs.Patterns.{units_pattern, units_number, units_room, units_infinite}
use Rattle.float_widths.proofs.assemble.Goals as goal

pub returns-then-neg : goal.returns-then-neg
returns-then-neg g c =
    let w = weights_read g.met.W.Width.weights refl c.FIELD-weight.ensures c.HIGHEST-highest.ensures in
    at_sign _ true _ _ _ _ c.if-neg.true (c.neg_infinity.ensures ∙ sym (units_infinite w true c.args.q c.args.k c.requires.1 c.if-k-highest.true))

pub returns-else-neg : goal.returns-else-neg
returns-else-neg g c =
    let w = weights_read g.met.W.Width.weights refl c.FIELD-weight.ensures c.HIGHEST-highest.ensures in
    at_sign _ false _ _ _ _ c.if-neg.false (c.infinity.ensures ∙ sym (units_infinite w false c.args.q c.args.k c.requires.1 c.if-k-highest.true))

pub of_pattern-requires : goal.of_pattern-requires
of_pattern-requires g c =
    let w = weights_read g.met.W.Width.weights refl c.FIELD-weight.ensures c.HIGHEST-highest.ensures in
    let f = g.W.Float.format in
    let n : ℕ = c.args.k * c.FIELD-weight.result + c.args.q in
    (subst (λ (s : ℕ). s + n < 2 * g.W.Width.SIGN) (sym c.sign_part-sign.ensures) (units_room w c.args.neg c.args.q c.args.k c.requires.0 c.requires.1 c.if-k-highest.false), subst (λ (s : ℕ). T (not (nan_bits f (s + n)))) (sym c.sign_part-sign.ensures) (units_number w c.args.neg c.args.q c.args.k c.requires.0 c.requires.1 c.if-k-highest.false))

pub returns : goal.returns
returns g c =
    let w = weights_read g.met.W.Width.weights refl c.FIELD-weight.ensures c.HIGHEST-highest.ensures in
    let n : ℕ = c.args.k * c.FIELD-weight.result + c.args.q in
    c.of_pattern.ensures ∙ ap (λ (s : ℕ). of_bits g.W.Float.format (s + n)) c.sign_part-sign.ensures ∙ units_pattern w c.args.neg c.args.q c.args.k c.requires.0 c.requires.1 c.if-k-highest.false
