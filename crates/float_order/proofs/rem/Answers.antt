-- `float_order::rem` meets its contract: what is no finite value has its own branch, and the pattern of the others' remainder is found in whole numbers. Assumes nothing.
use Rattle.std.proofs.Common.{◌≡◌, ℕ, ◌+◌, ◌-◌, ◌*◌, ◌/◌, ◌%◌, ◌<◌, ◌≤◌, subst, ◌∙◌, arith}
use Rattle.std.proofs.Math.Nat.{mul-le-mul_right}
use lib.Ieee.{sub, low}
use lib.Pow.{pow_pos}
use Rattle.float_order.proofs.Patterns.{rem_nan, rem_by_nan, rem_of_inf, rem_by_inf, rem_by_zero}
use Rattle.float_order.proofs.Weights.{weights_read, field_in, pattern_room, pattern_infinite, pattern_finite, pattern_zero, pattern_found, pattern_number}
use Rattle.float_order.proofs.rem.Goals as goal

-- a remainder below the infinities' pattern
under : (r b h o : ℕ) → b / h < o + 1 → (b / h ≡ o → ⊥) → r < (b / h + 1) * h → r < o * h
under r b h o q n l = let m : (b / h + 1) * h ≤ o * h = mul-le-mul_right h (omega arith) in omega arith

pub returns-in_default : goal.returns-in_default
returns-in_default g c = g.met.W.Float.float_add_law _ _ _ c.add.ensures ∙ rem_nan _ _ _ c.in_default.ensures

pub returns-in_default-pattern : goal.returns-in_default-pattern
returns-in_default-pattern g c = g.met.W.Float.float_add_law _ _ _ c.add-in_default-pattern.ensures ∙ rem_by_nan _ _ _ c.in_default-pattern.ensures

pub returns-then-a-weight : goal.returns-then-a-weight
unfolding sub
returns-then-a-weight g c =
    let w = weights_read g.met.W.Width.weights c.SIGN-sign.ensures c.FIELD-weight.ensures c.HIGHEST-highest.ensures in
    g.met.W.Float.float_sub_law _ _ _ c.sub.ensures ∙ rem_of_inf _ _ _ _ (pattern_infinite w c.in-Some.ensures c.if-a-weight.true)

pub returns-then-b-weight : goal.returns-then-b-weight
returns-then-b-weight g c =
    let w = weights_read g.met.W.Width.weights c.SIGN-sign.ensures c.FIELD-weight.ensures c.HIGHEST-highest.ensures in
    rem_by_inf _ _ _ _ _ _ _ (pattern_finite w c.in-Some.ensures c.if-a-weight.false) (pattern_infinite w c.in-Some-pattern.ensures c.if-b-weight.true)

pub returns-then-b-eq0 : goal.returns-then-b-eq0
returns-then-b-eq0 g c =
    let w = weights_read g.met.W.Width.weights c.SIGN-sign.ensures c.FIELD-weight.ensures c.HIGHEST-highest.ensures in
    g.met.W.Float.float_div_law _ _ _ c.div.ensures
    ∙ rem_by_zero _ _ _ _ _ _ _ (pow_pos (low g.W.Float.format)) (pattern_finite w c.in-Some.ensures c.if-a-weight.false) (pattern_zero w c.in-Some-pattern.ensures c.if-b-weight.false c.if-b-eq0.true)

pub of_pattern-requires : goal.of_pattern-requires
of_pattern-requires g c =
    let w = weights_read g.met.W.Width.weights c.SIGN-sign.ensures c.FIELD-weight.ensures c.HIGHEST-highest.ensures in
    let l = under _ _ _ _ (field_in w c.in-Some-pattern.q) c.if-b-weight.false c.rem_patterns-r.ensures.range in
    (subst (λ (n : ℕ). c.in-Some.p - c.in-Some.p % c.SIGN-sign.result + c.rem_patterns-r.result < 2 * n) c.SIGN-sign.ensures (pattern_room w c.in-Some.ensures _ l), pattern_number w c.in-Some.ensures _ l)

pub returns : goal.returns
returns g c =
    let w = weights_read g.met.W.Width.weights c.SIGN-sign.ensures c.FIELD-weight.ensures c.HIGHEST-highest.ensures in
    let l = under _ _ _ _ (field_in w c.in-Some-pattern.q) c.if-b-weight.false c.rem_patterns-r.ensures.range in
    c.of_pattern.ensures ∙ pattern_found w c.in-Some.ensures c.in-Some-pattern.ensures _ c.if-a-weight.false c.if-b-weight.false (omega arith) l c.rem_patterns-r.ensures.units
