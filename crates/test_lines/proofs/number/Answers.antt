use Rattle.std.proofs.Common.{ℕ, ◌+◌, ◌*◌, ◌<◌, drop, sym, ap, ◌∙◌, subst, arith, le-ltb}
use Rattle.test_lines.specs.Words.{value_from}
use Rattle.test_lines.proofs.Walk.{value_end, value_digit, value_other, digits_fit, more}
use Rattle.test_lines.proofs.number.Goals as goal

pub returns-in_err-d : goal.returns-in_err-d
returns-in_err-d c =
    simp (sym c.is_empty.ensures ∙ c.if-is_empty.false, le-ltb _ _ c.if-w-gt16.false)
    (c.from_residual.ensures ∙ sym (value_other c.loop-c.value c.args.w.now c.loop-c.c-index c.loop-c-test.true (omega (arith, c.in_err-d.ensures))) ∙ c.loop-c.invariant.1)

pub overflow_mul-value : goal.overflow_mul-value
overflow_mul-value c =
    let f = digits_fit c.loop-c.value c.loop-c.c-index _ c.loop-c.invariant.0 c.loop-c-test.true c.if-w-gt16.false in
    record { fits = omega arith }

pub overflow_add-value : goal.overflow_add-value
overflow_add-value c =
    let f = digits_fit c.loop-c.value c.loop-c.c-index _ c.loop-c.invariant.0 c.loop-c-test.true c.if-w-gt16.false in
    let d : c.in_ok-d.d < 16 = c.in_ok-d.ensures.1 in
    record { fits = omega arith }

pub loop-c-preserved : goal.loop-c-preserved
loop-c-preserved c = (
  more c.loop-c.value c.loop-c.c-index c.in_ok-d.d c.loop-c.invariant.0 c.in_ok-d.ensures.1,
  ap (λ (n : ℕ). value_from (c.loop-c.value * 16 + n) (drop (c.loop-c.c-index + 1) c.args.w.now)) c.in_ok-d.ensures.0
      ∙ sym (value_digit _ _ c.loop-c.c-index c.loop-c-test.true (subst (λ (n : ℕ). n < 16) c.in_ok-d.ensures.0 c.in_ok-d.ensures.1)) ∙ c.loop-c.invariant.1,
)

pub returns : goal.returns
returns c =
    simp (sym c.is_empty.ensures ∙ c.if-is_empty.false, le-ltb _ _ c.if-w-gt16.false)
    (sym (value_end _ _ c.loop-c.c-index c.loop-c-test.false) ∙ c.loop-c.invariant.1)
