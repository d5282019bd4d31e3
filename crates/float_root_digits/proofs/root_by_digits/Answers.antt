use Rattle.std.proofs.Common.{◌≡◌, ℕ, suc, ◌+◌, ◌-◌, ◌*◌, ◌/◌, ◌%◌, ◌^◌, ◌<◌, ◌≤◌, sym, ap, ◌∙◌, subst₂, lt_of_lt_of_le, le_of_suc-le-suc, mul_assoc, mul_comm, pow-suc, add-one, arith, pow_mono}
use Rattle.float_root_digits.proofs.Squares.{sq_suc, sq_twice}
use Rattle.float_root_digits.proofs.root_by_digits.Goals as goal
use Rattle.float_root_digits.proofs.root_by_digits.Goals.{then-root-rem, else-root-rem}
use Rattle.float_root_digits.proofs.root_by_digits.Invariants.{Inv}

-- one turn: the number gets two digits more
more : (m left s rem i S : ℕ) → (s + rem) * 2 ^ 64 + left ≡ m * 4 ^ i → S ≡ 4 * s + (rem * 4 + left / 2 ^ 62) → S * 2 ^ 64 + left % 2 ^ 62 * 4 ≡ m * 4 ^ (i + 1)
more m left s rem i S e f =
    let g : m * 4 ^ (i + 1) ≡ m * 4 ^ i * 4 = ap (λ (x : ℕ). m * 4 ^ x) (add-one i) ∙ ap (λ (x : ℕ). m * x) (pow-suc 4 i) ∙ sym (mul_assoc m (4 ^ i) 4) in
    omega arith

twice : (i : ℕ) → 2 ^ (i + 1) ≡ 2 * 2 ^ i
twice i = ap (λ (x : ℕ). 2 ^ x) (add-one i) ∙ pow-suc 2 i ∙ mul_comm (2 ^ i) 2

module _ (m left root rem i : ℕ) (v : Inv m left root rem i) (h : i < 55) where
  low : root < 2 ^ 54
  low = lt_of_lt_of_le v.short (pow_mono (le_of_suc-le-suc h))

  step-one : root * 2 * 2 < rem * 4 + left / 2 ^ 62 → Inv m (left % 2 ^ 62 * 4) (root * 2 + 1) (rem * 4 + left / 2 ^ 62 - (root * 2 * 2 + 1)) (i + 1)
  step-one g =
      let a = v.short in
      let b = v.rest in
      let w = v.word in
      let t = twice i in
      let e : (root * 2 + 1) * (root * 2 + 1) ≡ 4 * (root * root) + 4 * root + 1 = ap (λ (x : ℕ). x * x) (next root) ∙ sq_suc (2 * root) ∙ sums root (2 * root * (2 * root)) (root * root) (sq_twice root) in
      record {
        short = omega arith;
        rest = omega arith;
        word = omega arith;
        digits = more m left (root * root) rem i ((root * 2 + 1) * (root * 2 + 1) + (rem * 4 + left / 2 ^ 62 - (root * 2 * 2 + 1))) v.digits (omega arith);
      }
    where
      next : (r : ℕ) → r * 2 + 1 ≡ suc (2 * r)
      next r = omega arith

      sums : (r a b : ℕ) → a ≡ 4 * b → a + 2 * (2 * r) + 1 ≡ 4 * b + 4 * r + 1
      sums r a b e = omega arith

  step-none : rem * 4 + left / 2 ^ 62 ≤ root * 2 * 2 → Inv m (left % 2 ^ 62 * 4) (root * 2) (rem * 4 + left / 2 ^ 62) (i + 1)
  step-none g =
      let a = v.short in
      let b = v.rest in
      let w = v.word in
      let t = twice i in
      let e : root * 2 * (root * 2) ≡ 4 * (root * root) = ap (λ (x : ℕ). x * x) (mul_comm root 2) ∙ sq_twice root in
      record {
        short = omega arith;
        rest = omega arith;
        word = omega arith;
        digits = more m left (root * root) rem i (root * 2 * (root * 2) + (rem * 4 + left / 2 ^ 62)) v.digits (omega arith);
      }

pub overflow_mul-rem : goal.overflow_mul-rem
overflow_mul-rem c = let k = low _ _ _ _ _ c.loop-i.invariant c.loop-i-test.true in omega arith

pub overflow_add-rem : goal.overflow_add-rem
overflow_add-rem c = let k = low _ _ _ _ _ c.loop-i.invariant c.loop-i-test.true in omega arith

pub overflow_mul-root-in-loop-i : goal.overflow_mul-root-in-loop-i
overflow_mul-root-in-loop-i c = let k = low _ _ _ _ _ c.loop-i.invariant c.loop-i-test.true in omega arith

pub overflow_mul-rem-then-root-rem : goal.overflow_mul-rem-then-root-rem
overflow_mul-rem-then-root-rem c = let k = low _ _ _ _ _ c.loop-i.invariant c.loop-i-test.true in omega arith

pub overflow_add-rem-then-root-rem : goal.overflow_add-rem-then-root-rem
overflow_add-rem-then-root-rem c = let k = low _ _ _ _ _ c.loop-i.invariant c.loop-i-test.true in omega arith

pub loop-i-preserved : goal.loop-i-preserved
loop-i-preserved c =
    let p : ℕ → ℕ → Type 0 = λ x y. Inv c.args.m (c.loop-i.left % 2 ^ 62 * 4) x y (c.loop-i.i + 1) in
    elim c.if-root-rem.branch [ then-root-rem w ↦ subst₂ p (sym w.root-is) (sym w.rem-is) (step-one c.args.m c.loop-i.left c.loop-i.root c.loop-i.rem c.loop-i.i c.loop-i.invariant c.loop-i-test.true w.if-root-rem.true) | else-root-rem w ↦ subst₂ p (sym w.root-is) (sym w.rem-is) (step-none c.args.m c.loop-i.left c.loop-i.root c.loop-i.rem c.loop-i.i c.loop-i.invariant c.loop-i-test.true w.if-root-rem.false) ]
