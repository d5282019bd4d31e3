-- A doubling goes in exchange for a power of two, and what is left has the leading digit or no power.
use Rattle.std.proofs.Common.{◌≡◌, ℕ, ◌+◌, ◌-◌, ◌*◌, ◌^◌, ◌<◌, ◌≤◌, arith, ap, ◌∙◌, sym, zero-mul}
use Rattle.float_remainder.specs.Patterns.{units_of}
use Rattle.float_remainder.proofs.Laws.{kept, units_below, units_normal, units_least}
use Rattle.float_remainder.proofs.Field.encoded.Goals as goal
use Rattle.float_remainder.proofs.Field.encoded.Goals.{then-loop-d-test+else-e-gt0, else-loop-d-test}

-- the pattern of nothing
none : (w r k : ℕ) → 0 < w → r ≡ 0 → units_of w 0 ≡ r * 2 ^ k
none w r k p z = units_below w 0 p ∙ sym (ap (λ (x : ℕ). x * 2 ^ k) z ∙ zero-mul (2 ^ k))

-- the pattern does not grow
less : (d e w k : ℕ) → d < w → 0 < e → e * w + d ≤ k → (e - 1) * w + d * 2 ≤ k
less d e w k h p a =
    let s : e ≡ e - 1 + 1 = omega arith in
    let m : e * w ≡ (e - 1 + 1) * w = ap (λ (x : ℕ). x * w) s in
    omega arith

pub returns-then-r-eq0-clause-units : goal.returns-then-r-eq0-clause-units
returns-then-r-eq0-clause-units c = none c.args.self.weight c.args.r c.args.k c.args.self.some c.if-r-eq0.true

pub loop-d-preserved : goal.loop-d-preserved
loop-d-preserved c =
    record {
      value = kept c.loop-d.d c.loop-d.e (c.args.r * 2 ^ c.args.k) c.if-e-gt0.true c.loop-d.invariant.value;
      digits = omega arith;
      range = less c.loop-d.d c.loop-d.e c.args.self.weight (c.args.k * c.args.self.weight + c.args.r) (omega arith) c.if-e-gt0.true c.loop-d.invariant.range;
      field = omega arith;
    }

pub returns-clause-units : goal.returns-clause-units
returns-clause-units c =
    let v = c.loop-d.invariant.value in
    elim c.loop-d-test.branch [
      | then-loop-d-test+else-e-gt0 t ↦ units_least c.args.self.weight c.loop-d.e c.loop-d.d (omega arith) (omega arith) ∙ v
      | else-loop-d-test t ↦ units_normal c.args.self.weight c.loop-d.e c.loop-d.d c.args.self.some t.loop-d-test.false c.loop-d.invariant.digits ∙ v
    ]
