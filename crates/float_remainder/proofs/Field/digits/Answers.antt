-- Below the weight the quotient is 0, and so is the power.
use Rattle.std.proofs.Common.{◌≡◌, ℕ, ◌-◌, ◌*◌, ◌/◌, ◌^◌, arith, ap}
use Rattle.std.proofs.Math.Nat.{div-eq_of_lt}
use Rattle.float_remainder.proofs.Laws.{units_below, units_above}
use Rattle.float_remainder.proofs.Field.digits.Goals as goal

pub returns-then-b-w-clause-units : goal.returns-then-b-w-clause-units
returns-then-b-w-clause-units c =
    let z : c.args.b / c.args.self.weight ≡ 0 = div-eq_of_lt c.if-b-w.true in
    let e : c.args.b * 2 ^ (c.args.b / c.args.self.weight - 1) ≡ c.args.b * 2 ^ 0 = ap (λ (x : ℕ). c.args.b * 2 ^ (x - 1)) z in
    let u = units_below c.args.self.weight c.args.b c.if-b-w.true in
    omega arith

pub returns-else-b-w-clause-units : goal.returns-else-b-w-clause-units
returns-else-b-w-clause-units c = units_above c.args.self.weight c.args.b c.if-b-w.false
