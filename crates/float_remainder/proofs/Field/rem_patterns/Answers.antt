-- By the two laws of scaled remainders.
use Rattle.std.proofs.Common.{◌≡◌, ℕ, ◌*◌, ◌/◌, ◌%◌, ◌^◌, ◌≤◌, arith, ap, ◌∙◌, sym}
use Rattle.float_remainder.specs.Patterns.{units_of}
use Rattle.float_remainder.proofs.Laws.{early, late}
use Rattle.float_remainder.proofs.Field.rem_patterns.Goals as goal

-- the remainder of two scaled numbers
both : (x y m n j k j' k' : ℕ) → x ≡ m * 2 ^ j' → y ≡ n * 2 ^ k' → j ≡ j' → k ≡ k' → (m * 2 ^ j) % (n * 2 ^ k) ≡ x % y
both x y m n j k j' k' a b p q = cc

pub returns-then-j-k-clause-units : goal.returns-then-j-k-clause-units
returns-then-j-k-clause-units c =
    let two : 2 ≤ c.args.b / c.args.self.weight = omega arith in
    let e = early c.digits-m.result c.digits-n.result c.scale-j.result c.scale-k.result c.args.self.weight c.if-j-k.true c.digits-m.ensures.few (c.digits-n.ensures.leading two) in
    let f = both (units_of c.args.self.weight c.args.a) (units_of c.args.self.weight c.args.b) c.digits-m.result c.digits-n.result c.scale-j.result c.scale-k.result _ _ c.digits-m.ensures.units c.digits-n.ensures.units c.scale-j.ensures c.scale-k.ensures in
    c.digits-m.ensures.units ∙ ap (λ (x : ℕ). c.digits-m.result * 2 ^ x) (sym c.scale-j.ensures) ∙ sym e ∙ f

pub returns-clause-units : goal.returns-clause-units
returns-clause-units c =
    let f = both (units_of c.args.self.weight c.args.a) (units_of c.args.self.weight c.args.b) c.digits-m.result c.digits-n.result c.scale-j.result c.scale-k.result _ _ c.digits-m.ensures.units c.digits-n.ensures.units c.scale-j.ensures c.scale-k.ensures in
    c.encoded.ensures.units ∙ ap (λ (x : ℕ). x * 2 ^ c.scale-k.result) c.scaled_rem-r.ensures.value ∙ late c.digits-m.result c.digits-n.result c.scale-j.result c.scale-k.result c.if-j-k.false (c.digits-n.ensures.above c.requires.divisor) ∙ f
