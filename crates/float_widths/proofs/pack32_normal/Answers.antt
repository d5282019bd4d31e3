-- `float_widths::pack32_normal` meets its contract: with 24 of 53 digits kept the shift rounds as `round` does. Assumes nothing.
use Rattle.std.proofs.Common.{◌≡◌, ℕ, ◌+◌, ◌^◌, ◌≤◌, sym, ap, ◌∙◌, subst, arith, pow_pos}
use lib.Ieee.{binary32, units}
use Rattle.float_order.proofs.Laws.{closest_le, closest_ge, round_shifted}
use Rattle.float_widths.proofs.pack32_normal.Goals as goal
use Rattle.float_widths.proofs.pack32_normal.Goals.{After-round_shift}

kept : (c : After-round_shift) → (c.round_shift.result ≤ 2 ^ 24) × (2 ^ 23 ≤ c.round_shift.result)
kept c =
    subst (λ (x : ℕ). (x ≤ 2 ^ 24) × (2 ^ 23 ≤ x)) (sym c.round_shift.ensures) (
      closest_le c.args.m (2 ^ 29) (2 ^ 24) (pow_pos 29) c.requires.1,
      closest_ge c.args.m (2 ^ 29) (2 ^ 23) (pow_pos 29) c.requires.0,
    )

pub assemble-requires : goal.assemble-requires
assemble-requires c = ((kept c).0, (λ _. (kept c).1))

pub returns : goal.returns
returns c =
    c.assemble.ensures
    ∙ ap (λ (x : ℕ). units binary32 c.args.neg x c.args.k) c.round_shift.ensures
    ∙ sym (round_shifted binary32 c.args.neg c.args.m (c.args.k + 896) 1074 29 c.args.k (sum c.args.k) c.requires.1 (λ _. c.requires.0))
  where
    sum : (k : ℕ) → k + 896 + 149 + 29 ≡ 1074 + k
    sum k = omega arith
