-- `row_greatest::first_greatest` meets its contract: the first number that the greatest does not pass, which is there. Assumes nothing.
use Rattle.std.proofs.Common.{ℕ, ◌≡◌, ◌<◌, length, refl, ◌∙◌, arith, Option, Some, None, IfSome, unwrap_or}
use lib.Ieee.{of_bits}
use Rattle.row_greatest.proofs.Found.{inside, found, found_none}
use Rattle.row_greatest.proofs.first_greatest.Goals as goal

-- what is found within is found, whatever stands for none
some_told : (r : Option ℕ) (n d : ℕ) → unwrap_or r n < n → unwrap_or r d ≡ unwrap_or r n
some_told (Some i) n d h = refl
some_told None n d h = absurd (omega arith)

some_within : (r : Option ℕ) (n : ℕ) → unwrap_or r n < n → IfSome r (λ i. i < n)
some_within (Some i) n h = h
some_within None n h = absurd (omega arith)

pub returns-then-g-clause-place : goal.returns-then-g-clause-place
unfolding of_bits
returns-then-g-clause-place c d =
    some_told c.first_kept.result (length c.args.l.now) d (inside c.args.l.now c.top-g.result c.top-g.ensures c.if-g.true _ c.first_kept.ensures)
    ∙ found c.args.l.now c.top-g.result c.top-g.ensures c.if-g.true _ c.first_kept.ensures d

pub returns-then-g-clause-within : goal.returns-then-g-clause-within
unfolding of_bits
returns-then-g-clause-within c =
    some_within c.first_kept.result (length c.args.l.now) (inside c.args.l.now c.top-g.result c.top-g.ensures c.if-g.true _ c.first_kept.ensures)

pub returns-else-g-clause-place : goal.returns-else-g-clause-place
unfolding of_bits
returns-else-g-clause-place c d = found_none d c.args.l.now c.top-g.result c.top-g.ensures c.if-g.false
