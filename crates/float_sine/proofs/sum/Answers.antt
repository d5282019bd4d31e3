-- `float_sine::sum` meets its contract: each turn takes the two highest coefficients together. Assumes nothing.
use Rattle.std.proofs.Common.{◌≡◌, refl, arith, List, [], ◌∷◌, ◌++◌, length, sym, ap, ◌∙◌}
use lib.Ieee.{Float, binary64, of_bits}
use Rattle.float_sine.specs.Series.{sum_of}
use Rattle.float_sine.proofs.Steps.{sum_step}
use Rattle.float_sine.proofs.sum.Goals as goal

none : (z : Float) (xs : List Float) → length xs ≡ 0 → of_bits binary64 0 ≡ sum_of z xs
unfolding sum_of of_bits
none z [] h = refl
none z (x ∷ xs) h = absurd (omega arith)

pub returns-in_default : goal.returns-in_default
returns-in_default c = none _ _ c.in_default.ensures.cases

-- nothing but what was summed is left
last : (z s t : Float) (xs : List Float) → length xs ≡ 0 → sum_of z (xs ++ (s ∷ [])) ≡ t → s ≡ t
unfolding sum_of
last z s t [] h e = e
last z s t (x ∷ xs) h e = absurd (omega arith)

pub loop-c-preserved : goal.loop-c-preserved
loop-c-preserved c =
    let z = c.args.z in
    let s = c.loop-c.sum in
    sym (sum_step z c.in-Some-c.c.now s c.next.new.self.iter.rest.now)
    ∙ ap (λ (r : List Float). sum_of z (r ++ (s ∷ []))) (sym c.in-Some-c.ensures.steps) ∙ c.loop-c.invariant

pub returns : goal.returns
returns c = last _ _ _ _ c.in-None.ensures.steps.0 c.loop-c.invariant
