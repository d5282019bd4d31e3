use Rattle.std.proofs.Common.{◌≡◌, [], ◌∷◌, ◌++◌}
use Rattle.float_sine.specs.Series.{sum_of}
use Rattle.float_sine.proofs.sum.Given as goal

-- With what was summed as the highest coefficient, the sum of what is left stays.
abbrev pub invariant-loop-c : goal.invariant-loop-c
invariant-loop-c l = sum_of l.z (l.c-iterator.iter.rest.now ++ (l.sum ∷ [])) ≡ sum_of l.z l.coefficients
