-- `boundary_arrays::sin_cos_all` meets its contract: the first `i` values of both are written. Assumes nothing.
use Rattle.boundary_arrays.specs.Arrays.{at, Filled}
use Rattle.float_sine.specs.Sine.{sin_of, cos_of}
use Rattle.boundary_arrays.proofs.sin_cos_all.Given as goal

abbrev pub invariant-loop-i : goal.invariant-loop-i
invariant-loop-i l = Filled l.i (λ j. sin_of (at l.src j)) l.initial.sin l.sin × Filled l.i (λ j. cos_of (at l.src j)) l.initial.cos l.cos
