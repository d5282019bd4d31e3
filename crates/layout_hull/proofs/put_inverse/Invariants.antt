-- `layout_hull::put_inverse` meets its contract: after e turns the first e entries are stored. Assumes nothing.
use Rattle.std.proofs.Common.{◌≡◌}
use Rattle.layout_hull.specs.Inner.Steps.{inverses_with}
use Rattle.layout_hull.proofs.put_inverse.Given as goal

abbrev pub invariant-loop-e : goal.invariant-loop-e
invariant-loop-e l = l.to ≡ inverses_with l.initial.to l.p l.fn.m l.e
