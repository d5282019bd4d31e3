-- `row_fill::share_out` meets its contract. The loop's invariant: the gains of the imaginary points passed are shared out. Assumes nothing.
use Rattle.std.proofs.Common.{◌≡◌}
use Rattle.row_fill.specs.Inner.Filling.{shared_out}
use Rattle.row_fill.proofs.share_out.Given as goal

abbrev pub invariant-loop-k : goal.invariant-loop-k
invariant-loop-k l = l.out ≡ shared_out l.panner.num_nbrs l.panner.imag_nbrs l.sums l.k l.initial.out
