-- `row_greatest::is_passed` meets its contract: its test is the definition's. Assumes nothing.
use Rattle.std.proofs.Common.{ap, Bool}
use mathlib.Core.Bool.{◌||◌}
use lib.Ieee.{lt}
use Rattle.row_greatest.specs.Inner.Steps.{passed}
use Rattle.row_greatest.proofs.is_passed.Goals as goal

pub returns : goal.returns
unfolding passed
returns c = ap (λ (b : Bool). lt c.args.x c.args.g || b) c.is_nan.ensures.value
