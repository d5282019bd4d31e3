-- `ActiveSpeakers::none` meets its contract: of no speaker each has a slot below 40. Assumes nothing.
use Rattle.std.proofs.Common.{refl, arith}
use Rattle.lists.specs.Lists.{every}
use Rattle.layout_new.proofs.active.ActiveSpeakers.none.Goals as goal

pub invariant_of-result : goal.invariant_of-result
unfolding every
invariant_of-result c = (omega arith, refl)
