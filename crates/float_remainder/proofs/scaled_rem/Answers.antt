-- By the law of one doubling.
use Rattle.std.proofs.Common.{◌*◌, arith}
use Rattle.std.proofs.Math.Nat.{mod-lt}
use Rattle.float_remainder.proofs.Laws.{doubled}
use Rattle.float_remainder.proofs.scaled_rem.Goals as goal

pub loop-i-preserved : goal.loop-i-preserved
loop-i-preserved c =
    record { value = doubled c.args.m c.args.n c.loop-i.r c.loop-i.i c.loop-i.invariant.value; less = mod-lt (c.loop-i.r * 2) (omega arith) }
