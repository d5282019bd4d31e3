-- `float_order::F32Width::pattern` meets its contract: a pattern of 32 bits fits. Assumes nothing.
use Rattle.std.proofs.Common.{◌*◌, ◌<◌, sym, subst, T, arith}
use lib.Ieee.{binary32, top, to_bits}
use lib.Ieee.Bits.{to_bits-lt}
use Rattle.float_order.proofs.F32Width.pattern.Goals as goal

pub overflow_cast-result : goal.overflow_cast-result
overflow_cast-result c =
    let p : to_bits binary32 c.args.self < 2 * top binary32 = to_bits-lt binary32 c.args.self (subst T (sym c.well_formed.0.1) tt) in
    omega arith
