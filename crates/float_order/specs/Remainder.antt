-- Document 01, "Number work": rem_euclid. lib.Ieee's `rem` is the remainder with the sign of the dividend. Assumes nothing.
use Rattle.std.specs.Prelude.{cond, Float}
use Rattle.std.specs.Float.{Format}
use Rattle.std.specs.Float.Ieee.{add, rem, lt}
use Rattle.float_order.specs.Values.{+0}

-- the remainder, plus the modulus where negative (−0 is not negative and stays)
unfoldable pub rem_euclid_of : Format → Float → Float → Float
rem_euclid_of f x m = let r = rem f x m in cond (lt r +0) (add f r m) r
