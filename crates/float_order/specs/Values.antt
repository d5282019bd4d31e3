-- Document 01, "Number work": what lib.Ieee does not have of signs and kinds of values. IEEE 754-2019, 5.5.1 (abs) and 5.7.2 (isSignMinus, isFinite).
-- Widening is not here: one type of values serves both formats, so to widen changes nothing. Assumes nothing.
use Rattle.std.specs.Prelude.{ℕ, Bool, true, false, pos, Float}
use Rattle.std.specs.Float.{nan, inf, fin, binary32}
use Rattle.std.specs.Float.Ieee.{of_int}

-- +0: 0000_0000 and 0000_0000_0000_0000
abbrev pub +0 : Float
+0 = fin false 0 (pos 0)

-- 1: 3f80_0000 and 3ff0_0000_0000_0000
abbrev pub 1·0 : Float
1·0 = fin false 1 (pos 0)

-- 2: 4000_0000 and 4000_0000_0000_0000
abbrev pub 2·0 : Float
2·0 = fin false 1 (pos 1)

-- a whole number as a 32-bit float, rounded once
abbrev pub count32 : ℕ → Float
count32 n = of_int binary32 (pos n)

-- the value without its sign
unfoldable pub abs : Float → Float
abs nan = nan
abs (inf s) = inf false
abs (fin s m e) = fin false m e

-- the sign bit, of −0 too. The logic has one NaN, without a sign, so what is answered of a NaN is the program's choice: its sign counts as clear.
unfoldable pub sign_bit : Float → Bool
sign_bit nan = false
sign_bit (inf s) = s
sign_bit (fin s m e) = s

unfoldable pub is_finite : Float → Bool
is_finite nan = false
is_finite (inf s) = false
is_finite (fin s m e) = true
