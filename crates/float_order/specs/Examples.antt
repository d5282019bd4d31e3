-- Document 01, "Number work": single values. Each statement is proved in proofs/Examples.antt by computation: `MaxOfZeros` by `max_of_zeros`, and so on. Assumes nothing.
use Rattle.std.specs.Prelude.{◌≡◌, true, false, pos}
use Rattle.std.specs.Float.{nan, inf, fin, binary32}
use Rattle.std.specs.Float.Ieee.{of_bits}
use Rattle.float_order.specs.Values.{+0, 2·0}
use Rattle.float_order.specs.Order.{max_of, clamp_of, powi4_of}
use Rattle.float_order.specs.Remainder.{rem_euclid_of}

-- "maximum of two zeros is +0", also where both are −0
abbrev pub MaxOfZeros : Type 0
MaxOfZeros = max_of (of_bits binary32 0x8000_0000) (of_bits binary32 0x8000_0000) ≡ +0

-- "the other value for a NaN"
abbrev pub MaxWithNan : Type 0
MaxWithNan = max_of nan (inf true) ≡ inf true

-- "Clamp keeps a NaN and −0"
abbrev pub ClampNan : Type 0
ClampNan = clamp_of nan ≡ nan

abbrev pub ClampMinusZero : Type 0
ClampMinusZero = clamp_of (of_bits binary32 0x8000_0000) ≡ of_bits binary32 0x8000_0000

-- "the remainder, plus the modulus where negative": −90 by 360 is 270
abbrev pub RemMinus90 : Type 0
RemMinus90 = rem_euclid_of binary32 (fin true 45 (pos 1)) (fin false 45 (pos 3)) ≡ fin false 135 (pos 1)

-- "The fourth power is the square of the square": of 2 it is 16
abbrev pub FourthPowerOf2 : Type 0
FourthPowerOf2 = powi4_of 2·0 ≡ fin false 1 (pos 4)
