-- Document 01, "Proving ground", and a root at each format's end. Each statement is proved in proofs/Examples.antt by computation: `RootOf2In32Bits` by `root_of_2_in_32_bits`, and so on. Assumes nothing.
use Rattle.std.specs.Prelude.{◌≡◌}
use Rattle.std.specs.Float.{binary32, binary64}
use Rattle.std.specs.Float.Ieee.{of_bits}
use Rattle.float_order.specs.Values.{2·0}
use Rattle.float_root.specs.Root.{sqrt_of}

-- "√2 in 32 bits is hexadecimal 3FB504F3"
abbrev pub RootOf2In32Bits : Type 0
RootOf2In32Bits = sqrt_of binary32 2·0 ≡ of_bits binary32 0x3fb5_04f3

abbrev pub RootOf2In64Bits : Type 0
RootOf2In64Bits = sqrt_of binary64 2·0 ≡ of_bits binary64 0x3ff6_a09e_667f_3bcd

-- of the smallest 64-bit value, 2 ^ -1074
abbrev pub RootOfTheSmallest : Type 0
RootOfTheSmallest = sqrt_of binary64 (of_bits binary64 1) ≡ of_bits binary64 0x1e60_0000_0000_0000

abbrev pub RootOfMinusZero : Type 0
RootOfMinusZero = sqrt_of binary32 (of_bits binary32 0x8000_0000) ≡ of_bits binary32 0x8000_0000
