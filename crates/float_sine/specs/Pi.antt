-- Document 01, "Number work": PI64 is the 64-bit float nearest pi; 2·pi and pi/2 are its double and half: `PI64Nearest` and `TwoPiHalfPi` of Meaning.antt. Assumes nothing.
use Rattle.std.specs.Prelude.{from_bits, Float}
use Rattle.std.specs.Float.{binary32, binary64}

-- 3.141592653589793
abbrev pub PI64 : Float
PI64 = from_bits binary64 0x4009_21fb_5444_2d18

-- 6.283185307179586
abbrev pub two_pi : Float
two_pi = from_bits binary64 0x4019_21fb_5444_2d18

-- 1.5707963267948966
abbrev pub half_pi : Float
half_pi = from_bits binary64 0x3ff9_21fb_5444_2d18

-- TAU, 6.2831855, 2·pi in 32 bits, rounded up. Origin: std::f32::consts::TAU, vbap.rs line 464.
abbrev pub tau32 : Float
tau32 = from_bits binary32 0x40c9_0fdb
