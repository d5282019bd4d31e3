-- Document 01, "Proving ground", and narrowing at the formats' ends. Each statement is proved in proofs/Examples.antt by computation: `Narrow16777217` by `narrow_16777217`, and so on. Assumes nothing.
use Rattle.std.specs.Prelude.{◌≡◌, false, pos, from_bits}
use Rattle.std.specs.Float.{inf, fin, binary32, binary64}
use Rattle.float_widths.specs.Narrow.{narrow_of}

-- "16,777,217 narrows to 16,777,216; 16,777,219 to 16,777,220": each is half way, and the even one is taken (16,777,220 is 4b800002)
abbrev pub Narrow16777217 : Type 0
Narrow16777217 = narrow_of (fin false 16777217 (pos 0)) ≡ from_bits binary32 0x4b80_0000

abbrev pub Narrow16777219 : Type 0
Narrow16777219 = narrow_of (fin false 16777219 (pos 0)) ≡ from_bits binary32 0x4b80_0002

-- the largest f32, and half way from it to 2 ^ 128
abbrev pub NarrowLargest : Type 0
NarrowLargest = narrow_of (from_bits binary64 0x47ef_ffff_efff_ffff) ≡ from_bits binary32 0x7f7f_ffff

abbrev pub NarrowTooLarge : Type 0
NarrowTooLarge = narrow_of (from_bits binary64 0x47ef_ffff_f000_0000) ≡ inf false

-- half of the smallest f32, below zero
abbrev pub NarrowToMinusZero : Type 0
NarrowToMinusZero = narrow_of (from_bits binary64 0xb690_0000_0000_0000) ≡ from_bits binary32 0x8000_0000
