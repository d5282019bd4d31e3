-- Document 01, "The ramp and the mixed gain follow S"; source lines 597 to 600: one sample of a ramp, at the gain of its count. Assumes nothing.
use Rattle.std.specs.Prelude.{Float}
use Rattle.std.specs.Float.{binary32}
use Rattle.std.specs.Float.Ieee.{add, mul, of_bits}

-- 8: 4100_0000. Origin: eight samples, two vectors of four 32-bit floats, are taken at once.
abbrev pub 8·0 : Float
8·0 = of_bits binary32 0x4100_0000

-- d + s·(g0 + step·count)
unfoldable pub sample_of : Float → Float → Float → Float → Float → Float
sample_of d s g0 step count = add binary32 d (mul binary32 s (add binary32 g0 (mul binary32 step count)))
