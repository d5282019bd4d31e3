-- Document 01, "Proving ground", and the source's equal gains (line 592). Each statement is proved in proofs/Examples.antt by computation: `Ramp0To1` by `ramp_0_to_1`, and so on. Assumes nothing.
use Rattle.std.specs.Prelude.{◌≡◌, [], ◌∷◌}
use Rattle.std.specs.Float.{nan, binary32}
use Rattle.std.specs.Float.Ieee.{of_bits}
use Rattle.float_order.specs.Values.{+0, 1·0}
use Rattle.mix_ramp.specs.Ramp.{ramp_add_of}

-- "Ramp 0 to 1 over samples 1, 1 into 0, 0: 0.5, 1"
abbrev pub Ramp0To1 : Type 0
Ramp0To1 = ramp_add_of (+0 ∷ +0 ∷ []) (1·0 ∷ 1·0 ∷ []) +0 1·0 ≡ of_bits binary32 0x3f00_0000 ∷ 1·0 ∷ []

-- a longer dst keeps what n does not reach
abbrev pub RampKeeps : Type 0
RampKeeps = ramp_add_of (+0 ∷ nan ∷ []) (1·0 ∷ []) +0 1·0 ≡ 1·0 ∷ nan ∷ []

-- −0 and +0 are equal gains, and the gain is g1: −0 times 1 leaves −0 as it is, where +0 would make it +0
abbrev pub RampZeros : Type 0
RampZeros = ramp_add_of (of_bits binary32 0x8000_0000 ∷ []) (1·0 ∷ []) +0 (of_bits binary32 0x8000_0000) ≡ of_bits binary32 0x8000_0000 ∷ []
