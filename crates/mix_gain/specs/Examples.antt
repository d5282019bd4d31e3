-- Document 01, "Proving ground". The statement is proved in proofs/Examples.antt by computation: `MixedAt0` by `mixed_at_0`. Assumes nothing.
use Rattle.std.specs.Prelude.{◌≡◌}
use Rattle.std.specs.Float.{binary32}
use Rattle.std.specs.Float.Ieee.{of_bits}
use Rattle.float_order.specs.Values.{+0}
use Rattle.mix_gain.specs.Mixed.{normalized_lerp_gain_of}

-- "Mixed gain of 0.25, 0.75, dot 0, t 0: 0.25"
abbrev pub MixedAt0 : Type 0
MixedAt0 = normalized_lerp_gain_of (of_bits binary32 0x3e80_0000) (of_bits binary32 0x3f40_0000) +0 +0 ≡ of_bits binary32 0x3e80_0000
