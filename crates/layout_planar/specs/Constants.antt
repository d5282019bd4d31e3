-- The constant that the source gives by a difference, against the bit pattern that the definitions write. Assumes nothing.
use Rattle.std.specs.Prelude.{◌≡◌, from_bits}
use Rattle.std.specs.Float.{binary32}
use Rattle.std.specs.Float.Ieee.{sub}
use Rattle.layout_planar.specs.Planar.{max_vbap_gap}

-- vbap.rs line 55: std::f32::consts::PI - 1e-3, 4049_0fdb less 3a83_126f
abbrev pub GapOrigin : Type 0
GapOrigin = max_vbap_gap ≡ sub binary32 (from_bits binary32 0x4049_0fdb) (from_bits binary32 0x3a83_126f)
