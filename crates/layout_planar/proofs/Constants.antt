-- MAX_VBAP_GAP is the 32-bit pi less 1e-3, by computation. Assumes nothing.
use Rattle.std.proofs.Common.{refl}
use lib.Count.{count_trailing_zeros}
use lib.Ieee.{of_bits, of_fields, odd, units, round, size, span, climb, neg, sum, add, sub}
use Rattle.layout_planar.specs.Constants.{GapOrigin}

pub gap_origin : GapOrigin
unfolding of_bits of_fields odd units round size span climb neg sum add sub count_trailing_zeros
gap_origin = refl
