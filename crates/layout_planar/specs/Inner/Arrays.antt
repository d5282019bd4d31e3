-- Document 01, "Layout", the paragraph "Planar": the pairs in an array of 40 places, with their count. Unused places hold 0, +0 or the crossfade. Origin of 40: document 01, refusal 2. Assumes nothing.
use Rattle.std.specs.Prelude as Code
use Rattle.std.specs.Prelude.{Bool, cond, List, length, nat_lt, None, Some, Float}
use Rattle.std.proofs.Math.Option.{Option, none, some}
use Rattle.std.specs.Float.Ieee.{neg, lt}
use Rattle.lists.specs.Lists.{filled}
use Rattle.float_widths.specs.Narrow.{narrow_of}
use Rattle.float_sine.specs.Sine.{sin_of, cos_of}
use Rattle.float_sine.specs.declared.SinCos.{SinCos}
use Rattle.vector.specs.declared.Speaker.{Speaker}
use Rattle.angle_sort.specs.declared.Spot.{Spot}
use Rattle.layout_planar.specs.declared.Law.{Law}
use Rattle.layout_planar.specs.declared.Law.TheVariants.{Crossfade}
use Rattle.layout_planar.specs.declared.PlanarPair.{PlanarPair}
use Rattle.layout_planar.specs.declared.Planar.{Planar}
use Rattle.layout_planar.specs.Planar.{max_vbap_gap, inverse_law, pairs_of, no_pair}

-- the spot's number fits the 8 bits of a slot. Origin of 256: 2 ^ 8.
unfoldable pub slot_fits : Spot → Bool
slot_fits s = nat_lt s.number 256

-- the sine and the cosine of an azimuth, as the code has them
abbrev pub sin_cos_of : Float → SinCos Float
sin_cos_of az = record { sin = sin_of az; cos = cos_of az }

-- the law of a pair by the sines and cosines of its two azimuths
unfoldable pub law_by : SinCos Float → SinCos Float → Float → Law
law_by a b gap = cond (lt (narrow_of gap) max_vbap_gap) (inverse_law a.sin (neg a.cos) b.sin (neg b.cos)) Crossfade

-- a pair or none, as the code has it
unfoldable pub told_of : Option PlanarPair → Code.Option PlanarPair
told_of none = None
told_of (some p) = Some p

-- the layout's pairs and their count
unfoldable pub planar_in : List Speaker → Planar
planar_in act =
    let l = pairs_of act in
    record { pairs = filled 40 no_pair l; num_pairs = length l }
