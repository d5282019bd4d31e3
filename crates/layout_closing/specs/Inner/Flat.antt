-- Document 01, "Layout", the paragraph "Hull", and "Returned numbers" (refusal 4): what `close` returns. Assumes nothing.
use Rattle.std.specs.Prelude as Code
use Rattle.std.specs.Prelude.{◌-◌, Bool, true, None, Some, length, Float}
use Rattle.std.specs.Float.{binary64}
use Rattle.std.specs.Float.Ieee.{sub, lt}
use Rattle.std.proofs.Math.Option.{Option, none, some}
use Rattle.vector.specs.Vector.{Vector, Points}
use Rattle.layout_hull.specs.Inner.Flat.{hull_of}
use Rattle.layout_closing.specs.Closing.{nearest_product, least_lead, final_points, overfull}
use Rattle.layout_closing.specs.declared.Ended.{Ended}
use Rattle.layout_closing.specs.declared.Best.{Best}

-- how many imaginary points were made, poles counted; the hull of all points; whether a triplet list on the way had more than 80 entries
unfoldable pub ended_in : Points → Ended
ended_in real = record { imag = length (final_points real) - length real; hull = hull_of (final_points real); over = overfull real }

-- the best candidate so far, with its greatest product
unfoldable pub best_in : Points → Option Vector → Code.Option Best
best_in pts none = None
best_in pts (some v) = Some (record { c = v; nearest = nearest_product pts v })

-- the candidate that it holds
unfoldable pub found_in : Code.Option Best → Option Vector
found_in None = none
found_in (Some b) = some b.c

-- whether a candidate with the greatest product g wins over the best so far
abbrev pub wins_by : Float → Code.Option Best → Bool
wins_by g None = true
wins_by g (Some b) = lt g (sub binary64 b.nearest least_lead)
