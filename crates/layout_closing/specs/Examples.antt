-- An end of the closing loop, by computation: speakers on the six axes surround the listener, so no imaginary point is made. Assumes nothing.
use Rattle.std.specs.Prelude.{◌≡◌, true, take}
use Rattle.vector.specs.Vector.{Points}
use Rattle.layout_hull.specs.Triplets.{closed}
use Rattle.layout_closing.specs.Closing.{candidates, final_points}

-- the first six candidates
abbrev pub axes : Points
axes = take 6 candidates

pub record AxesClose : Type 0 where
  pub closes : closed axes ≡ true
  pub none_made : final_points axes ≡ axes
