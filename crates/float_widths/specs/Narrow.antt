-- Document 01, "Number work": narrowing. An f64 as an f32: the nearest value of the narrower format, a tie to the even one. What it means is `NarrowNearest` and `NarrowSign` of Meaning.antt.
-- Of a NaN the sign and payload are the program's: every choice is a NaN, the only one that the logic has. Assumes nothing.
use Rattle.std.specs.Prelude.{◌*◌, Float}
use Rattle.std.specs.Float.{nan, inf, fin, binary32}
use Rattle.std.specs.Float.Ieee.{up, down, round}

unfoldable pub narrow_of : Float → Float
unfolding round
narrow_of nan = nan
narrow_of (inf s) = inf s
narrow_of (fin s m e) = round binary32 s (m * up e) (down e)
