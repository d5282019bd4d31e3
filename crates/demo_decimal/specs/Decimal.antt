-- A float's size as a whole number of steps of 10 ^ -d: the nearest, a tie to the even one. fin s m e is m * up e / down e in size. Assumes nothing.
use Rattle.std.specs.Prelude.{ℕ, ◌*◌, ◌^◌, cond, ltb, Float}
use Rattle.std.specs.Float.{nan, inf, fin}
use Rattle.std.specs.Float.Ieee.{up, down}
use Rattle.std.specs.Float.Ieee.Nearest.{closest}
use Rattle.demo_decimal.specs.declared.Size.{Size}
use Rattle.demo_decimal.specs.declared.Size.TheVariants.{Steps, Large, Nan}

-- from 2 ^ 24 on it is only called large
unfoldable pub decimal_of : ℕ → Float → Size
decimal_of d nan = Nan
decimal_of d (inf s) = Large
decimal_of d (fin s m e) = cond (ltb (m * up e) (2 ^ 24 * down e)) (Steps (closest (m * up e * 10 ^ d) (down e))) Large
