-- Document 01, "Number work": maximum, minimum, clamp and the fourth power. Where a result is `nan`, its sign and payload are the program's: every choice is a NaN, the only one that the logic has. Assumes nothing.
use Rattle.std.specs.Prelude.{cond, ◌&&◌, Float}
use Rattle.std.specs.Float.{binary32}
use Rattle.std.specs.Float.Ieee.{mul, lt, eq, is_nan}
use Rattle.float_order.specs.Values.{+0, 1·0}

-- Maximum and minimum give the other value for a NaN; the maximum of two zeros is +0.
unfoldable pub max_of : Float → Float → Float
max_of x y = cond (is_nan x) y (cond (is_nan y) x (cond (eq x +0 && eq y +0) +0 (cond (lt x y) y x)))

-- Of two equal values, two zeros too, the first: document 01 leaves the minimum of two zeros to the program. Every choice is a zero, and it is only ever compared.
unfoldable pub min_of : Float → Float → Float
min_of x y = cond (is_nan x) y (cond (is_nan y) x (cond (lt y x) y x))

-- Clamp from 0 to 1: a NaN and −0 stay. Origin of 0 and 1: the bounds of every clamp in vbap.rs, lines 90, 149, 151 and 484.
unfoldable pub clamp_of : Float → Float
clamp_of x = cond (lt x +0) +0 (cond (lt 1·0 x) 1·0 x)

-- The fourth power is the square of the square.
unfoldable pub square_of : Float → Float
square_of x = mul binary32 x x

unfoldable pub powi4_of : Float → Float
powi4_of x = square_of (square_of x)
