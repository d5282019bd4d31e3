-- Document 01, "The ramp and the mixed gain follow S"; source lines 585 to 602: ramp_add.
-- Where a ramped sample is a NaN, its sign and payload are the program's: every choice is a NaN, the only one that the logic has. The rest of dst stays as it is. Assumes nothing.
use Rattle.std.specs.Prelude.{ℕ, ◌+◌, min, max, cond, List, ◌++◌, map, length, get_or, drop, Float}
use Rattle.std.specs.Float.{nan, binary32}
use Rattle.std.specs.Float.Ieee.{add, sub, mul, div, eq}
use Rattle.float_order.specs.Values.{count32}
use Rattle.lists.specs.Lists.{range}

-- the gain of sample i of n: g0 + step·(i + 1), step = (g1 − g0) ÷ n; g1 where the two are equal
unfoldable pub ramp_gain : ℕ → Float → Float → ℕ → Float
ramp_gain n g0 g1 i =
    let step = div binary32 (sub binary32 g1 g0) (count32 (max n 1)) in
    cond (eq g0 g1) g1 (add binary32 g0 (mul binary32 step (count32 (i + 1))))

-- dst[i] + src[i]·gain over the first n = min(dst, src) samples; the rest of dst stays
unfoldable pub ramp_add_of : List Float → List Float → Float → Float → List Float
ramp_add_of dst src g0 g1 =
    let n = min (length dst) (length src) in
    map (λ i. add binary32 (get_or dst i nan) (mul binary32 (get_or src i nan) (ramp_gain n g0 g1 i))) (range n) ++ drop n dst
