-- Document 01, "The ramp and the mixed gain follow S"; source lines 585 to 602: one turn of each of ramp_add's loops. Ramp.antt says what all turns make. Assumes nothing.
use Rattle.std.specs.Prelude.{ℕ, ◌+◌, List, get_or, set, Float}
use Rattle.std.specs.Float.{nan, binary32}
use Rattle.std.specs.Float.Ieee.{add, mul}
use Rattle.mix_eights.specs.Inner.Eights.{sample_of}
use Rattle.float_order.specs.Values.{count32}

-- place i of dst, at one gain and at a moving one
unfoldable pub steady_turn : List Float → Float → List Float → ℕ → List Float
steady_turn src g dst i = set dst i (add binary32 (get_or dst i nan) (mul binary32 (get_or src i nan) g))

unfoldable pub ramp_turn : List Float → Float → Float → List Float → ℕ → List Float
ramp_turn src g0 step dst i = set dst i (sample_of (get_or dst i nan) (get_or src i nan) g0 step (count32 (i + 1)))
