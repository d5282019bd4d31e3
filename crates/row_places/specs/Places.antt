-- Document 01, "A row"; source lines 460 to 583: a gain added in a place of a row. `set` beyond the end of a list changes nothing: the source's `if slot < n`. Assumes nothing.
use Rattle.std.specs.Prelude.{ℕ, List, get_or, set, Float}
use Rattle.std.specs.Float.{nan, binary32}
use Rattle.std.specs.Float.Ieee.{add}

-- v added to the gain in place i
unfoldable pub add_at : List Float → ℕ → Float → List Float
add_at row i v = set row i (add binary32 (get_or row i nan) v)
