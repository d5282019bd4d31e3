-- What an array function writes: bench/README.md. Assumes nothing.
use Rattle.std.specs.Prelude.{ℕ, ◌≡◌, List, ◌++◌, map, get_or, drop, Float}
use Rattle.std.specs.Float.{nan}
use Rattle.lists.specs.Lists.{range}

abbrev pub at : List Float → ℕ → Float
at l i = get_or l i nan

-- the first n values are those of g, and the others are as they were
abbrev pub Filled : ℕ → (ℕ → Float) → List Float → List Float → Type 0
Filled n g before after = after ≡ map g (range n) ++ drop n before
