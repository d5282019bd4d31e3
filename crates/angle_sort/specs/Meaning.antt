-- Document 01, "Layout" ("sorted ascending, equals in slot order"): what it means that a list is another one sorted, whatever the angles, a NaN too. Assumes nothing.
use Rattle.std.specs.Prelude.{ℕ, ◌<◌, ◌≡◌, false, length, get_or, Float}
use mathlib.Core.List.{List, Permᴰ}
use Rattle.std.specs.Float.Ieee.{lt, eq}
use Rattle.lists.specs.Lists.{filter}
use Rattle.angle_sort.specs.declared.Spot.{Spot}
use Rattle.angle_sort.specs.Order.{sorted_of}

-- s is l sorted
pub record Sorted (l s : List Spot) : Type 0 where
  -- the same spots, each as often
  pub same : Permᴰ s l
  -- no later angle is below an earlier one
  pub ascending : (i j : ℕ) (d : Spot) → i < j → j < length s → lt (get_or s j d).angle (get_or s i d).angle ≡ false
  -- the spots whose angles equal a value stay in their order
  pub stable : (v : Float) → filter (λ t. eq v t.angle) s ≡ filter (λ t. eq v t.angle) l

abbrev pub SortedMeaning : Type 0
SortedMeaning = (l : List Spot) → Sorted l (sorted_of l)
