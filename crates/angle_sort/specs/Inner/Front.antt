-- Document 01, "Forms of vbap.rs that need another": a stable insertion sort; here of the first n places of an array, the others as they are. Assumes nothing.
use Rattle.std.specs.Prelude.{ℕ, ◌+◌, ◌-◌, List, ◌∷◌, ◌++◌, take, drop, Float}
use Rattle.std.specs.Float.Ieee.{lt}
use Rattle.lists.specs.Lists.{position}
use Rattle.angle_sort.specs.declared.Spot.{Spot}
use Rattle.angle_sort.specs.Order.{insert_of, sorted_of}

-- how many spots stand before the first whose angle is above the given one
abbrev pub place_of : Float → List Spot → ℕ
place_of angle l = position (λ t. lt angle t.angle) l

-- s at place p, and what stood from p up to n one place on
abbrev pub opened_of : List Spot → ℕ → ℕ → Spot → List Spot
opened_of a p n s = take p a ++ take (n + 1 - p) (s ∷ drop p a) ++ drop (n + 1) a

-- s inserted into the first n spots, in place of spot n
unfoldable pub inserted_in : List Spot → ℕ → Spot → List Spot
inserted_in a n s = insert_of (take n a) s ++ drop (n + 1) a

-- the first n spots sorted
unfoldable pub sorted_in : List Spot → ℕ → List Spot
sorted_in a n = sorted_of (take n a) ++ drop n a
