-- Document 01, "Layout" ("sorted ascending, equals in slot order") and "Forms of vbap.rs that need another": a stable insertion sort. Source lines 225 and 337: sort_by. Assumes nothing.
use Rattle.std.specs.Prelude.{cond}
use mathlib.Core.List.{List, [], ◌∷◌, foldl}
use Rattle.std.specs.Float.Ieee.{lt}
use Rattle.angle_sort.specs.declared.Spot.{Spot}

-- before the first spot whose angle is above its own
unfoldable pub insert_of : List Spot → Spot → List Spot
insert_of [] s = s ∷ []
insert_of (t ∷ l) s = let r = t ∷ insert_of l s in cond (lt s.angle t.angle) (s ∷ t ∷ l) r

-- ascending, equals in their order
unfoldable pub sorted_of : List Spot → List Spot
sorted_of l = foldl insert_of [] l
