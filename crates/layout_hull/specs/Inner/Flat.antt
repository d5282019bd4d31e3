-- Document 01, "What to write where" (triplet numbers and inverses as arrays by value) and "Returned numbers", 4 (a list of more than 80 entries); source lines 359 to 361: `tris` and `tiled`. Assumes nothing.
use Rattle.std.specs.Prelude.{ℕ, ltb, Float, length, take, get_or}
use mathlib.Core.List.{List, [], ◌∷◌, map, flat_map}
use Rattle.std.specs.Float.{nan}
use Rattle.lists.specs.Lists.{range, filled}
use Rattle.float_order.specs.Values.{+0}
use Rattle.vector.specs.Vector.{Points}
use Rattle.layout_hull.specs.Triplets.{Triplet, triplets_of, closed}
use Rattle.layout_hull.specs.declared.Hull.{Hull}

-- i, j, k of each triplet, one after another
unfoldable pub numbers_of : List Triplet → List ℕ
numbers_of l = flat_map (λ t. t.i ∷ t.j ∷ t.k ∷ []) l

-- entry e of each triplet's inverse, in 80 places. Origin of 80: document 01, refusal 4.
unfoldable pub entries_of : List Triplet → ℕ → List Float
entries_of l e = filled 80 +0 (map (λ t. get_or t.inv e nan) l)

-- entry by entry: entry e of triplet t stands at e * 80 + t
unfoldable pub inverses_of : List Triplet → List Float
inverses_of l = flat_map (entries_of l) (range 9)

-- the first 80 triplets laid flat, three point numbers each in 240 places, whether there are more, and whether they tile the sphere
unfoldable pub hull_of : Points → Hull
hull_of pts =
    let l = take 80 (triplets_of pts) in
    record {
      idx = filled 240 0 (numbers_of l);
      inv = inverses_of l;
      count = length l;
      over = ltb 80 (length (triplets_of pts));
      enclosed = closed pts;
    }
