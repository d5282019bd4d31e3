-- What the functions of src/lib.rt answer on the way to the definitions of `Triplets` and `Flat`. Assumes nothing.
use Rattle.std.specs.Prelude.{ℕ, ◌+◌, ◌*◌, true, ◌&&◌, not, cond, eqb, ltb, get_or, set, Float}
use mathlib.Core.List.{List, [], ◌∷◌, foldl}
use Rattle.std.proofs.lemmas.List.Edits.{sets}
use Rattle.std.specs.Float.{nan, binary64}
use Rattle.std.specs.Float.Ieee.{div}
use Rattle.lists.specs.Lists.{range}
use Rattle.float_widths.specs.Narrow.{narrow_of}
use Rattle.vector.specs.Vector.{Vector, x, y, z}
use Rattle.layout_hull.specs.declared.Hull.{Hull}

unfoldable pub row_of : Vector → Float → List Float
row_of r det = narrow_of (div binary64 (x r) det) ∷ narrow_of (div binary64 (y r) det) ∷ narrow_of (div binary64 (z r) det) ∷ []

-- the first n entries of m stored for triplet t
unfoldable pub inverses_with : List Float → ℕ → List Float → ℕ → List Float
inverses_with inv t m n = foldl (λ a e. set a (e * 80 + t) (get_or m e nan)) inv (range n)

-- the hull with one triplet more, up to 80
unfoldable pub put_of : Hull → ℕ → ℕ → ℕ → List Float → Hull
put_of h i j k m =
    cond (ltb h.count 80)
    (record {
      idx = sets h.idx (h.count * 3) (i ∷ j ∷ k ∷ []);
      inv = inverses_with h.inv h.count m 9;
      count = h.count + 1;
      over = h.over;
      enclosed = h.enclosed;
    })
    (record { idx = h.idx; inv = h.inv; count = h.count; over = true; enclosed = h.enclosed })

unfoldable pub tiled_of : Hull → Hull
tiled_of h = record { idx = h.idx; inv = h.inv; count = h.count; over = h.over; enclosed = h.enclosed && not (eqb h.count 0) }
