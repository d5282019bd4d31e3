-- Document 01, "A row" (Hull); source lines 513 to 581 (the hull branch of gains). P's gains are the direction times the inverse of the speakers' matrix.
-- A row is a gain for each of n places, n = min(outputs, buffer length). `set` beyond the end of a list changes nothing: the source's `if slot < n`.
-- Where a gain is a NaN, which only a layout made by hand has (crate theorem_rows), its sign and payload are the program's: every choice is a NaN, the only one that the logic has. Assumes nothing.
use Rattle.std.specs.Prelude.{ℕ, ◌-◌, min, ◌&&◌, not, cond, ltb, length, get_or, set, replicate, Float}
use mathlib.Core.List.{List, [], ◌∷◌, map, foldl}
use Rattle.std.proofs.Math.Option.{Option, none, some}
use Rattle.std.specs.Float.{nan, binary32}
use Rattle.std.specs.Float.Ieee.{add, mul, div, lt, of_bits}
use Rattle.lists.specs.Lists.{range, is_empty, part}
use Rattle.float_order.specs.Values.{+0, 1·0, count32}
use Rattle.float_order.specs.Order.{max_of, min_of, square_of}
use Rattle.float_root.specs.Root.{sqrt_of}
use Rattle.vector.specs.Vector.{Vector, Points, dot_in, dir_vec_of}
use Rattle.layout_hull.specs.Triplets.{Triplet}
use Rattle.layout_record.specs.Shape.{HullShape}
use Rattle.row_places.specs.Places.{add_at}
use Rattle.row_greatest.specs.Greatest.{first_greatest}
use Rattle.vector.specs.Limits.{max_imaginary}

-- ---- hull: the triplet whose smallest gain is greatest, the earlier of equals

-- a triplet with its three gains, and the smallest of them
pub record Aimed : Type 0 where
  pub triplet : Triplet
  pub gains : List Float
  pub least : Float

-- the direction times the inverse
unfoldable pub aimed : Vector → Triplet → Aimed
aimed s t =
    let g0 = dot_in binary32 (part 3 t.inv 0) s in
    let g1 = dot_in binary32 (part 3 t.inv 1) s in
    let g2 = dot_in binary32 (part 3 t.inv 2) s in
    record { triplet = t; gains = g0 ∷ g1 ∷ g2 ∷ []; least = min_of (min_of g0 g1) g2 }

abbrev pub least_gain : Vector → Triplet → Float
least_gain s t = (aimed s t).least

-- none where no smallest gain is above −∞. Origin of −∞: vbap.rs line 518.
unfoldable pub best_of : Vector → List Triplet → Option Aimed
best_of s tris = get_or (map (λ t. some (aimed s t)) tris) (first_greatest (length tris) (map (least_gain s) tris)) none

-- no triplet: the nearest speaker, the earlier of equals, the first where no product is above −∞. Origin of −∞: vbap.rs line 535.
unfoldable pub nearest_point : Vector → Points → ℕ
nearest_point s dirs = first_greatest 0 (map (λ p. dot_in binary32 p s) dirs)

-- 1 in its slot; where there is no point at all its slot is none of the n
unfoldable pub nearest_row : ℕ → Vector → HullShape → List Float
nearest_row n s h = set (replicate n +0) (get_or h.out (nearest_point s h.dirs) n) 1·0

-- a triplet's gains, nothing below +0: a real point's to its slot, an imaginary one's gathered
pub record Filling : Type 0 where
  pub row : List Float
  pub imag : List Float

unfoldable pub give : HullShape → Filling → ℕ → Float → Filling
give h r p g =
    let gv = max_of g +0 in
    let nreal = length h.out in
    cond (ltb p nreal)
    (record { row = add_at r.row (get_or h.out p 0) gv; imag = r.imag })
    (record { row = r.row; imag = add_at r.imag (min (p - nreal) (max_imaginary - 1)) gv })

unfoldable pub filling : ℕ → HullShape → Triplet → List Float → Filling
filling n h t g =
    let none_yet : Filling = record { row = replicate n +0; imag = replicate max_imaginary +0 } in
    give h (give h (give h none_yet t.i (get_or g 0 nan)) t.j (get_or g 1 nan)) t.k (get_or g 2 nan)

-- imaginary gain ÷ √neighbours to each neighbour
unfoldable pub shared : HullShape → List Float → List Float → ℕ → List Float
shared h imag row k =
    let nbrs = get_or h.imag k [] in
    let g = get_or imag k nan in
    let w = div binary32 g (sqrt_of binary32 (count32 (length nbrs))) in
    cond (lt +0 g && not (is_empty nbrs)) (foldl (λ r o. add_at r o w) row nbrs) row

-- LEAST_ROW_POWER, 1e-12. Origin: vbap.rs line 574; the power of a row has to be above it: else the row is left as it is, and nothing is divided by its root.
abbrev pub least_row_power : Float
least_row_power = of_bits binary32 0x2b8c_bccc

-- to power 1, over the filled slots only
unfoldable pub scaled : List Float → List Float
scaled row =
    let pow = foldl (λ p g. add binary32 p (square_of g)) +0 row in
    let inv = div binary32 1·0 (sqrt_of binary32 pow) in
    cond (lt least_row_power pow) (map (λ g. mul binary32 g inv) row) row

unfoldable pub triplet_row : ℕ → HullShape → Triplet → List Float → List Float
triplet_row n h t g =
    let f = filling n h t g in
    scaled (foldl (shared h f.imag) f.row (range (min (length h.imag) max_imaginary)))

abbrev pub row_by : ℕ → Vector → HullShape → Option Aimed → List Float
row_by n s h none = nearest_row n s h
row_by n s h (some b) = triplet_row n h b.triplet b.gains

unfoldable pub hull_row : ℕ → Float → Float → HullShape → List Float
hull_row n az el h = let s = dir_vec_of az el in row_by n s h (best_of s h.tris)
