-- A row is written at slots of the layout only: what zeros have, and a store at such a slot and the scaling keep, every row has. Assumes nothing.
use Prim.Native.Nat.{ℕ, ◌-◌, ◌<◌, min}
use mathlib.Core.Bool.{Bool, true, false, ◌&&◌, not, cond}
use mathlib.Core.List.{List, [], ◌∷◌, flat_map, foldl}
use mathlib.Core.Option.{Option, none, some}
use lib.Dec.{T, ltb, ltb→lt}
use lib.ListN.{length, get_or, set, replicate}
use lib.Ieee.{Float, nan, binary32, add, div, lt}
use Rattle.lists.specs.Lists.{range, is_empty, Each}
use Rattle.float_order.specs.Values.{+0, 1·0, count32}
use Rattle.float_order.specs.Order.{max_of, square_of}
use Rattle.float_root.specs.Root.{sqrt_of}
use Rattle.vector.specs.Vector.{dir_vec_of}
use Rattle.layout_planar.specs.declared.PlanarPair.{PlanarPair}
use Rattle.layout_hull.specs.Triplets.{Triplet}
use Rattle.layout_record.specs.Shape.{HullShape, Shape, silent, mono, planar, hull}
use Rattle.layout_record.specs.Malformed.{used_slots}
use Rattle.row_places.specs.Places.{add_at}
use Rattle.row_planar.specs.PlanarRow.{least_pair_norm, Two, by_law, chosen, planar_spread, spread_gain, spread_at, spread, pair_row, planar_row}
use Rattle.vector.specs.Limits.{max_imaginary}
use Rattle.row_hull.specs.HullRow.{Aimed, best_of, nearest_point, nearest_row, Filling, give, filling, shared, scaled, triplet_row, row_by, hull_row}
use Rattle.row_gains.specs.Gains.{row_in}
use Rattle.lists.proofs.Each.{each_left, each_right, each_unflat, each_get_d, each_or, foldl_keeps, foldl_always}
use Rattle.theorem_rows.proofs.PlanarRows.{chosen_each}

-- what every value has that a row is made of: 1, or a rounded sum, quotient or root
pub record Made (W : Float → Type 0) : Type 0 where
  pub one : W 1·0
  pub sum : (x y : Float) → W (add binary32 x y)
  pub quotient : (x y : Float) → W (div binary32 x y)
  pub root : (x y : Float) → W (sqrt_of binary32 (add binary32 x y))

pub anything : Made (λ _. Unit)
anything = record { one = tt; sum = λ x y. tt; quotient = λ x y. tt; root = λ x y. tt }

-- Q of a row, U of a slot, W of a value
module _ (Q : List Float → Type 0) (U : ℕ → Type 0) (W : Float → Type 0) (made : Made W) (put : (row : List Float) (i : ℕ) (v : Float) → U i → W v → Q row → Q (set row i v)) (times : (row : List Float) → Q row → Q (scaled row)) where
  added : (row : List Float) (i : ℕ) (v : Float) → U i → Q row → Q (add_at row i v)
  unfolding add_at
  added row i v u q = put row i (add binary32 (get_or row i nan) v) u (made.sum (get_or row i nan) v) q

  either : (b : Bool) (r s : List Float) → Q r → Q s → Q (cond b r s)
  either true r s h k = h
  either false r s h k = k

  -- ---- planar

  spread_kept : (w : Float) (slots : List ℕ) (row : List Float) → Each U slots → Q row → Q (spread w slots row)
  unfolding spread
  spread_kept w slots row u q =
      let d2 = div binary32 w (count32 (length slots)) in
      either (lt +0 w && not (is_empty slots)) (foldl (spread_at w d2) row slots) row (foldl_keeps Q U (spread_at w d2) (λ r s h k. unfold spread_at spread_gain in put r s _ h (made.root _ _) k) slots u row q) q

  pair_kept : (n : ℕ) (el : Float) (p : PlanarPair) (g : Two) (slots : List ℕ) → U p.a → U p.b → Each U slots → Q (replicate n +0) → Q (pair_row n el p g slots)
  unfolding pair_row
  pair_kept n el p g slots a b u z =
      let norm = sqrt_of binary32 (add binary32 (square_of g.ga) (square_of g.gb)) in
      let first = set (replicate n +0) p.a (div binary32 g.ga norm) in
      let row = add_at first p.b (div binary32 g.gb norm) in
      either (lt least_pair_norm norm) (spread (planar_spread el) slots row) (replicate n +0)
      (spread_kept (planar_spread el) slots row u (added first p.b (div binary32 g.gb norm) b (put (replicate n +0) p.a (div binary32 g.ga norm) a (made.quotient g.ga norm) z))) z

  planar_kept : (n : ℕ) (az el : Float) (pairs : List PlanarPair) (slots : List ℕ) → Each (λ p. Each U (p.a ∷ p.b ∷ [])) pairs → Each U slots → Q (replicate n +0) → Q (planar_row n az el pairs slots)
  unfolding planar_row is_empty
  planar_kept n az el [] slots e u z = z
  planar_kept n az el (q ∷ l) slots e u z =
      let p = chosen az (q ∷ l) in
      let k = chosen_each (λ p. Each U (p.a ∷ p.b ∷ [])) az q l e in
      pair_kept n el p (by_law az p p.law) slots k.0 k.1.0 u z

  -- ---- hull

  module _ (h : HullShape) (real : Each U h.out) (nbrs : Each (Each U) h.imag) where
    give_kept : (r : Filling) (p : ℕ) (g : Float) → Q r.row → Q (give h r p g).row
    unfolding give
    give_kept r p g q = by (ltb p (length h.out)) (ltb→lt p (length h.out))
      where
        by : (b : Bool) → (T b → p < length h.out)
            → Q (cond {A = Filling} b (record { row = add_at r.row (get_or h.out p 0) (max_of g +0); imag = r.imag }) (record { row = r.row; imag = add_at r.imag (min (p - length h.out) (max_imaginary - 1)) (max_of g +0) })).row
        by true k = added r.row (get_or h.out p 0) (max_of g +0) (each_get_d U h.out p 0 (k tt) real) q
        by false k = q

    filling_kept : (n : ℕ) (t : Triplet) (g : List Float) → Q (replicate n +0) → Q (filling n h t g).row
    unfolding filling
    filling_kept n t g z = give_kept _ t.k (get_or g 2 nan) (give_kept _ t.j (get_or g 1 nan) (give_kept _ t.i (get_or g 0 nan) z))

    shared_kept : (imag row : List Float) (k : ℕ) → Q row → Q (shared h imag row k)
    unfolding shared
    shared_kept imag row k q =
        let ns = get_or h.imag k [] in
        let g = get_or imag k nan in
        let w = div binary32 g (sqrt_of binary32 (count32 (length ns))) in
        either (lt +0 g && not (is_empty ns)) (foldl (λ r o. add_at r o w) row ns) row
        (foldl_keeps Q U (λ r o. add_at r o w) (λ r o u m. added r o w u m) ns (each_or (Each U) h.imag k [] nbrs tt) row q) q

    hull_kept : (n : ℕ) (az el : Float) → U n → Q (replicate n +0) → Q (hull_row n az el h)
    unfolding hull_row nearest_row triplet_row
    hull_kept n az el u z = by (best_of (dir_vec_of az el) h.tris)
      where
        by : (o : Option Aimed) → Q (row_by n (dir_vec_of az el) h o)
        by none = put (replicate n +0) (get_or h.out (nearest_point (dir_vec_of az el) h.dirs) n) 1·0 (each_or U h.out (nearest_point (dir_vec_of az el) h.dirs) n real u) made.one z
        by (some m) =
            let f = filling n h m.triplet m.gains in
            let ks = range (min (length h.imag) max_imaginary) in
            times (foldl (shared h f.imag) f.row ks) (foldl_always Q (shared h f.imag) (λ row k q. shared_kept f.imag row k q) ks f.row (filling_kept n m.triplet m.gains z))

  -- ---- by the kind; n, where the hull's nearest point has no slot, is none of the places

  pub row_kept : (n : ℕ) (az el : Float) (s : Shape) → Each U (used_slots s) → U n → Q (replicate n +0) → Q (row_in n az el s)
  unfolding row_in used_slots
  row_kept n az el silent e u z = z
  row_kept n az el (mono i) e u z = put (replicate n +0) i 1·0 e.0 made.one z
  row_kept n az el (planar ps ss) e u z =
      let pairs = flat_map (λ p. p.a ∷ p.b ∷ []) ps in
      planar_kept n az el ps ss (each_unflat U (λ p. p.a ∷ p.b ∷ []) ps (each_left U pairs ss e)) (each_right U pairs ss e) z
  row_kept n az el (hull h) e u z =
      let ns = flat_map (λ ns. ns) h.imag in
      hull_kept h (each_left U h.out ns e) (each_unflat U (λ ns. ns) h.imag (each_right U h.out ns e)) n az el u z
