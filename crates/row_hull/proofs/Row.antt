-- `hull_row` of a record is what the steps make, on its flat arrays: where no triplet is chosen the nearest point's slot, else the triplet's gains in their slots. Assumes nothing.
use Prim.Native.Nat.{ℕ, ◌≤◌, ◌<◌, min}
use mathlib.Core.Path.{◌≡◌, refl, sym, ap, ◌∙◌}
use mathlib.Core.Bool.{Bool, true, false, cond}
use Rattle.std.proofs.Common.{Option, None, Some}
use Rattle.std.specs.Option.{unwrap_or}
use mathlib.Core.List.{List, [], map, foldl}
use native.Mathlib.Omega.{arith}
use lib.Dec.{ltb}
use lib.ListN.{length, get_or, take, replicate, length-replicate}
use lib.Ieee.{Float, nan}
use Rattle.lists.specs.Lists.{range}
use Rattle.lists.proofs.Ranges.{length_map_range, get_d_map_range}
use Rattle.float_order.specs.Values.{+0}
use Rattle.vector.specs.Vector.{Vector, dir_vec_of}
use Rattle.layout_hull.specs.Triplets.{Triplet}
use Rattle.layout_record.specs.Shape.{HullShape}
use Rattle.layout_record.specs.declared.VbapPanner.{VbapPanner}
use Rattle.layout_record.specs.Panner.{triplet_at, neighbours_at, hull_in, shape_in}
use Rattle.row_greatest.specs.Greatest.{first_greatest}
use Rattle.vector.specs.Limits.{max_imaginary}
use Rattle.row_fill.specs.Inner.Filling.{to_real, to_imag, real_points, imag_points, shared_by, shared_at, shared_out, placed}
use Rattle.row_fill.proofs.Folds.{fold_alike}
use Rattle.row_hull.specs.HullRow.{aimed, nearest_row, Filling, give, filling, shared, scaled, triplet_row, row_by, hull_row}
use Rattle.row_hull.specs.Inner.Steps.{hull_shape, inverse_at, gain_at, gains_at, leasts_of, nearest_in}
use Rattle.row_hull.proofs.Choice.{chosen_at, chosen_yes, chosen_no, best_chosen, nearest_found}

-- ---- the gains of three points

-- in the slots of the real ones, and in the sums of the imaginary ones
abbrev pub real_row : List ℕ → List Float → Triplet → List Float → List Float
real_row o row t g = to_real o (to_real o (to_real o row t.i (get_or g 0 nan)) t.j (get_or g 1 nan)) t.k (get_or g 2 nan)

abbrev pub imag_sums : ℕ → Triplet → List Float → List Float
imag_sums m t g =
    to_imag m (to_imag m (to_imag m (replicate max_imaginary +0) t.i (get_or g 0 nan)) t.j (get_or g 1 nan)) t.k (get_or g 2 nan)

module _ (h : HullShape) where
  give_by : (q : Bool) (row row' imag imag' : List Float)
      → ◌≡◌ {A = Filling} (cond q (record { row = row'; imag = imag }) (record { row = row; imag = imag' })) (record { row = cond q row' row; imag = cond q imag imag' })
  give_by true row row' imag imag' = refl
  give_by false row row' imag imag' = refl

  give_told : (r : Filling) (p : ℕ) (g : Float)
      → give h r p g ≡ record { row = to_real h.out r.row p g; imag = to_imag (length h.out) r.imag p g }
  unfolding give to_real to_imag
  give_told r p g = give_by (ltb p (length h.out)) r.row _ r.imag _

  filling_told : (n : ℕ) (t : Triplet) (g : List Float) → filling n h t g ≡ record { row = real_row h.out (replicate n +0) t g; imag = imag_sums (length h.out) t g }
  unfolding filling
  filling_told n t g =
      ap (λ (r : Filling). give h (give h r t.j (get_or g 1 nan)) t.k (get_or g 2 nan)) (give_told _ t.i (get_or g 0 nan))
      ∙ ap (λ (r : Filling). give h r t.k (get_or g 2 nan)) (give_told _ t.j (get_or g 1 nan))
      ∙ give_told _ t.k (get_or g 2 nan)

-- ---- a record's hull

module _ (v : VbapPanner) where
  shared_here : (imag row : List Float) (k : ℕ) → k < v.num_imag → shared (hull_shape v) imag row k ≡ shared_at v.num_nbrs v.imag_nbrs imag row k
  unfolding hull_in shape_in shared shared_at shared_by neighbours_at
  shared_here imag row k h =
      ap (λ (ns : List ℕ). shared_by ns (get_or imag k nan) row) (get_d_map_range (neighbours_at v) v.num_imag k [] h)

  shared_told : (imag row : List Float) → v.num_imag ≤ 14
      → foldl (shared (hull_shape v) imag) row (range (min (length (hull_shape v).imag) max_imaginary)) ≡ shared_out v.num_nbrs v.imag_nbrs imag v.num_imag row
  unfolding hull_in shape_in shared_out
  shared_told imag row h =
      let m = v.num_imag in
      let e : min (length (map (neighbours_at v) (range m))) 14 ≡ m = omega (arith, length_map_range (neighbours_at v) m) in
      rw e (fold_alike (shared (hull_shape v) imag) (shared_at v.num_nbrs v.imag_nbrs imag) row m (λ r k. shared_here imag r k) m (omega arith))

  module _ (n : ℕ) (az el : Float) where
    abbrev dir : Vector
    dir = dir_vec_of az el

    -- the place of the chosen triplet
    abbrev pub chosen_place : ℕ
    chosen_place = first_greatest v.num_tris (leasts_of dir v.inv v.num_tris)

    row_of : hull_row n az el (hull_shape v) ≡ row_by n dir (hull_shape v) (chosen_at dir v v.num_tris chosen_place)
    unfolding hull_row hull_in shape_in
    row_of = ap (row_by n dir (hull_shape v)) (best_chosen dir v v.num_tris)

    pub row_nearest : v.num_tris ≤ chosen_place
        → nearest_in dir v.pt_out v.pt_dir v.num_real (replicate n +0) ≡ hull_row n az el (hull_shape v)
    unfolding nearest_in nearest_row hull_in shape_in
    row_nearest h =
        sym
        (row_of ∙ ap (row_by n dir (hull_shape v)) (chosen_no dir v v.num_tris chosen_place h)
        ∙ rw (nearest_found dir v.pt_dir v.num_real, length-replicate n +0) refl)

    -- of a triplet with its gains
    by_triplet : (t : Triplet) (g : List Float) → v.num_imag ≤ 14
        → triplet_row n (hull_shape v) t g
        ≡ scaled
        (shared_out v.num_nbrs v.imag_nbrs (imag_sums (length (take v.num_real v.pt_out)) t g) v.num_imag
        (real_row (take v.num_real v.pt_out) (replicate n +0) t g))
    unfolding triplet_row hull_in shape_in
    by_triplet t g hi =
        let o = take v.num_real v.pt_out in
        ap (λ (f : Filling). scaled (foldl (shared (hull_shape v) f.imag) f.row (range (min (length (hull_shape v).imag) max_imaginary)))) (filling_told (hull_shape v) n t g)
        ∙ ap scaled (shared_told (imag_sums (length o) t g) (real_row o (replicate n +0) t g) hi)

    pub row_triplet : chosen_place < v.num_tris → v.num_imag ≤ 14
        → scaled (placed (take v.num_real v.pt_out) v chosen_place (gains_at dir v.inv chosen_place) n)
        ≡ hull_row n az el (hull_shape v)
    unfolding aimed gain_at inverse_at triplet_at placed imag_points real_points
    row_triplet h hi =
        sym
        (row_of ∙ ap (row_by n dir (hull_shape v)) (chosen_yes dir v v.num_tris chosen_place h)
        ∙ by_triplet (triplet_at v chosen_place) (gains_at dir v.inv chosen_place) hi)

    -- the same, step after step, by what was chosen in that direction
    module _ (d : Vector) (ed : d ≡ dir) (r : Option ℕ) (is : (none : ℕ) → unwrap_or r none ≡ first_greatest none (leasts_of d v.inv v.num_tris)) where
      place : unwrap_or r v.num_tris ≡ chosen_place
      place = is v.num_tris ∙ ap (λ (s : Vector). first_greatest v.num_tris (leasts_of s v.inv v.num_tris)) ed

      pub nearest_made : (row : List Float) → r ≡ None → row ≡ nearest_in d v.pt_out v.pt_dir v.num_real (replicate n +0) → row ≡ hull_row n az el (hull_shape v)
      nearest_made row e made =
          let k : v.num_tris ≡ chosen_place = ap (λ (o : Option ℕ). unwrap_or o v.num_tris) (sym e) ∙ place in
          let h : v.num_tris ≤ chosen_place = omega arith in
          cc (row_nearest h)

      pub triplet_made : (t : ℕ) (g q row : List Float) → r ≡ Some t → t < v.num_tris → v.num_imag ≤ 14 → g ≡ gains_at d v.inv t → q ≡ placed (take v.num_real v.pt_out) v t g n → row ≡ scaled q
          → row ≡ hull_row n az el (hull_shape v)
      triplet_made t g q row e h hi eg eq er =
          let k : t ≡ chosen_place = ap (λ (o : Option ℕ). unwrap_or o v.num_tris) (sym e) ∙ place in
          let h' : chosen_place < v.num_tris = omega arith in
          cc (row_triplet h' hi)
