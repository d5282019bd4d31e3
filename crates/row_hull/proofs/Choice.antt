-- The triplet that `best_of` chooses and the point that `nearest_point` finds stand at the places that `first_greatest` names among the numbers of the flat arrays. Assumes nothing.
use Prim.Native.Nat.{ℕ, ◌≤◌, ◌<◌}
use mathlib.Core.Path.{◌≡◌, ap, ap₂}
use mathlib.Core.List.{List, map, map-map}
use mathlib.Core.Option.{Option, none, some}
use native.Mathlib.Omega.{arith}
use lib.ListN.{length, get_or, get_or-eq_default}
use lib.Ieee.{Float, binary32}
use Rattle.lists.specs.Lists.{range, part}
use Rattle.lists.proofs.Ranges.{length_map_range, get_d_map_range}
use Rattle.vector.specs.Vector.{Vector, dot_in}
use Rattle.layout_record.specs.declared.VbapPanner.{VbapPanner}
use Rattle.layout_record.specs.Panner.{triplet_at}
use Rattle.row_greatest.specs.Greatest.{first_greatest}
use Rattle.row_hull.specs.HullRow.{Aimed, aimed, least_gain, best_of, nearest_point}
use Rattle.row_hull.specs.Inner.Steps.{inverse_at, gain_at, least_at, leasts_of, products_of}

-- ---- the chosen triplet

module _ (s : Vector) (v : VbapPanner) (n : ℕ) where
  -- what a place stands for
  pub chosen_at : ℕ → Option Aimed
  chosen_at k = get_or (map (λ t. some (aimed s (triplet_at v t))) (range n)) k none

  pub chosen_yes : (k : ℕ) → k < n → chosen_at k ≡ some (aimed s (triplet_at v k))
  unfolding chosen_at
  chosen_yes k h = get_d_map_range (λ t. some (aimed s (triplet_at v t))) n k none h

  pub chosen_no : (k : ℕ) → n ≤ k → chosen_at k ≡ none
  unfolding chosen_at
  chosen_no k h =
      let l = map (λ t. some (aimed s (triplet_at v t))) (range n) in
      let p : length l ≤ k = omega (arith, length_map_range (λ t. some (aimed s (triplet_at v t))) n) in
      get_or-eq_default l none {n = k} p

  leasts_told : map (least_gain s) (map (triplet_at v) (range n)) ≡ leasts_of s v.inv n
  unfolding leasts_of least_at gain_at inverse_at aimed triplet_at
  leasts_told = map-map (least_gain s) (triplet_at v) (range n)

  pub best_chosen : best_of s (map (triplet_at v) (range n)) ≡ chosen_at (first_greatest n (leasts_of s v.inv n))
  unfolding best_of chosen_at
  best_chosen =
      ap₂ (λ (l : List (Option Aimed)) (k : ℕ). get_or l k none)
      (map-map (λ t. some (aimed s t)) (triplet_at v) (range n))
      (ap₂ first_greatest (length_map_range (triplet_at v) n) leasts_told)

-- ---- the nearest point

pub nearest_found : (s : Vector) (dirs : List Float) (n : ℕ) → nearest_point s (map (part 3 dirs) (range n)) ≡ first_greatest 0 (products_of s dirs n)
unfolding nearest_point products_of
nearest_found s dirs n = ap (first_greatest 0) (map-map (λ p. dot_in binary32 p s) (part 3 dirs) (range n))
