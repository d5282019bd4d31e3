-- The pairs in their array: one turn of the loop looks at one spot more, and stores a pair or none. Assumes nothing.
use Rattle.std.proofs.Common.{◌≡◌, ℕ, ◌+◌, ◌%◌, ◌<◌, true, List, length, set, replicate, refl, ap, ◌∙◌, mod-lt, arith, None, Some}
use mathlib.Core.Option.{Option, none, some}
use lib.Ieee.{nan}
use Rattle.lists.specs.Lists.{collect, every, range}
use Rattle.lists.proofs.Collect.{collect_some, collect_none}
use Rattle.lists.proofs.Filled.{Gathered, gathered_none, gathered_same, gathered_more}
use Rattle.lists.proofs.Ranges.{range_none, range_snoc}
use Rattle.lists.proofs.Tests.{every_at}
use Rattle.vector.specs.declared.Speaker.{Speaker}
use Rattle.angle_sort.specs.declared.Spot.{Spot}
use Rattle.layout_planar.specs.declared.PlanarPair.{PlanarPair}
use Rattle.layout_planar.specs.declared.Planar.{Planar}
use Rattle.layout_planar.specs.Planar.{gap_at, pair_of, pair_at, pairs_of, ring, no_pair, spot_at}
use Rattle.layout_planar.specs.Inner.Arrays.{slot_fits, told_of, planar_in}

-- ---- two neighbours in the array

pub next_below : (m i : ℕ) → i < m → (i + 1) % m < m
next_below m i h = mod-lt (i + 1) (omega arith)

module _ (l : List Spot) where
  -- a spot's slot
  pub slot_here : (k : ℕ) → k < length l → every slot_fits l ≡ true → slot_fits (spot_at l k) ≡ true
  slot_here k h e = every_at slot_fits l k (record { angle = nan; number = 0 }) e h

  pub pair_here : (m i : ℕ) → length l ≡ m → let s = spot_at l i in let t = spot_at l ((i + 1) % m) in pair_of (gap_at m i s.angle t.angle) s t ≡ pair_at l i
  unfolding pair_at
  pair_here m i e = rw (← e) refl

-- ---- the loop over the ring

told_none : (o : Option PlanarPair) → told_of o ≡ None → o ≡ none
unfolding told_of
told_none none e = refl
told_none (some p) e = cc

told_some : (o : Option PlanarPair) (p : PlanarPair) → told_of o ≡ Some p → o ≡ some p
unfolding told_of
told_some none p e = cc
told_some (some q) p e = cc

module _ (l : List Spot) where
  -- the pairs from the first i spots
  abbrev pub pairs_from : ℕ → List PlanarPair
  pairs_from i = collect (pair_at l) (range i)

  pub pairs_none : Gathered 40 no_pair (pairs_from 0) (replicate 40 no_pair) 0
  unfolding collect
  pairs_none = gathered_same 40 no_pair (ap (collect (pair_at l)) range_none) (gathered_none 40 no_pair)

  module _ (i : ℕ) {a : List PlanarPair} {count : ℕ} (g : Gathered 40 no_pair (pairs_from i) a count) where
    pub pairs_skip : told_of (pair_at l i) ≡ None → Gathered 40 no_pair (pairs_from (i + 1)) a count
    pairs_skip e =
        gathered_same 40 no_pair
        (ap (collect (pair_at l)) (range_snoc i) ∙ collect_none (pair_at l) (range i) i (told_none (pair_at l i) e)) g

    pub pairs_more : (p : PlanarPair) → told_of (pair_at l i) ≡ Some p → count < 40 → Gathered 40 no_pair (pairs_from (i + 1)) (set a count p) (count + 1)
    pairs_more p e h =
        gathered_same 40 no_pair
        (ap (collect (pair_at l)) (range_snoc i) ∙ collect_some (pair_at l) (range i) i p (told_some (pair_at l i) p e))
        (gathered_more 40 no_pair p h g)

pub pairs_done : (act : List Speaker) {a : List PlanarPair} {count : ℕ} → Gathered 40 no_pair (pairs_from (ring act) (length act)) a count → ◌≡◌ {A = Planar} (record { pairs = a; num_pairs = count }) (planar_in act)
unfolding planar_in pairs_of
pairs_done act g = rw (g.holds, g.counts) refl
