-- The ring in its array: the sorted front is the ring. Assumes nothing.
use Rattle.std.proofs.Common.{◌≡◌, true, List, ◌++◌, map, length, take, sym, ap, ◌∙◌}
use lib.ListN.{length-map}
use lib.Seq.{take_at}
use Rattle.lists.specs.Lists.{every}
use Rattle.vector.specs.declared.Speaker.{Speaker}
use Rattle.angle_sort.specs.declared.Spot.{Spot}
use Rattle.angle_sort.specs.Order.{sorted_of}
use Rattle.angle_sort.proofs.Insertion.{every_sorted, length_sorted}
use Rattle.layout_planar.specs.Planar.{spot_of, ring}
use Rattle.layout_planar.specs.Inner.Arrays.{slot_fits}

module _ (act : List Speaker) where
  pub length_ring : length (ring act) ≡ length act
  unfolding ring
  length_ring = length_sorted (map spot_of act) ∙ length-map act spot_of

  -- sorted in the array's first places
  module _ {l s : List Spot} (e : l ≡ map spot_of act) (h : s ≡ sorted_of l) (r : List Spot) where
    pub ring_front : take (length act) (s ++ r) ≡ ring act
    unfolding ring
    ring_front = let g : s ≡ ring act = h ∙ ap sorted_of e in take_at s r (length act) (ap length g ∙ length_ring) ∙ g

    pub ring_slots : every slot_fits l ≡ true → every slot_fits (take (length act) (s ++ r)) ≡ true
    unfolding ring
    ring_slots f = ap (every slot_fits) ring_front ∙ ap (λ (m : List Spot). every slot_fits (sorted_of m)) (sym e) ∙ every_sorted slot_fits l ∙ f
