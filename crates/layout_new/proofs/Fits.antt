-- An accepted layout is within what the record holds: kind by kind, from what is known of its slots, pairs, points, triplets and neighbours. Assumes nothing.
use Prim.Native.Nat.{ℕ, ◌-◌, ◌≤◌, ◌<◌}
use mathlib.Core.Path.{◌≡◌, refl, sym, ap, ap₂, ◌∙◌}
use mathlib.Core.Bool.{Bool, true, false, ◌&&◌, cond}
use mathlib.Core.List.{List, [], ◌∷◌, map, flat_map}
use native.Mathlib.Omega.{arith}
use borrow.Author.Tests.{ltb-true, lt-ltb, eqb-true, eq-eqb}
use lib.Dec.{eqb, ltb}
use lib.ListN.{length, length-map}
use Rattle.lists.specs.Lists.{every, between}
use Rattle.lists.proofs.Ranges.{length_between}
use Rattle.lists.proofs.Tests.{every_append, every_more, every_map}
use Rattle.float_widths.specs.Narrow.{narrow_of}
use Rattle.vector.specs.Vector.{Points}
use Rattle.vector.specs.declared.Speaker.{Speaker}
use Rattle.vector.specs.Speakers.{slots_of, dirs_of}
use Rattle.vector.proofs.Speakers.{slots_count, dirs_count}
use Rattle.layout_planar.specs.Planar.{pairs_of}
use Rattle.layout_hull.specs.Triplets.{triplets_of}
use Rattle.layout_closing.specs.Closing.{final_points, overfull}
use Rattle.layout_neighbours.specs.Neighbours.{neighbours_of}
use Rattle.layout_record.specs.Shape.{numbers, planar, hull}
use Rattle.layout_record.specs.Panner.{hull_in}
use Rattle.layout_record.specs.Malformed.{used_slots, used_points}
use Rattle.layout_record.specs.Meaning.{HullFits, LayoutFits, point_count}
use Rattle.layout_new.specs.Layout.{build_hull_of, level, shape_of, too_many_triplets}
use Rattle.layout_new.proofs.Hulls.{numbers_low, inverses_nine, final_count, final_fits, neighbours_fit, neighbours_all_low}
use Rattle.layout_new.proofs.Slots.{slots_of_lem, pairs_low}
use Rattle.layout_new.proofs.Speakers.{three, dirs_three, pairs_few}

-- ---- a hull

-- to narrow keeps the number of numbers
narrowed_three : (ds : Points) → every (λ d. eqb (length d) 3) ds ≡ true → every (λ d. eqb (length d) 3) (map (map narrow_of) ds) ≡ true
narrowed_three ds e = every_map (λ d. eqb (length d) 3) (map narrow_of) ds ∙ every_more (λ d p. eq-eqb _ 3 (length-map d narrow_of ∙ eqb-true (length d) 3 p)) ds e

pub imag_count : (act : List Speaker) → length (build_hull_of act).imag ≡ length (final_points (dirs_of act)) - length (dirs_of act)
unfolding build_hull_of
imag_count act =
    length-map (between (length (dirs_of act)) (length (final_points (dirs_of act)))) (neighbours_of (slots_of act) (map numbers (triplets_of (final_points (dirs_of act)))))
    ∙ length_between (length (dirs_of act)) (length (final_points (dirs_of act)))

module _ (n : ℕ) (act : List Speaker) (few : length act ≤ 40) (threes : every three act ≡ true) where
  hull_fits : every (λ s. ltb s.slot 40) act ≡ true → overfull (dirs_of act) ≡ false → HullFits (build_hull_of act)
  unfolding build_hull_of
  hull_fits low fits =
      record {
        out = omega (arith, slots_count act);
        dirs = length-map (dirs_of act) (map narrow_of) ∙ dirs_count act ∙ sym (slots_count act);
        three = narrowed_three (dirs_of act) (dirs_three act threes);
        tris = final_fits (dirs_of act) fits;
        nine = inverses_nine (final_points (dirs_of act));
        imag = omega (arith, imag_count act, (final_count (dirs_of act)).1);
        nbrs = neighbours_fit (slots_of act) _ (between (length (dirs_of act)) (length (final_points (dirs_of act)))) (slots_of_lem 40 act low);
      }

  hull_slots_lem : every (λ s. ltb s.slot n) act ≡ true → every (λ o. ltb o n) (used_slots (hull (build_hull_of act))) ≡ true
  unfolding used_slots build_hull_of
  hull_slots_lem low =
      every_append (λ o. ltb o n) (slots_of act) _
      ∙ ap₂ ◌&&◌ (slots_of_lem n act low) (neighbours_all_low n (slots_of act) _ (between (length (dirs_of act)) (length (final_points (dirs_of act)))) (slots_of_lem n act low))

  hull_points : every (λ p. ltb p (point_count (hull (build_hull_of act)))) (used_points (hull (build_hull_of act))) ≡ true
  unfolding used_points point_count hull_in build_hull_of
  hull_points =
      let c = final_count (dirs_of act) in
      let e : length (final_points (dirs_of act)) ≡ point_count (hull (build_hull_of act)) = omega (arith, slots_count act, dirs_count act, imag_count act, c.0) in
      ap (λ (m : ℕ). every (λ p. ltb p m) (flat_map numbers (triplets_of (final_points (dirs_of act))))) (sym e) ∙ numbers_low (final_points (dirs_of act))

-- ---- every kind

module _ (n : ℕ) (act : List Speaker) (room : n ≤ 40) (few : length act ≤ n) (threes : every three act ≡ true) (low : every (λ s. ltb s.slot n) act ≡ true) where
  pub low_40 : every (λ s. ltb s.slot 40) act ≡ true
  low_40 = every_more (λ s p. lt-ltb s.slot 40 (let q = ltb-true s.slot n p in omega arith)) act low

  planar_fits : 0 < n → LayoutFits (record { outputs = n; shape = planar (pairs_of act) (slots_of act) })
  unfolding used_slots used_points every
  planar_fits h =
      record {
        outputs = room;
        shape = (omega (arith, pairs_few act), omega (arith, slots_count act));
        slots = every_append (λ o. ltb o n) (flat_map (λ p. p.a ∷ p.b ∷ []) (pairs_of act)) (slots_of act) ∙ ap₂ ◌&&◌ (pairs_low n act low h) (slots_of_lem n act low);
        points = refl;
      }

  hull_layout_fits : overfull (dirs_of act) ≡ false → LayoutFits (record { outputs = n; shape = hull (build_hull_of act) })
  hull_layout_fits e =
      record {
        outputs = room;
        shape = hull_fits n act (omega arith) threes low_40 e;
        slots = hull_slots_lem n act (omega arith) threes low;
        points = hull_points n act (omega arith) threes;
      }

  -- told by whether all are level
  level_fits : (b : Bool) → 0 < n → cond b false (overfull (dirs_of act)) ≡ false
      → LayoutFits (record { outputs = n; shape = cond b (planar (pairs_of act) (slots_of act)) (hull (build_hull_of act)) })
  level_fits true h e = planar_fits h
  level_fits false h e = hull_layout_fits e

pub layout_fits : (n : ℕ) (act : List Speaker) → n ≤ 40 → length act ≤ n → every three act ≡ true → every (λ s. ltb s.slot n) act ≡ true
    → too_many_triplets act ≡ false → LayoutFits (record { outputs = n; shape = shape_of act })
unfolding shape_of too_many_triplets used_slots used_points every
layout_fits n [] room few threes low fits = record { outputs = room; shape = tt; slots = refl; points = refl }
layout_fits n (s ∷ []) room few threes low fits = record { outputs = room; shape = tt; slots = low; points = refl }
layout_fits n (s ∷ (t ∷ l)) room few threes low fits = level_fits n (s ∷ t ∷ l) room few threes low (every level (s ∷ t ∷ l)) (omega arith) fits
