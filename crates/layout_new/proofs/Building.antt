-- What `close` and `neighbours` answer, as the parts of the hull that the definition builds. Assumes nothing.
use Prim.Native.Nat.{ℕ, ◌-◌, ◌*◌, ◌≤◌, ◌<◌}
use mathlib.Core.Path.{◌≡◌, refl, sym, ap, ap₂, ◌∙◌}
use mathlib.Core.Bool.{true, false}
use mathlib.Core.List.{List, [], ◌∷◌, map, flat_map}
use native.Mathlib.Omega.{arith}
use borrow.Author.Tests.{ltb-true}
use lib.Dec.{ltb}
use lib.Ieee.{Float, nan}
use lib.ListN.{length, get_or, take}
use lib.Seq.{take_all}
use Rattle.lists.specs.Lists.{from, range, between, every, filled}
use Rattle.lists.proofs.Collect.{flat_map_map}
use Rattle.lists.proofs.Filled.{length_filled, take_filled}
use Rattle.lists.proofs.Tests.{every_at}
use Rattle.float_order.specs.Values.{+0}
use Rattle.float_widths.specs.Narrow.{narrow_of}
use Rattle.vector.specs.declared.Speaker.{Speaker}
use Rattle.vector.specs.Speakers.{slots_of, dirs_of}
use Rattle.vector.proofs.Speakers.{slots_count, dirs_count}
use Rattle.layout_hull.specs.Triplets.{Triplet, triplets_of}
use Rattle.layout_hull.specs.Inner.Flat.{numbers_of, entries_of, inverses_of, hull_of}
use Rattle.layout_closing.specs.Closing.{final_points, overfull}
use Rattle.layout_closing.specs.Inner.Flat.{ended_in}
use Rattle.layout_closing.specs.declared.Ended.{Ended}
use Rattle.layout_neighbours.specs.Neighbours.{neighbours_of}
use Rattle.layout_neighbours.specs.Inner.Flat.{triples_of, neighbours_in, Numbered}
use Rattle.layout_neighbours.specs.declared.ImagNbrs.{ImagNbrs}
use Rattle.layout_record.specs.Shape.{numbers, hull, imaginary_in}
use Rattle.layout_record.specs.Panner.{laid}
use Rattle.layout_record.specs.declared.VbapPanner.{VbapPanner}
use Rattle.layout_new.specs.Layout.{build_hull_of, NewAnswer}
use Rattle.layout_new.specs.Inner.Answers.{accepted, refused_by, hull_built_of}
use Rattle.layout_new.proofs.Fits.{imag_count}
use Rattle.layout_new.proofs.Hulls.{numbers_low, final_count, final_fits}
use Rattle.layout_new.proofs.Slots.{slots_of_lem}

-- ---- the hull of a closed layout

abbrev tris_of : List Speaker → List Triplet
tris_of act = triplets_of (final_points (dirs_of act))

-- what `close` answered where no list was too long
pub record Made (act : List Speaker) (r : Ended) : Type 0 where
  pub fits : overfull (dirs_of act) ≡ false
  pub imag : r.imag ≡ length (final_points (dirs_of act)) - length act
  pub few : length (tris_of act) ≤ 80
  pub count : r.hull.count ≡ length (tris_of act)
  pub idx : r.hull.idx ≡ filled 240 0 (flat_map numbers (tris_of act))
  pub inv : r.hull.inv ≡ flat_map (λ e. filled 80 +0 (map (λ t. get_or t.inv e nan) (tris_of act))) (range 9)

module _ (act : List Speaker) (r : Ended) (e : r ≡ ended_in (dirs_of act)) where
  pub over_is : r.over ≡ overfull (dirs_of act)
  unfolding ended_in
  over_is = ap (λ (c : Ended). c.over) e

  pub made : r.over ≡ false → Made act r
  unfolding ended_in hull_of numbers_of inverses_of entries_of
  made h =
      let fits : overfull (dirs_of act) ≡ false = sym over_is ∙ h in
      let few : length (tris_of act) ≤ 80 = final_fits (dirs_of act) fits in
      let all : take 80 (tris_of act) ≡ tris_of act = take_all 80 (tris_of act) few in
      record {
        fits = fits;
        imag = ap (λ (c : Ended). c.imag) e ∙ ap (λ (m : ℕ). length (final_points (dirs_of act)) - m) (dirs_count act);
        few = few;
        count = ap (λ (c : Ended). c.hull.count) e ∙ ap length all;
        idx = ap (λ (c : Ended). c.hull.idx) e ∙ ap (λ (l : List Triplet). filled 240 0 (flat_map numbers l)) all;
        inv = ap (λ (c : Ended). c.hull.inv) e
            ∙ ap (λ (l : List Triplet). flat_map (λ e. filled 80 +0 (map (λ t. get_or t.inv e nan) l)) (range 9)) all;
      }

-- ---- what `neighbours` asks and answers

length_numbers : (l : List Triplet) → length (flat_map numbers l) ≡ length l * 3
unfolding flat_map
length_numbers [] = refl
length_numbers (t ∷ l) = omega (arith, length_numbers l)

triples_numbers : (l : List Triplet) → triples_of (flat_map numbers l) ≡ map numbers l
unfolding triples_of flat_map
triples_numbers [] = refl
triples_numbers (t ∷ l) = ap (λ (m : List (List ℕ)). numbers t ∷ m) (triples_numbers l)

module _ (act : List Speaker) (r : Ended) (m : Made act r) where
  pub imag_few : r.imag ≤ 14
  imag_few = omega (arith, m.imag, (final_count (dirs_of act)).1, dirs_count act)

  pub numbers_long : (r.hull.count * 3 ≤ 240) × (length r.hull.idx ≡ 240)
  numbers_long =
      (omega (arith, m.few, m.count), ap length m.idx ∙ length_filled 240 0 (flat_map numbers (tris_of act)) (omega (arith, length_numbers (tris_of act), m.few)))

  -- the point numbers and the slots that it is lent
  pub numbers_lent : take (r.hull.count * 3) r.hull.idx ≡ flat_map numbers (tris_of act)
  numbers_lent =
      ap₂ take (ap (λ (k : ℕ). k * 3) m.count ∙ sym (length_numbers (tris_of act))) m.idx ∙ take_filled 240 0 (flat_map numbers (tris_of act))

  pub slots_lent : {out : List ℕ} → out ≡ filled 40 0 (slots_of act) → take (length act) out ≡ slots_of act
  slots_lent e = ap₂ take (sym (slots_count act)) e ∙ take_filled 40 0 (slots_of act)

  pub numbered : length act ≤ 40 → every (λ s. ltb s.slot 40) act ≡ true → Numbered (flat_map numbers (tris_of act)) (slots_of act) r.imag
  numbered few low =
      let pts = final_points (dirs_of act) in
      record {
        real = omega (arith, slots_count act);
        imaginary = imag_few;
        points = λ k g.
            let p : get_or (flat_map numbers (tris_of act)) k 0 < length pts =
            ltb-true _ _ (every_at (λ p. ltb p (length pts)) (flat_map numbers (tris_of act)) k 0 (numbers_low pts) g) in
            omega (arith, p, m.imag, (final_count (dirs_of act)).0, dirs_count act, slots_count act);
        low = λ k g. ltb-true _ _ (every_at (λ o. ltb o 40) (slots_of act) k 0 (slots_of_lem 40 act low) g);
      }

  -- the imaginary points' neighbours
  imag_are : map (neighbours_of (slots_of act) (triples_of (flat_map numbers (tris_of act)))) (from (length (slots_of act)) r.imag) ≡ (build_hull_of act).imag
  unfolding build_hull_of between
  imag_are =
      let first : length (slots_of act) ≡ length (dirs_of act) = slots_count act ∙ sym (dirs_count act) in
      let many : r.imag ≡ length (final_points (dirs_of act)) - length (dirs_of act) = omega (arith, m.imag, dirs_count act) in
      rw (triples_numbers (tris_of act), first, many) refl

  module _ (b : ImagNbrs) (e : b ≡ neighbours_in (slots_of act) (triples_of (flat_map numbers (tris_of act))) r.imag) where
    pub num_nbrs_are : b.num_nbrs ≡ filled 14 0 (map length (build_hull_of act).imag)
    unfolding neighbours_in
    num_nbrs_are = ap (λ (x : ImagNbrs). x.num_nbrs) e ∙ ap (λ (l : List (List ℕ)). filled 14 0 (map length l)) imag_are

    pub imag_nbrs_are : b.imag_nbrs ≡ flat_map (filled 40 0) (filled 14 [] (build_hull_of act).imag)
    unfolding neighbours_in
    imag_nbrs_are = ap (λ (x : ImagNbrs). x.imag_nbrs) e ∙ ap (λ (l : List (List ℕ)). flat_map (filled 40 0) (filled 14 [] l)) imag_are

  pub imag_length : r.imag ≡ length (build_hull_of act).imag
  imag_length = m.imag ∙ sym (imag_count act ∙ ap (λ (k : ℕ). length (final_points (dirs_of act)) - k) (dirs_count act))

-- ---- directions in 32 bits

abbrev pub narrowed_of : List Speaker → List Float
narrowed_of act = flat_map (λ s. map narrow_of s.dir) act

pub narrowed_are : (act : List Speaker) → narrowed_of act ≡ flat_map (λ d. d) (map (map narrow_of) (dirs_of act))
unfolding dirs_of
narrowed_are act = sym (flat_map_map (λ d. d) (map narrow_of) (dirs_of act) ∙ flat_map_map (map narrow_of) (λ s. s.dir) act)

-- ---- the answers

pub hull_refused : (n : ℕ) (act : List Speaker) → overfull (dirs_of act) ≡ true → refused_by 4 ≡ hull_built_of n act
unfolding hull_built_of
hull_refused n act e = rw e

pub hull_accepted : (n : ℕ) (act : List Speaker) {p : VbapPanner} {k : ℕ} → overfull (dirs_of act) ≡ false
    → p ≡ laid (record { outputs = n; shape = hull (build_hull_of act) }) → k ≡ length (build_hull_of act).imag
    → ◌≡◌ {A = NewAnswer} (record { number = 0; panner = p; imaginary = k }) (hull_built_of n act)
unfolding hull_built_of accepted imaginary_in
hull_accepted n act e p k = rw (e, p, k)
