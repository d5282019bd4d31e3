-- Slots: those of active speakers ascend and are below the outputs, and so are those of the pairs that they make. Assumes nothing.
use Prim.Native.Nat.{ℕ, zero, suc, ◌+◌, ◌≤◌, ◌<◌, ◌%◌}
use mathlib.Core.Path.{◌≡◌, refl, sym, ap, ◌∙◌}
use mathlib.Core.Bool.{Bool, true, false, ◌&&◌}
use mathlib.Core.List.{List, [], ◌∷◌, ◌++◌, map, flat_map, append-nil}
use mathlib.Core.Option.{Option, none, some}
use native.Mathlib.Numerals.{add-one}
use native.Mathlib.Nat.{not-suc-le-zero}
use native.Mathlib.Omega.{arith}
use borrow.Author.Tests.{ltb-true, ltb-false, lt-ltb}
use lib.Dec.{ltb}
use lib.Ieee.{Float, nan, lt}
use lib.ListN.{length, get_or, length-append, get_or-append}
use lib.Seq.{get_or-append_seam}
use Rattle.lists.specs.Lists.{range, collect, joined, every}
use Rattle.lists.proofs.Collect.{length_collect, map_snoc}
use Rattle.lists.proofs.Ranges.{range_none, length_range}
use Rattle.lists.proofs.Tests.{every_append, every_at, every_get_d, every_map}
use Rattle.vector.specs.declared.Speaker.{Speaker}
use Rattle.vector.specs.Speakers.{slots_of}
use Rattle.vector.proofs.Speakers.{slots_count}
use Rattle.angle_sort.specs.declared.Spot.{Spot}
use Rattle.angle_sort.proofs.Insertion.{every_sorted}
use Rattle.layout_planar.specs.declared.PlanarPair.{PlanarPair}
use Rattle.layout_planar.specs.Planar.{coincident, spot_of, ring, spot_at, pair_of, pair_at, pairs_of}
use Rattle.layout_new.specs.Layout.{outputs_of, speaker_at, active}
use Rattle.layout_new.specs.Meaning.{Ascending}
use Rattle.layout_new.proofs.Hulls.{every_flat_map}
use Rattle.layout_new.proofs.Speakers.{collect_range, picked, active_slot, active_three, three, every_collect}

-- ---- a collection over places

-- what every result at a place below n passes, the collection passes
pub every_range : {B : Type 0} (f : ℕ → Option B) (g : B → Bool) (n : ℕ) → ((i : ℕ) → i < n → (b : B) → f i ≡ some b → g b ≡ true)
    → every g (collect f (range n)) ≡ true
unfolding every collect
every_range f g zero h = ap (λ (l : List ℕ). every g (collect f l)) range_none
every_range {B} f g (suc n) h =
    ap (λ (k : ℕ). every g (collect f (range k))) (sym (add-one n))
    ∙ ap (every g) (collect_range f n)
    ∙ every_append g (collect f (range n)) (joined (f n) [])
    ∙ ap (λ (b : Bool). b && every g (joined (f n) [])) (every_range f g n (λ i m b e. h i (omega arith) b e))
    ∙ by (f n) refl
  where
    by : (o : Option B) → f n ≡ o → every g (joined o []) ≡ true
    by none e = refl
    by (some b) e = rw (h n (omega arith) b e) refl

-- ---- active speakers

module _ (positions : List Float) (lfe : List ℕ) where
  -- among the first n slots: each is below n
  slots_low : (n : ℕ) → every (λ s. ltb s.slot n) (collect (speaker_at positions lfe) (range n)) ≡ true
  slots_low n =
      every_range (speaker_at positions lfe) (λ s. ltb s.slot n) n
      (λ i h s e. let p = active_slot positions lfe i s e in lt-ltb s.slot n (omega arith))

  pub active_low : every (λ s. ltb s.slot (outputs_of positions)) (active positions lfe) ≡ true
  unfolding active
  active_low = slots_low (outputs_of positions)

  pub active_threes : every three (active positions lfe) ≡ true
  unfolding active
  active_threes = every_collect (speaker_at positions lfe) three (λ i s e. active_three positions lfe i s e) (range (outputs_of positions))

  pub active_few : length (active positions lfe) ≤ outputs_of positions
  unfolding active
  active_few = omega (arith, length_collect (speaker_at positions lfe) (range (outputs_of positions)), length_range (outputs_of positions))

-- their slots, as numbers
pub slots_of_lem : (n : ℕ) (act : List Speaker) → every (λ s. ltb s.slot n) act ≡ true → every (λ o. ltb o n) (slots_of act) ≡ true
unfolding slots_of
slots_of_lem n act e = every_map (λ o. ltb o n) (λ s. s.slot) act ∙ e

-- they ascend: one more slot is above those before it
abbrev Rises : List ℕ → Type 0
Rises l = (p q : ℕ) → p < q → q < length l → get_or l p 0 < get_or l q 0

rises_snoc : (l : List ℕ) (n : ℕ) → every (λ o. ltb o n) l ≡ true → Rises l → Rises (l ++ n ∷ [])
rises_snoc l n low h p q g m = by (ltb q (length l)) refl
  where
    by : (b : Bool) → ltb q (length l) ≡ b → get_or (l ++ n ∷ []) p 0 < get_or (l ++ n ∷ []) q 0
    by true e =
        let w = ltb-true q (length l) e in
        rw (get_or-append l (n ∷ []) 0 p (omega arith), get_or-append l (n ∷ []) 0 q w) (h p q g w)
    by false e =
        let w : q ≡ length l = omega (arith, ltb-false q (length l) e, length-append l (n ∷ [])) in
        rw (get_or-append l (n ∷ []) 0 p (omega arith), w, get_or-append_seam l n [] 0) (ltb-true (get_or l p 0) n (every_at (λ o. ltb o n) l p 0 low (omega arith)))

rises_next : (f : ℕ → Option Speaker) (n : ℕ) → ((s : Speaker) → f n ≡ some s → s.slot ≡ n) → every (λ s. ltb s.slot n) (collect f (range n)) ≡ true
    → Rises (slots_of (collect f (range n))) → Rises (slots_of (collect f (range (suc n))))
unfolding slots_of
rises_next f n own low h =
    rw (← add-one n, collect_range f n) (by (f n) refl)
  where
    by : (o : Option Speaker) → f n ≡ o → Rises (slots_of (collect f (range n) ++ joined o []))
    by none e = rw (append-nil (collect f (range n))) h
    by (some s) e =
        rw (map_snoc (λ s. s.slot) (collect f (range n)) s, own s e) (rises_snoc (slots_of (collect f (range n))) n (slots_of_lem n (collect f (range n)) low) h)

module _ (positions : List Float) (lfe : List ℕ) where
  rises_range : (n : ℕ) → Rises (slots_of (collect (speaker_at positions lfe) (range n)))
  unfolding slots_of collect
  rises_range zero = rw range_none (λ p q g m. absurd (not-suc-le-zero m))
  rises_range (suc n) =
      rises_next (speaker_at positions lfe) n (λ s e. active_slot positions lfe n s e) (slots_low positions lfe n) (rises_range n)

pub ascending : Ascending
unfolding active
ascending positions lfe p q g m = rises_range positions lfe (outputs_of positions) p q g (omega (arith, slots_count (active positions lfe)))

-- ---- pairs

-- the slots of a pair are its spots' numbers
module _ (g : Float) (s t : Spot) (p : PlanarPair) (e : pair_of g s t ≡ some p) where
  pair_a : p.a ≡ s.number
  unfolding pair_of
  pair_a = ap (λ (p : PlanarPair). p.a) (sym (picked (lt g coincident) _ p e))

  pair_b : p.b ≡ t.number
  unfolding pair_of
  pair_b = ap (λ (p : PlanarPair). p.b) (sym (picked (lt g coincident) _ p e))

module _ (n : ℕ) (act : List Speaker) (low : every (λ s. ltb s.slot n) act ≡ true) (some-output : 0 < n) where
  ring_low : every (λ s. ltb s.number n) (ring act) ≡ true
  unfolding ring spot_of
  ring_low = every_sorted (λ s. ltb s.number n) (map spot_of act) ∙ every_map (λ s. ltb s.number n) spot_of act ∙ low

  spot_low : (i : ℕ) → ltb (spot_at (ring act) i).number n ≡ true
  spot_low i = every_get_d (λ s. ltb s.number n) (ring act) i (record { angle = nan; number = 0 }) (lt-ltb 0 n some-output) ring_low

  pub pairs_low : every (λ o. ltb o n) (flat_map (λ p. p.a ∷ p.b ∷ []) (pairs_of act)) ≡ true
  unfolding pairs_of pair_at every
  pairs_low =
      every_flat_map (λ o. ltb o n) (λ p. p.a ∷ p.b ∷ []) (pairs_of act)
      ∙ every_range (pair_at (ring act)) (λ p. every (λ o. ltb o n) (p.a ∷ p.b ∷ [])) (length act)
      (λ i h p e.
      rw (
        pair_a _ (spot_at (ring act) i) (spot_at (ring act) ((i + 1) % length (ring act))) p e,
        pair_b _ (spot_at (ring act) i) (spot_at (ring act) ((i + 1) % length (ring act))) p e,
        spot_low i,
        spot_low ((i + 1) % length (ring act)),
      ))
