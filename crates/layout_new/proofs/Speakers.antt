-- Active speakers: each is in its slot and has a direction of three numbers. Assumes nothing.
use Prim.Native.Nat.{ℕ, ◌+◌, ◌*◌, ◌≤◌}
use mathlib.Core.Path.{◌≡◌, refl, sym, ap, ap₂, ◌∙◌}
use mathlib.Core.Bool.{Bool, true, false, ◌||◌, not, cond}
use mathlib.Core.List.{List, [], ◌∷◌, ◌++◌, flat_map}
use mathlib.Core.Option.{Option, none, some}
use Rattle.std.proofs.Common.{Option as Maybe, None, Some}
use native.Mathlib.Nat.{zero-mul, suc-mul, add_comm}
use native.Mathlib.Omega.{arith}
use borrow.Author.Tests.{eqb-true, eq-eqb}
use lib.Dec.{eqb}
use lib.Ieee.{Float, le}
use lib.ListN.{length, length-append}
use Rattle.lists.specs.Lists.{range, collect, joined, every, member, part}
use Rattle.lists.proofs.Collect.{collect_append, length_collect}
use Rattle.lists.proofs.Ranges.{range_snoc, length_range}
use Rattle.lists.proofs.Tests.{and_left, and_right, every_map}
use Rattle.float_order.specs.Values.{is_finite}
use Rattle.vector.specs.Vector.{Vector, unit_of, over_of, length_of, shortest}
use Rattle.vector.specs.declared.Speaker.{Speaker}
use Rattle.vector.specs.Speakers.{dirs_of}
use Rattle.layout_planar.specs.Planar.{ring, pair_at, pairs_of}
use Rattle.layout_new.specs.Layout.{in_slot, speaker_at}

-- ---- a collection

-- what every result passes, the collection passes
pub every_collect : {A B : Type 0} (f : A → Option B) (g : B → Bool) → ((a : A) (b : B) → f a ≡ some b → g b ≡ true) → (l : List A)
    → every g (collect f l) ≡ true
unfolding every collect
every_collect f g h [] = refl
every_collect {A} {B} f g h (a ∷ l) = by (f a) refl (every_collect f g h l)
  where
    by : (o : Option B) → f a ≡ o → every g (collect f l) ≡ true → every g (joined o (collect f l)) ≡ true
    by none e r = r
    by (some b) e r = rw (h a b e) r

-- one place more
pub collect_range : {B : Type 0} (f : ℕ → Option B) (i : ℕ) → collect f (range (i + 1)) ≡ collect f (range i) ++ joined (f i) []
unfolding collect
collect_range f i = ap (collect f) (range_snoc i) ∙ collect_append f (range i) (i ∷ [])

-- ---- a speaker

-- its direction has three numbers
abbrev pub three : Speaker → Bool
three s = eqb (length s.dir) 3

pub picked : {A : Type 0} (b : Bool) (v u : A) → cond b none (some v) ≡ some u → v ≡ u
picked true v u e = cc
picked false v u e = cc

pub unit_three : (p u : Vector) → unit_of p ≡ Some u → length u ≡ 3
unfolding unit_of over_of
unit_three p u = by (le (length_of p) shortest || not (is_finite (length_of p)))
  where
    by : (b : Bool) → ◌≡◌ {A = Maybe Vector} (cond b None (Some (over_of p (length_of p)))) (Some u) → length u ≡ 3
    by true e = cc
    by false e = let g : over_of p (length_of p) ≡ u = cc in ap length (sym g)

slot_is : (b : Bool) (o : Maybe Vector) (i : ℕ) (s : Speaker) → cond b none (in_slot i o) ≡ some s → s.slot ≡ i
slot_is true o i s e = cc
slot_is false None i s e = cc
slot_is false (Some u) i s e = cc

dir_is : (b : Bool) (o : Maybe Vector) (i : ℕ) (s : Speaker) → cond b none (in_slot i o) ≡ some s → o ≡ Some s.dir
dir_is true o i s e = cc
dir_is false None i s e = cc
dir_is false (Some u) i s e = cc

module _ (positions : List Float) (lfe : List ℕ) (i : ℕ) where
  pub lfe_none : member i lfe ≡ true → speaker_at positions lfe i ≡ none
  unfolding speaker_at
  lfe_none e = rw e

  pub not_lfe : member i lfe ≡ false → speaker_at positions lfe i ≡ in_slot i (unit_of (part 3 positions i))
  unfolding speaker_at
  not_lfe e = rw e

  -- an active speaker is in its slot, and has three numbers
  pub active_slot : (s : Speaker) → speaker_at positions lfe i ≡ some s → s.slot ≡ i
  unfolding speaker_at
  active_slot s e = slot_is (member i lfe) (unit_of (part 3 positions i)) i s e

  pub active_three : (s : Speaker) → speaker_at positions lfe i ≡ some s → three s ≡ true
  unfolding speaker_at
  active_three s e = eq-eqb _ 3 (unit_three (part 3 positions i) s.dir (dir_is (member i lfe) (unit_of (part 3 positions i)) i s e))

-- ---- lists made of speakers

pub length_flat : {A : Type 0} (w : ℕ) (ls : List (List A)) → every (λ l. eqb (length l) w) ls ≡ true → length (flat_map (λ l. l) ls) ≡ length ls * w
unfolding every flat_map
length_flat w [] e = sym (zero-mul w)
length_flat w (l ∷ ls) e =
    let p = eqb-true (length l) w (and_left (eqb (length l) w) (every (λ l. eqb (length l) w) ls) e) in
    length-append l (flat_map (λ l. l) ls)
    ∙ ap₂ ◌+◌ p (length_flat w ls (and_right (eqb (length l) w) (every (λ l. eqb (length l) w) ls) e))
    ∙ add_comm w (length ls * w) ∙ sym (suc-mul (length ls) w)

pub dirs_three : (act : List Speaker) → every three act ≡ true → every (λ d. eqb (length d) 3) (dirs_of act) ≡ true
unfolding dirs_of
dirs_three act e = every_map (λ d. eqb (length d) 3) (λ s. s.dir) act ∙ e

pub pairs_few : (act : List Speaker) → length (pairs_of act) ≤ length act
unfolding pairs_of
pairs_few act = omega (arith, length_collect (pair_at (ring act)) (range (length act)), length_range (length act))
