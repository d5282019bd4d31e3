-- The active speakers: slots in rising order, below the count of outputs, none of them LFE, and directions. Assumes nothing.
use Rattle.std.proofs.Common.{◌≡◌, ℕ, zero, suc, ◌<◌, ◌≤◌, Bool, true, false, cond, T, eqb, List, sym, refl, ◌∙◌, arith, ne_eqb, IfSome}
use Rattle.std.proofs.Common.{Option as Maybe, None, Some as Yes}
use mathlib.Core.Option.{Option, none, some}
use lib.Ieee.{Float, binary32, fits}
use Rattle.lists.specs.Lists.{from, range, collect, joined, member, part, Each, Once}
use Rattle.lists.proofs.Parts.{length_part}
use Rattle.vector.specs.Vector.{Vector, unit_of}
use Rattle.vector.specs.declared.Speaker.{Speaker}
use Rattle.vector.specs.Speakers.{slots_of}
use Rattle.layout_new.specs.Layout.{outputs_of, in_slot, speaker_at, active}
use Rattle.theorem_layouts.specs.Sound.{Active}
use Rattle.lists.proofs.Each.{Some, each_imply, each_map, each_part, each_collect, each_from, each_range}
use Rattle.lists.proofs.Once.{not_member, member_none}
use Rattle.theorem_layouts.proofs.Directions.{Direction, unit_direction}

-- an active slot and its direction
pub record ActiveSpeaker (positions : List Float) (lfe : List ℕ) (s : Speaker) : Type 0 where
  pub at : Active positions lfe s.slot
  pub unit : Direction s.dir

module _ (positions : List Float) (lfe : List ℕ) where
  speaker_active : Each (λ v. T (fits binary32 v)) positions → (i : ℕ) → i < outputs_of positions → Some (ActiveSpeaker positions lfe) (speaker_at positions lfe i)
  unfolding speaker_at outputs_of
  speaker_active h i l =
      by (member i lfe) refl (unit_of (part 3 positions i)) refl
      (unit_direction (part 3 positions i) (length_part 3 positions i (omega arith)) (each_part (λ v. T (fits binary32 v)) 3 positions i h))
    where
      by : (b : Bool) → member i lfe ≡ b → (o : Maybe Vector) → unit_of (part 3 positions i) ≡ o → IfSome o Direction → Some (ActiveSpeaker positions lfe) (cond b none (in_slot i o))
      by true e o g d = tt
      by false e None g d = tt
      by false e (Yes u) g d = record { at = record { low = l; not_lfe = e; accepted = λ n. some_none (sym g ∙ n) }; unit = d }
        where
          some_none : {u : Vector} → Yes u ≡ None → ⊥
          some_none e = let z : ◌≡◌ {A = ℕ} 0 1 = cc in omega arith

  pub active_each : Each (λ v. T (fits binary32 v)) positions → Each (ActiveSpeaker positions lfe) (active positions lfe)
  unfolding active
  active_each h =
      each_collect (ActiveSpeaker positions lfe) (speaker_at positions lfe) (range (outputs_of positions))
      (each_range (λ i. Some (ActiveSpeaker positions lfe) (speaker_at positions lfe i)) (outputs_of positions) (speaker_active h))

  -- a speaker's slot is its place
  in_place : (i : ℕ) → Some (λ s. s.slot ≡ i) (speaker_at positions lfe i)
  unfolding speaker_at
  in_place i = by (member i lfe) (unit_of (part 3 positions i))
    where
      by : (b : Bool) (o : Maybe Vector) → Some (λ s. s.slot ≡ i) (cond b none (in_slot i o))
      by true o = tt
      by false None = tt
      by false (Yes u) = refl

  some_imply : (P Q : Speaker → Type 0) → ((s : Speaker) → P s → Q s) → (o : Option Speaker) → Some P o → Some Q o
  some_imply P Q k none h = tt
  some_imply P Q k (some s) h = k s h

  from_once : (a n : ℕ) → Once (slots_of (collect (speaker_at positions lfe) (from a n)))
  unfolding from collect slots_of
  from_once a zero = tt
  from_once a (suc n) =
      by (speaker_at positions lfe a) (in_place a) (from_once (suc a) n)
      (each_collect (λ s. suc a ≤ s.slot) (speaker_at positions lfe) (from (suc a) n)
      (each_from (λ i. Some (λ s. suc a ≤ s.slot) (speaker_at positions lfe i)) (suc a) n
      (λ i h l. some_imply (λ s. s.slot ≡ i) (λ s. suc a ≤ s.slot) (λ s e. omega arith) (speaker_at positions lfe i) (in_place i))))
    where
      by : (o : Option Speaker) → Some (λ s. s.slot ≡ a) o → Once (slots_of (collect (speaker_at positions lfe) (from (suc a) n))) → Each (λ s. suc a ≤ s.slot) (collect (speaker_at positions lfe) (from (suc a) n))
          → Once (slots_of (joined o (collect (speaker_at positions lfe) (from (suc a) n))))
      by none e d k = d
      by (some s) e d k = (
        not_member s.slot (slots_of (collect (speaker_at positions lfe) (from (suc a) n))) (member_none s.slot (slots_of (collect (speaker_at positions lfe) (from (suc a) n)))
            (each_map (λ o. eqb o s.slot ≡ false) (λ t. t.slot) (collect (speaker_at positions lfe) (from (suc a) n))
            (each_imply (λ t. suc a ≤ t.slot) (λ t. eqb t.slot s.slot ≡ false) (λ t h. ne_eqb t.slot s.slot (λ g. omega arith)) (collect (speaker_at positions lfe) (from (suc a) n)) k))),
        d,
      )

  pub active_once : Once (slots_of (active positions lfe))
  unfolding active range
  active_once = from_once 0 (outputs_of positions)
