-- The answer of `new`, case by case; what is accepted fits the record, and no answer is malformed. Assumes nothing.
use Prim.Native.Nat.{ℕ, ◌%◌, ◌≤◌, ◌<◌}
use mathlib.Core.Path.{◌≡◌, refl, sym, ap, ◌∙◌}
use mathlib.Core.Bool.{Bool, true, false, not, cond}
use mathlib.Core.List.{List, [], ◌∷◌}
use native.Mathlib.Omega.{arith}
use borrow.Author.Tests.{eqb-true, eq-eqb, ne_eqb, lt-ltb, le-ltb, ltb-false}
use lib.Dec.{eqb, ltb}
use lib.Ieee.{Float}
use lib.ListN.{length, get_or}
use Rattle.lists.specs.Lists.{every}
use Rattle.vector.specs.declared.Speaker.{Speaker}
use Rattle.vector.specs.Speakers.{slots_of}
use Rattle.layout_planar.specs.Planar.{pairs_of}
use Rattle.layout_record.specs.Shape.{silent, mono, planar, Layout, imaginary_in}
use Rattle.layout_record.specs.Panner.{laid, no_panner, layout_in}
use Rattle.layout_record.specs.declared.VbapPanner.{VbapPanner}
use Rattle.layout_record.specs.Malformed.{used_slots, used_points, malformed_of}
use Rattle.layout_record.proofs.Reading.{read_back}
use Rattle.layout_record.proofs.WellFormed.{well_formed}
use Rattle.layout_new.specs.Layout.{outputs_of, active, level, shape_of, layout_of, too_many_triplets, new_refusal, panner_of, NewAnswer, new_of}
use Rattle.layout_new.specs.Inner.Answers.{accepted, refused_by, hull_built_of}
use Rattle.layout_new.specs.Meaning.{AcceptedFits, AcceptedReadBack, NeverMalformed}
use Rattle.layout_new.proofs.Fits.{layout_fits}
use Rattle.layout_new.proofs.Slots.{active_low, active_threes, active_few}

-- ---- by the active speakers

pub accepted_as : (l : Layout) {p : VbapPanner} {k : ℕ} → p ≡ laid l → k ≡ imaginary_in l.shape → ◌≡◌ {A = NewAnswer} (record { number = 0; panner = p; imaginary = k }) (accepted l)
unfolding accepted
accepted_as l p k = rw (p, k)

-- n outputs, and these active speakers
unfoldable pub built_of : ℕ → List Speaker → NewAnswer
built_of n act = cond (too_many_triplets act) (refused_by 4) (accepted (record { outputs = n; shape = shape_of act }))

module _ (n : ℕ) where
  pub built_none : (act : List Speaker) → length act ≡ 0 → built_of n act ≡ accepted (record { outputs = n; shape = silent })
  unfolding built_of too_many_triplets shape_of
  built_none [] e = refl
  built_none (s ∷ l) e = absurd (omega arith)

  pub built_one : (act : List Speaker) → length act ≡ 1 → built_of n act ≡ accepted (record { outputs = n; shape = mono (get_or act 0 (record { slot = 0; dir = [] })).slot })
  unfolding built_of too_many_triplets shape_of
  built_one [] e = absurd (omega arith)
  built_one (s ∷ []) e = refl
  built_one (s ∷ (t ∷ l)) e = absurd (omega arith)

  pub built_level : (act : List Speaker) → 2 ≤ length act → every level act ≡ true → built_of n act ≡ accepted (record { outputs = n; shape = planar (pairs_of act) (slots_of act) })
  unfolding built_of too_many_triplets shape_of
  built_level [] h e = absurd (omega arith)
  built_level (s ∷ []) h e = absurd (omega arith)
  built_level (s ∷ (t ∷ l)) h e = rw e

  pub built_hull : (act : List Speaker) → 2 ≤ length act → every level act ≡ false → built_of n act ≡ hull_built_of n act
  unfolding built_of hull_built_of too_many_triplets shape_of
  built_hull [] h e = absurd (omega arith)
  built_hull (s ∷ []) h e = absurd (omega arith)
  built_hull (s ∷ (t ∷ l)) h e = rw e

-- ---- by the refusals

-- an answer chosen by its number has that number
pub answer_number : {A : Type 0} (number : A → ℕ) (why : ℕ) {x y : A} → number x ≡ 0 → number y ≡ why → number (cond (eqb why 0) x y) ≡ why
answer_number {A} number why {x} {y} p q = by (eqb why 0) refl
  where
    by : (b : Bool) → eqb why 0 ≡ b → number (cond b x y) ≡ why
    by true e = p ∙ sym (eqb-true why 0 e)
    by false e = q

module _ (positions : List Float) (lfe : List ℕ) where
  -- the answer by the number
  answer : ℕ → NewAnswer
  answer why = cond (eqb why 0) (accepted (layout_of positions lfe)) (refused_by why)

  new_is : new_of positions lfe ≡ answer (new_refusal positions lfe)
  unfolding new_of panner_of answer accepted refused_by
  new_is = refl

  pub new_uneven : (length positions % 3 ≡ 0 → ⊥) → new_of positions lfe ≡ refused_by 1
  unfolding new_refusal answer
  new_uneven h = new_is ∙ rw (ne_eqb (length positions % 3) 0 h)

  pub new_many : length positions % 3 ≡ 0 → 40 < outputs_of positions → new_of positions lfe ≡ refused_by 2
  unfolding new_refusal answer
  new_many h g = new_is ∙ rw (eq-eqb (length positions % 3) 0 h, lt-ltb 40 (outputs_of positions) g)

  pub new_built : length positions % 3 ≡ 0 → outputs_of positions ≤ 40 → new_of positions lfe ≡ built_of (outputs_of positions) (active positions lfe)
  unfolding new_refusal answer built_of layout_of
  new_built h g = new_is ∙ rw (eq-eqb (length positions % 3) 0 h, le-ltb 40 (outputs_of positions) g) (by (too_many_triplets (active positions lfe)))
    where
      by : (b : Bool)
          → answer (cond b 4 0) ≡ cond b (refused_by 4) (accepted (record { outputs = outputs_of positions; shape = shape_of (active positions lfe) }))
      by true = refl
      by false = refl

  -- the answer by how many are active and whether all are level
  module _ (even : length positions % 3 ≡ 0) (room : outputs_of positions ≤ 40) where
    pub new_silent : length (active positions lfe) ≡ 0 → accepted (record { outputs = outputs_of positions; shape = silent }) ≡ new_of positions lfe
    new_silent e = sym (new_built even room ∙ built_none (outputs_of positions) (active positions lfe) e)

    pub new_mono : length (active positions lfe) ≡ 1
        → accepted (record { outputs = outputs_of positions; shape = mono (get_or (active positions lfe) 0 (record { slot = 0; dir = [] })).slot }) ≡ new_of positions lfe
    new_mono e = sym (new_built even room ∙ built_one (outputs_of positions) (active positions lfe) e)

    pub new_level : 2 ≤ length (active positions lfe) → every level (active positions lfe) ≡ true
        → accepted (record { outputs = outputs_of positions; shape = planar (pairs_of (active positions lfe)) (slots_of (active positions lfe)) }) ≡ new_of positions lfe
    new_level h e = sym (new_built even room ∙ built_level (outputs_of positions) (active positions lfe) h e)

    pub new_hull : 2 ≤ length (active positions lfe) → every level (active positions lfe) ≡ false → hull_built_of (outputs_of positions) (active positions lfe) ≡ new_of positions lfe
    new_hull h e = sym (new_built even room ∙ built_hull (outputs_of positions) (active positions lfe) h e)

  -- ---- what an accepted layout passed

  passed : (a b c : Bool) → ◌≡◌ {A = ℕ} (cond (not a) 1 (cond b 2 (cond c 4 0))) 0 → (b ≡ false) × (c ≡ false)
  passed false b c e = absurd (omega arith)
  passed true true c e = absurd (omega arith)
  passed true false true e = absurd (omega arith)
  passed true false false e = (refl, refl)

  number_is : (why : ℕ) → (answer why).number ≡ why
  unfolding answer accepted refused_by
  number_is why = answer_number (λ (x : NewAnswer). x.number) why refl refl

  pub accepted_is : (new_of positions lfe).number ≡ 0 → new_of positions lfe ≡ accepted (layout_of positions lfe)
  unfolding answer
  accepted_is e =
      let z : new_refusal positions lfe ≡ 0 = sym (number_is (new_refusal positions lfe)) ∙ ap (λ (x : NewAnswer). x.number) (sym new_is) ∙ e in
      new_is ∙ ap answer z

pub accepted_fits : AcceptedFits
unfolding new_refusal layout_of
accepted_fits positions lfe e =
    let z : new_refusal positions lfe ≡ 0 =
    sym (number_is positions lfe (new_refusal positions lfe)) ∙ ap (λ (x : NewAnswer). x.number) (sym (new_is positions lfe)) ∙ e in
    let p = passed positions lfe (eqb (length positions % 3) 0) (ltb 40 (outputs_of positions)) (too_many_triplets (active positions lfe)) z in
    layout_fits (outputs_of positions) (active positions lfe) (ltb-false 40 (outputs_of positions) p.0) (active_few positions lfe) (active_threes positions lfe)
    (active_low positions lfe) p.1

pub accepted_read_back : AcceptedReadBack
unfolding accepted
accepted_read_back positions lfe e =
    ap (λ (x : NewAnswer). layout_in x.panner) (accepted_is positions lfe e) ∙ read_back (layout_of positions lfe) (accepted_fits positions lfe e).shape

-- ---- never malformed

blank_formed : malformed_of no_panner ≡ false
unfolding no_panner used_slots used_points every
blank_formed = well_formed (record { outputs = 0; shape = silent }) (record { outputs = omega arith; shape = tt; slots = refl; points = refl })

pub never_malformed : NeverMalformed
unfolding answer accepted refused_by
never_malformed positions lfe = by (eqb (new_refusal positions lfe) 0) refl
  where
    by : (b : Bool) → eqb (new_refusal positions lfe) 0 ≡ b → malformed_of (new_of positions lfe).panner ≡ false
    by true e =
        let n : (new_of positions lfe).number ≡ 0 =
        ap (λ (x : NewAnswer). x.number) (new_is positions lfe) ∙ number_is positions lfe (new_refusal positions lfe) ∙ eqb-true (new_refusal positions lfe) 0 e in
        ap (λ (x : NewAnswer). malformed_of x.panner) (accepted_is positions lfe n) ∙ well_formed (layout_of positions lfe) (accepted_fits positions lfe n)
    by false e =
        ap (λ (x : NewAnswer). malformed_of x.panner)
        (new_is positions lfe ∙ ap (λ (b : Bool). cond b (accepted (layout_of positions lfe)) (refused_by (new_refusal positions lfe))) e)
        ∙ blank_formed
