-- The answer of open, case by case, from the answer of `layout_new::new`: 1 and 2 are its own, then 3, then 4. Assumes nothing.
use Prim.Native.Nat.{ℕ, ◌%◌, ◌≤◌}
use mathlib.Core.Path.{◌≡◌, refl, sym, ap, ◌∙◌}
use mathlib.Core.Bool.{Bool, true, false, ◌||◌, not, cond, false≢true, true≢false}
use mathlib.Core.List.{List}
use native.Mathlib.Omega.{arith}
use borrow.Author.Tests.{ltb-false, le-ltb, eqb-true, eq-eqb, ne_eqb}
use lib.Dec.{eqb, ltb}
use lib.Ieee.{Float}
use lib.ListN.{length}
use Rattle.layout_record.specs.Shape.{imaginary_in}
use Rattle.lists.proofs.Tests.{neither}
use Rattle.std.proofs.Common.{Result, Ok, Err}
use Rattle.refusals.specs.declared.Refusal.{Refusal}
use Rattle.refusals.specs.Refusals.{number_of as refusal_number}
use Rattle.session_calls.proofs.Refusals.{refused}
use Rattle.layout_new.specs.declared.NewPanner.{NewPanner}
use Rattle.layout_new.specs.Layout.{NewAnswer, new_answer, outputs_of, active, layout_of, too_many_triplets, new_refusal, panner_of, new_of}
use Rattle.layout_new.specs.Inner.Answers.{accepted}
use Rattle.layout_new.proofs.Answers.{accepted_is}
use Rattle.mix_block.specs.Limits.{most_sources}
use Rattle.session_open.specs.Open.{fresh, open_refusal, early, OpenAnswer, refused_by, open_of}

-- ---- the numbers

abbrev pub new_number : Bool → Bool → Bool → ℕ
new_number a b c = cond (not a) 1 (cond b 2 (cond c 4 0))

abbrev pub open_number : Bool → Bool → Bool → Bool → ℕ
open_number a b c d = cond (not a) 1 (cond b 2 (cond d 3 (cond c 4 0)))

number_early : (a b c d : Bool) → early (new_number a b c) ≡ true → open_number a b c d ≡ new_number a b c
number_early false b c d e = refl
number_early true true c d e = refl
number_early true false true d e = absurd (false≢true e)
number_early true false false d e = absurd (false≢true e)

number_sources : (a b c : Bool) → early (new_number a b c) ≡ false → open_number a b c true ≡ 3
number_sources false b c e = absurd (true≢false e)
number_sources true true c e = absurd (true≢false e)
number_sources true false c e = refl

number_late : (a b c : Bool) → early (new_number a b c) ≡ false → open_number a b c false ≡ new_number a b c
number_late false b c e = absurd (true≢false e)
number_late true true c e = absurd (true≢false e)
number_late true false c e = refl

pub few_sources : (n : ℕ) → ltb n 1 || ltb most_sources n ≡ false → (1 ≤ n) × (n ≤ most_sources)
few_sources n e =
    let p = neither (ltb n 1) (ltb most_sources n) e in
    (ltb-false n 1 p.0, ltb-false most_sources n p.1)

number_of : (b : Bool) (x y : NewAnswer) (why : ℕ) → eqb why 0 ≡ b → x.number ≡ 0 → y.number ≡ why → (cond b x y).number ≡ why
number_of true x y why e p q = p ∙ sym (eqb-true why 0 e)
number_of false x y why e p q = q

-- ---- the answers

module _ (positions : List Float) (lfe : List ℕ) where
  abbrev even : Bool
  even = eqb (length positions % 3) 0

  abbrev many : Bool
  many = ltb 40 (outputs_of positions)

  abbrev tris : Bool
  tris = too_many_triplets (active positions lfe)

  pub new_number_lem : (new_of positions lfe).number ≡ new_refusal positions lfe
  unfolding new_of
  new_number_lem = number_of (eqb (new_refusal positions lfe) 0) _ _ (new_refusal positions lfe) refl refl refl

  module _ (sources : ℕ) where
    open_refused : (n : ℕ) → open_refusal positions lfe sources ≡ n → (n ≡ 0 → ⊥) → refused_by n ≡ open_of positions lfe sources
    unfolding open_of refused_by
    open_refused n e h = rw (e, ne_eqb n 0 h)

    open_accepted : open_refusal positions lfe sources ≡ 0
        → ◌≡◌ {A = OpenAnswer} (record { number = 0; imaginary = imaginary_in (layout_of positions lfe).shape; session = fresh (panner_of positions lfe) sources })
        (open_of positions lfe sources)
    unfolding open_of
    open_accepted e = rw (eq-eqb (open_refusal positions lfe sources) 0 e)

    module _ {made : NewAnswer} (is : made ≡ new_of positions lfe) where
      number_is : made.number ≡ new_refusal positions lfe
      number_is = ap (λ (x : NewAnswer). x.number) is ∙ new_number_lem

      module _ (late : early made.number ≡ false) where
        number_is_late : ltb sources 1 || ltb most_sources sources ≡ false → open_refusal positions lfe sources ≡ made.number
        unfolding open_refusal new_refusal
        number_is_late d =
            ap (open_number even many tris) d ∙ number_late even many tris (ap early (sym number_is) ∙ late) ∙ sym number_is

        pub open_sources : ltb sources 1 || ltb most_sources sources ≡ true → refused_by 3 ≡ open_of positions lfe sources
        unfolding open_refusal new_refusal
        open_sources d =
            open_refused 3 (ap (open_number even many tris) d ∙ number_sources even many tris (ap early (sym number_is) ∙ late)) (λ z. omega arith)

        pub open_late : ltb sources 1 || ltb most_sources sources ≡ false → (made.number ≡ 0 → ⊥) → refused_by made.number ≡ open_of positions lfe sources
        open_late d h = open_refused made.number (number_is_late d) h

        pub open_done : ltb sources 1 || ltb most_sources sources ≡ false → made.number ≡ 0
            → ◌≡◌ {A = OpenAnswer} (record { number = 0; imaginary = made.imaginary; session = fresh made.panner sources }) (open_of positions lfe sources)
        unfolding accepted panner_of
        open_done d z =
            ap (λ (x : NewAnswer). record { number = 0; imaginary = x.imaginary; session = fresh x.panner sources })
            (is ∙ accepted_is positions lfe (ap (λ (x : NewAnswer). x.number) (sym is) ∙ z))
            ∙ open_accepted (number_is_late d ∙ z)

      pub open_early : early made.number ≡ true → refused_by made.number ≡ open_of positions lfe sources
      unfolding open_refusal new_refusal
      open_early e =
          open_refused made.number
          (number_early even many tris (ltb sources 1 || ltb most_sources sources) (ap early (sym number_is) ∙ e) ∙ sym number_is)
          (λ z. false≢true (sym (ap early z) ∙ e))

-- ---- the answer, by what the layout answers

abbrev pub uncounted : ℕ → Bool
uncounted n = ltb n 1 || ltb most_sources n

-- by whether the count is 1 to 8, which a range tells
pub counted_is : (n : ℕ) → 1 ≤ n → n ≤ most_sources → uncounted n ≡ false
counted_is n a b = rw (le-ltb n 1 a, le-ltb most_sources n b)

pub uncounted_is : (n : ℕ) → (1 ≤ n → n ≤ most_sources → ⊥) → uncounted n ≡ true
uncounted_is n h = by (uncounted n) refl
  where
    by : (b : Bool) → uncounted n ≡ b → b ≡ true
    by true e = refl
    by false e = absurd (h (few_sources n e).0 (few_sources n e).1)

pub not_both : {why : Refusal} {made : NewPanner} → ◌≡◌ {A = Result NewPanner Refusal} (Err why) (Ok made) → ⊥
not_both e = false≢true (ap opened e)
  where
    opened : Result NewPanner Refusal → Bool
    opened (Ok made) = true
    opened (Err why) = false

module _ (positions : List Float) (lfe : List ℕ) (sources : ℕ) (r : Result NewPanner Refusal) (is : new_answer r ≡ new_of positions lfe) where
  pub opened_first : {why : Refusal} → r ≡ Err why → early (refusal_number why) ≡ true → refused_by (refusal_number why) ≡ open_of positions lfe sources
  opened_first w e =
      let n = ap new_answer w in
      open_early positions lfe sources (sym n ∙ is) e

  pub opened_uncounted : early (new_answer r).number ≡ false → uncounted sources ≡ true → refused_by 3 ≡ open_of positions lfe sources
  opened_uncounted e d = open_sources positions lfe sources is e d

  pub opened_refused : {why : Refusal} → r ≡ Err why → early (new_answer r).number ≡ false → uncounted sources ≡ false → refused_by (refusal_number why) ≡ open_of positions lfe sources
  opened_refused {why} w e d =
      let n = ap new_answer w in
      open_late positions lfe sources (sym n ∙ is) (sym (ap (λ (x : NewAnswer). early x.number) n) ∙ e) d (refused why)

  pub opened_done : {made : NewPanner} → r ≡ Ok made → uncounted sources ≡ false
      → ◌≡◌ {A = OpenAnswer} (record { number = 0; imaginary = made.imaginary; session = fresh made.panner sources }) (open_of positions lfe sources)
  opened_done w d =
      let n = ap new_answer w in
      open_done positions lfe sources (sym n ∙ is) refl d refl
