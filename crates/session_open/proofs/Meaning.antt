-- Which sessions of open are refused with 11: the one beside a refused open is, an opened one is not. Assumes nothing.
use Prim.Native.Nat.{ℕ, ◌%◌}
use mathlib.Core.Path.{◌≡◌, refl, sym, ap, ◌∙◌}
use mathlib.Core.Bool.{Bool, true, false, ◌||◌, cond}
use mathlib.Core.List.{List}
use native.Mathlib.Omega.{arith}
use borrow.Author.Tests.{eqb-true}
use lib.Dec.{eqb, ltb}
use lib.Ieee.{Float}
use lib.ListN.{length}
use Rattle.lists.specs.Lists.{any}
use Rattle.layout_record.specs.Panner.{no_panner}
use Rattle.layout_record.specs.Malformed.{malformed_of}
use Rattle.layout_record.proofs.WellFormed.{well_formed}
use Rattle.layout_new.specs.Layout.{outputs_of, active, layout_of, too_many_triplets, new_refusal, panner_of}
use Rattle.layout_new.proofs.Answers.{accepted_fits}
use Rattle.mix_block.specs.Limits.{most_sources}
use Rattle.session_history.specs.Calls.{place, take_back, settle, render}
use Rattle.session_history.specs.History.{depth}
use Rattle.session_calls.specs.Session.{malformed_by, malformed_session, number_of}
use Rattle.session_calls.proofs.Refusals.{formed_is, malformed_source}
use Rattle.session_open.specs.Open.{fresh, open_refusal, no_session, OpenAnswer, open_of}
use Rattle.session_open.specs.Meaning.{NoSessionRefused, OpenedFormed}
use Rattle.session_open.proofs.Opening.{new_number, open_number, few_sources, new_number_lem}

-- ---- the session beside a refused open

no_session_malformed : malformed_session no_session ≡ true
unfolding malformed_by no_session fresh
no_session_malformed = by (malformed_of no_panner)
  where
    by : (b : Bool) → b || ltb 0 1 || ltb most_sources 0 || any (λ n. ltb depth n) (fresh no_panner 0).counts ≡ true
    by true = refl
    by false = refl

pub no_session_refused : NoSessionRefused
unfolding number_of
no_session_refused (place i az el) = malformed_source no_session i _ no_session_malformed
no_session_refused (take_back i) = malformed_source no_session i _ no_session_malformed
no_session_refused (settle i) = malformed_source no_session i _ no_session_malformed
no_session_refused (render L samples outputs) = rw no_session_malformed

-- ---- an opened session

opened_number : (b : Bool) (x y : OpenAnswer) (why : ℕ) → eqb why 0 ≡ b → y.number ≡ why → (cond b x y).number ≡ 0 → why ≡ 0
opened_number true x y why e p q = eqb-true why 0 e
opened_number false x y why e p q = sym p ∙ q

opened_passed : (a b c d : Bool) → open_number a b c d ≡ 0 → (new_number a b c ≡ 0) × (d ≡ false)
opened_passed false b c d e = absurd (omega arith)
opened_passed true true c d e = absurd (omega arith)
opened_passed true false c true e = absurd (omega arith)
opened_passed true false true false e = absurd (omega arith)
opened_passed true false false false e = (refl, refl)

module _ (positions : List Float) (lfe : List ℕ) (sources : ℕ) where
  fresh_formed : open_refusal positions lfe sources ≡ 0 → malformed_session (fresh (panner_of positions lfe) sources) ≡ false
  unfolding open_refusal new_refusal panner_of fresh any
  fresh_formed z =
      let p = opened_passed (eqb (length positions % 3) 0) (ltb 40 (outputs_of positions)) (too_many_triplets (active positions lfe)) (ltb sources 1 || ltb most_sources sources) z in
      let f = few_sources sources p.1 in
      formed_is (fresh (panner_of positions lfe) sources)
      (record { panner = well_formed (layout_of positions lfe) (accepted_fits positions lfe (new_number_lem positions lfe ∙ p.0)); some = f.0; few = f.1; counts = refl })

  opened_is : open_refusal positions lfe sources ≡ 0 → (open_of positions lfe sources).session ≡ fresh (panner_of positions lfe) sources
  unfolding open_of
  opened_is z = rw z

pub opened_formed : OpenedFormed
unfolding open_of
opened_formed positions lfe sources e =
    let z = opened_number (eqb (open_refusal positions lfe sources) 0) _ _ (open_refusal positions lfe sources) refl refl e in
    ap malformed_session (opened_is positions lfe sources z) ∙ fresh_formed positions lfe sources z
