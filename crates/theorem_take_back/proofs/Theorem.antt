-- Two lists of calls leave equal sessions exactly where their histories agree: the session is the laid history after every call, and two laid histories that are equal say the same. Assumes nothing.
use Prim.Native.Nat.{ℕ, ◌%◌, ◌≤◌, ◌<◌}
use mathlib.Core.Path.{◌≡◌, refl, sym, ap, ap₂, ◌∙◌}
use mathlib.Core.Logic.{◌↔◌}
use mathlib.Core.Bool.{Bool, true, false, ◌||◌, not, cond}
use mathlib.Core.List.{List, [], ◌∷◌, foldl}
use native.Mathlib.Omega.{arith}
use borrow.Author.Tests.{ltb-false}
use lib.Dec.{eqb, ltb}
use lib.ListN.{length, get_or, replicate}
use lib.Seq.{ext_get_or}
use Rattle.layout_record.specs.declared.VbapPanner.{VbapPanner}
use Rattle.layout_record.specs.Shape.{Layout, imaginary_in}
use Rattle.layout_record.specs.Panner.{laid}
use Rattle.layout_record.proofs.Reading.{read_back}
use Rattle.layout_record.proofs.WellFormed.{well_formed}
use Rattle.layout_new.specs.Layout.{outputs_of, active, layout_of, too_many_triplets, new_refusal, panner_of, new_of}
use Rattle.layout_new.proofs.Answers.{answer_number, accepted_fits}
use Rattle.mix_block.specs.Limits.{most_sources}
use Rattle.session_history.specs.Calls.{Call}
use Rattle.session_history.specs.History.{Past, beginning, depth, step, history, past}
use Rattle.session_calls.specs.declared.Session.{Session}
use Rattle.session_open.specs.Open.{fresh, open_refusal, no_session, OpenAnswer, open_of}
use Rattle.session_calls.specs.Session.{malformed_session, number_of, after, after_all}
use Rattle.theorem_take_back.specs.Demand3.{Alike, Given, opened, history_of, past_of, Comparable, Demand3, Demand3Alike}
use Rattle.theorem_take_back.specs.Laid.{laid_at, Stands}
use Rattle.theorem_take_back.specs.Numbers.{NeverMalformed, NumbersAgree}
use Rattle.theorem_take_back.proofs.Laying.{Setting, Good, good_fresh, laid_same}
use Rattle.theorem_take_back.proofs.Steps.{laid_fresh, well, numbers_same, one_step}

-- ---- a list of calls

module _ (v : VbapPanner) (l : Layout) (n : ℕ) (s : Setting v l n) where
  steps : (ps : List Past) → Good depth l n ps → (calls : List Call)
      → Good depth l n (foldl (step l) ps calls) × (foldl after (laid_at depth v ps) calls ≡ laid_at depth v (foldl (step l) ps calls))
  steps ps g [] = (g, refl)
  steps ps g (c ∷ calls) =
      let r = one_step v l n s ps g c in
      let t = steps (step l ps c) r.0 calls in
      (t.0, rw r.1 t.1)

-- ---- what open's acceptance says

passed : (a b c d e : Bool) → ◌≡◌ {A = ℕ} (cond (not a) 1 (cond b 2 (cond (c || d) 3 (cond e 4 0)))) 0
    → (a ≡ true) × (b ≡ false) × (c ≡ false) × (d ≡ false) × (e ≡ false)
passed false b c d e h = absurd (omega arith)
passed true true c d e h = absurd (omega arith)
passed true false true d e h = absurd (omega arith)
passed true false false true e h = absurd (omega arith)
passed true false false false true h = absurd (omega arith)
passed true false false false false h = (refl, refl, refl, refl, refl)

abbrev layout_is : Given → Layout
layout_is g = layout_of g.positions g.lfe

abbrev panner_is : Given → VbapPanner
panner_is g = panner_of g.positions g.lfe

module _ (g : Given) where
  answer : (why : ℕ) → OpenAnswer
  answer why =
      cond (eqb why 0)
      (record { number = 0; imaginary = imaginary_in (layout_is g).shape; session = fresh (panner_is g) g.sources })
      (record { number = why; imaginary = 0; session = no_session })

  open_is : open_of g.positions g.lfe g.sources ≡ answer (open_refusal g.positions g.lfe g.sources)
  unfolding open_of answer
  open_is = refl

  number_is : (why : ℕ) → (answer why).number ≡ why
  unfolding answer
  number_is why = answer_number (λ (o : OpenAnswer). o.number) why refl refl

  nothing_refused : open_refusal g.positions g.lfe g.sources ≡ 0
  nothing_refused = sym (number_is (open_refusal g.positions g.lfe g.sources)) ∙ ap (λ (o : OpenAnswer). o.number) (sym open_is) ∙ g.accepted

  opened_fresh : opened g ≡ fresh (panner_is g) g.sources
  unfolding answer
  opened_fresh = ap (λ (o : OpenAnswer). o.session) (open_is ∙ ap answer nothing_refused)

  new_accepts : ((new_of g.positions g.lfe).number ≡ 0) × (1 ≤ g.sources) × (g.sources ≤ most_sources)
  unfolding open_refusal new_of new_refusal
  new_accepts =
      let p = passed (eqb (length g.positions % 3) 0) (ltb 40 (outputs_of g.positions)) (ltb g.sources 1) (ltb most_sources g.sources) (too_many_triplets (active g.positions g.lfe))
      nothing_refused in
      (rw (p.0, p.1, p.4), ltb-false g.sources 1 p.2, ltb-false most_sources g.sources p.3)

  pub setting : Setting (panner_of g.positions g.lfe) (layout_of g.positions g.lfe) g.sources
  unfolding panner_of laid
  setting =
      let a = new_accepts in
      let f = accepted_fits g.positions g.lfe a.0 in
      record {
        formed = well_formed (layout_is g) f;
        read = read_back (layout_is g) f.shape;
        outputs = refl;
        narrow = f.outputs;
        least = a.1;
        most = a.2;
      }

  pub reached : (calls : List Call)
      → Good depth (layout_of g.positions g.lfe) g.sources (history_of g calls)
      × (after_all (opened g) calls ≡ laid_at depth (panner_of g.positions g.lfe) (history_of g calls))
  unfolding history after_all
  reached calls =
      let r = steps (panner_is g) (layout_is g) g.sources setting (replicate g.sources (beginning (layout_is g)))
      (good_fresh depth (panner_is g) (layout_is g) g.sources setting) calls in
      (r.0, ap (λ (s : Session). foldl after s calls) (opened_fresh ∙ laid_fresh (panner_is g) (layout_is g) g.sources setting) ∙ r.1)

pub stands : Stands
stands g calls = (reached g calls).1

pub never_malformed : NeverMalformed
never_malformed g calls = ap malformed_session (stands g calls) ∙ well (panner_is g) (layout_is g) g.sources (setting g) _ (reached g calls).0

pub numbers_agree : NumbersAgree
numbers_agree g calls c = ap (λ (s : Session). number_of s c) (stands g calls) ∙ numbers_same (panner_is g) (layout_is g) g.sources (setting g) _ (reached g calls).0 c

-- ---- demand 3 of one layout

module _ (g : Given) (one two : List Call) where
  same_history : ((i : ℕ) → i < g.sources → Alike (past_of g one i) (past_of g two i)) → history_of g one ≡ history_of g two
  unfolding past
  same_history alike =
      let r = (reached g one).0 in
      let t = (reached g two).0 in
      ext_get_or (beginning (layout_is g)) _ _ (r.many ∙ sym t.many)
      (λ i h. let q = alike i (omega (arith, r.many)) in λ k. record { standing = q.directions k; row = q.gains k })

  alone : (after_all (opened g) one ≡ after_all (opened g) two) ↔ ((i : ℕ) → i < g.sources → Alike (past_of g one i) (past_of g two i))
  unfolding past
  alone = (
    λ e. laid_same depth (panner_is g) (layout_is g) g.sources (setting g) _ _ (reached g one).0 (reached g two).0 (sym (stands g one) ∙ e ∙ stands g two),
    λ alike. stands g one ∙ ap (laid_at depth (panner_is g)) (same_history alike) ∙ sym (stands g two),
  )

-- ---- and of two lists that have it

-- what the calls leave depends on the layout and the count of sources alone
module _ (g h : Given) (c : Comparable g h) (calls : List Call) where
  history_of_lem : history_of h calls ≡ history_of g calls
  unfolding history
  history_of_lem = ap₂ (λ (l : Layout) (n : ℕ). foldl (step l) (replicate n (beginning l)) calls) (sym c.layout) (sym c.sources)

  pub session_of : after_all (opened h) calls ≡ after_all (opened g) calls
  unfolding panner_of
  session_of = stands h calls ∙ ap₂ (λ (l : Layout) (ps : List Past). laid_at depth (laid l) ps) (sym c.layout) history_of_lem ∙ sym (stands g calls)

  pub past_of_lem : (i : ℕ) → past_of h calls i ≡ past_of g calls i
  unfolding past
  past_of_lem i = ap₂ (λ (l : Layout) (ps : List Past). get_or ps i (beginning l)) (sym c.layout) history_of_lem

pub demand3 : Demand3
demand3 g h c one two =
    let d = alone g one two in
    let s = session_of g h c two in
    let p = past_of_lem g h c two in (
      λ e i m. rw (p i) (d.0 (e ∙ s) i m),
      λ alike. d.1 (λ i m. rw (p i) at (alike i m)) ∙ sym s,
    )

-- what open was given, with itself
pub same_given : (g : Given) → Comparable g g
same_given g = record { layout = refl; sources = refl }

pub demand3_alike : Demand3Alike
demand3_alike positions lfe sources accepted one two =
    let g : Given = record { positions = positions; lfe = lfe; sources = sources; accepted = accepted } in
    demand3 g g (same_given g) one two
