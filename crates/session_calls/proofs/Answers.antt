-- The answer of a call, by its number: a refused one leaves the session, an accepted one gives what the definition makes of it. Assumes nothing.
use Prim.Native.Nat.{ℕ, ◌+◌, ◌-◌, ◌*◌}
use mathlib.Core.Path.{◌≡◌, refl, sym, ap, ◌∙◌}
use mathlib.Core.Bool.{Bool, cond}
use mathlib.Core.List.{List, [], ◌∷◌, ◌++◌}
use native.Mathlib.Omega.{arith}
use borrow.Author.Tests.{eq-eqb, ne_eqb}
use lib.Ieee.{Float}
use lib.ListN.{take, drop, replicate}
use lib.Seq.{sets}
use Rattle.std.proofs.Common.{Result, Ok, Err}
use Rattle.std.specs.Result.{IsErrAnd}
use Rattle.refusals.specs.declared.Refusal.{Refusal}
use Rattle.refusals.specs.Refusals.{number_of as refusal_number}
use Rattle.float_order.specs.Values.{+0}
use Rattle.row_gains.specs.Gains.{finite_or0}
use Rattle.session_history.specs.Calls.{Call, place, take_back, settle}
use Rattle.session_history.specs.History.{depth}
use Rattle.session_calls.specs.Session.{standing_count, number_of, at, stood, with_starts, restood, placed, taken_back, settled, accepted, after}
use Rattle.session_calls.specs.Answers.{Answer, answer_of, answered, left}
use Rattle.session_calls.specs.declared.Session.{Session}
use Rattle.session_calls.proofs.Refusals.{refused}

-- ---- after a call

pub after_refused : (s : Session) (c : Call) → (number_of s c ≡ 0 → ⊥) → after s c ≡ s
unfolding after
after_refused s c h = ap (λ (b : Bool). cond b (accepted s c) s) (ne_eqb (number_of s c) 0 h)

pub after_accepted : (s : Session) (c : Call) → number_of s c ≡ 0 → after s c ≡ accepted s c
unfolding after
after_accepted s c z = ap (λ (b : Bool). cond b (accepted s c) s) (eq-eqb (number_of s c) 0 z)

-- ---- the answer, by the number that was returned

answer_of_lem : (s : Session) (c : Call) {n : ℕ} {t : Session} → number_of s c ≡ n → after s c ≡ t → ◌≡◌ {A = Answer} (record { number = n; session = t }) (answer_of s c)
unfolding answer_of
answer_of_lem s c {n} {t} p q =
    ap (λ (m : ℕ). record { number = m; session = t }) (sym p) ∙ ap (λ (u : Session). record { number = number_of s c; session = u }) (sym q)

module _ (s : Session) (c : Call) {why : ℕ} (w : why ≡ number_of s c) where
  pub refused_as : (why ≡ 0 → ⊥) → ◌≡◌ {A = Answer} (record { number = why; session = s }) (answer_of s c)
  refused_as h = answer_of_lem s c (sym w) (after_refused s c (λ e. h (w ∙ e)))

  pub accepted_as : why ≡ 0 → {t : Session} → t ≡ accepted s c → ◌≡◌ {A = Answer} (record { number = 0; session = t }) (answer_of s c)
  accepted_as z e =
      let n : number_of s c ≡ 0 = sym w ∙ z in
      answer_of_lem s c n (after_accepted s c n ∙ sym e)

-- what a call on a lent session answers where it passes a refusal on
pub left_refused : (s : Session) (c : Call) (r : Result (Unit {0}) Refusal) (why : Refusal) → IsErrAnd r (λ e. e ≡ why) → refusal_number why ≡ number_of s c → left r s ≡ answer_of s c
left_refused s c (Ok u) why h e = absurd h
left_refused s c (Err y) why h e = rw h (refused_as s c e (refused why))

-- a call on a lent session that is refused with a number that is not 0: beside the session as it was the answer is the same
refused_left : (s : Session) (c : Call) {why : ℕ} {t : Session} → (why ≡ 0 → ⊥)
    → ◌≡◌ {A = Answer} (record { number = why; session = t }) (answer_of s c)
    → ◌≡◌ {A = Answer} (record { number = why; session = s }) (answer_of s c)
unfolding answer_of
refused_left s c h e = refused_as s c (ap (λ (a : Answer). a.number) e) h

-- and a call by value that passes that refusal on
pub answered_refused : (s : Session) (c : Call) (r : Result Session Refusal) (why : Refusal) (t : Session) → IsErrAnd r (λ e. e ≡ why) → left (Err why) t ≡ answer_of s c → answered s r ≡ answer_of s c
answered_refused s c (Ok u) why t h e = absurd h
answered_refused s c (Err y) why t h e = rw h (refused_left s c (refused why) e)

-- ---- a changed session: the record t of a function, by the list l that it holds

-- the standing directions
pub stood_as : (s : Session) (i n : ℕ) {l m : List Float} {t : Session} → t ≡ stood s i n l → l ≡ m → t ≡ stood s i n m
stood_as s i n f e = f ∙ ap (stood s i n) e

-- the start rows
pub with_starts_as : (s : Session) {l m : List Float} {t : Session} → t ≡ with_starts s l → l ≡ m → t ≡ with_starts s m
with_starts_as s f e = f ∙ ap (with_starts s) e

-- ---- what an accepted call makes of the session, by the standing directions l that it stored

-- The numbers are a variable, so that nothing unfolds them
restood_as : (s : Session) (i n j k : ℕ) (numbers : List Float) {l : List Float} {t : Session} → k ≡ at i j → l ≡ sets s.standing k numbers
    → t ≡ stood s i n l → t ≡ restood s i n j numbers
unfolding restood
restood_as s i n j k numbers p e f = stood_as s i n f (e ∙ ap (λ (k : ℕ). sets s.standing k numbers) p)

pub placed_as : (s : Session) (i : ℕ) (az el : Float) {x y : Float} {l : List Float} {t : Session} → x ≡ finite_or0 az → y ≡ finite_or0 el
    → l ≡ sets s.standing (at i (standing_count s i)) (x ∷ y ∷ []) → t ≡ stood s i (standing_count s i + 1) l → t ≡ accepted s (place i az el)
unfolding accepted placed
placed_as s i az el p q e f = restood_as s i (standing_count s i + 1) (standing_count s i) _ _ refl (e ∙ rw (p, q)) f

pub taken_as : (s : Session) (i : ℕ) {l : List Float} {t : Session} → l ≡ sets s.standing (at i (standing_count s i - 1)) (+0 ∷ +0 ∷ [])
    → t ≡ stood s i (standing_count s i - 1) l → t ≡ accepted s (take_back i)
unfolding accepted taken_back
taken_as s i e f = restood_as s i (standing_count s i - 1) (standing_count s i - 1) _ _ refl e f

-- settle, by whether a direction stands
pub settled_none : (s : Session) (i : ℕ) → standing_count s i ≡ 0 → s ≡ accepted s (settle i)
unfolding accepted settled
settled_none s i h = rw (eq-eqb (standing_count s i) 0 h)

settled_some : (s : Session) (i : ℕ) → (standing_count s i ≡ 0 → ⊥)
    → restood s i 1 0 (take 2 (drop (at i (standing_count s i - 1)) s.standing) ++ replicate (depth * 2 - 2) +0) ≡ accepted s (settle i)
unfolding accepted settled
settled_some s i h = rw (ne_eqb (standing_count s i) 0 h)

pub settled_as : (s : Session) (i : ℕ) {l : List Float} {t : Session} → (standing_count s i ≡ 0 → ⊥)
    → l ≡ sets s.standing (i * (depth * 2)) (take 2 (drop (at i (standing_count s i - 1)) s.standing) ++ replicate (depth * 2 - 2) +0)
    → t ≡ stood s i 1 l → t ≡ accepted s (settle i)
settled_as s i h e f =
    restood_as s i 1 0 (i * (depth * 2)) (take 2 (drop (at i (standing_count s i - 1)) s.standing) ++ replicate (depth * 2 - 2) +0) (omega arith) e f
    ∙ settled_some s i h
