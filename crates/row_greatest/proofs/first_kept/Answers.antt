-- `row_greatest::first_kept` meets its contract: the numbers before the place that is found are passed, the first of them by eights. Assumes nothing.
use Rattle.std.proofs.Common.{ℕ, ◌≡◌, ◌+◌, ◌-◌, ◌≤◌, ◌<◌, Bool, true, false, length, get_or, drop, List, Option, Some, None, unwrap_or, refl, sym, ap, ◌∙◌, arith, rules}
use borrow.Author.Tests.{tests, ltb-true, ltb-false}
use lib.Dec.{ltb}
use lib.Ieee.{Float, nan}
use Prim.Native.Nat.{zero-le}
use Rattle.std.specs.List.{AllWithin, HoldsAt}
use Rattle.std.specs.Option.{MatchOption, IsSomeAnd}
use Rattle.std.proofs.lemmas.List.{take_rest, get_or-drop, length-drop}
use Rattle.std.proofs.lemmas.Iterator.{YieldsList-from_slice, IsFirst-from_position}
use Rattle.row_greatest.specs.Inner.Steps.{passed, AllPassed, FirstKept}
use Rattle.row_greatest.proofs.first_kept.Goals as goal

-- the closure's answer, in the Option
some_is : {P : ℕ → Type 0} (r : Option ℕ) (n : ℕ) → ((y : ℕ) → P y → y ≡ n) → IsSomeAnd r P → r ≡ Some n
some_is (Some y) n f p = ap Some (f y p)
some_is None n f p = absurd p

each_some : {Q R : ℕ → Type 0} (o r : Option ℕ) → ((i : ℕ) → Q i → R i) → MatchOption o (r ≡ None) Q → MatchOption o (r ≡ None) R
each_some (Some i) r f m = f i m
each_some None r f m = m

module _ (g : Float) (l : List Float) (t : ℕ) (h : t ≤ length l) (before : AllPassed g l 0 t) where
  -- with the first numbers of those from t on
  passed_to : (i : ℕ) → AllWithin (λ x. passed g x ≡ true) (drop t l) 0 i → AllPassed g l 0 (t + i)
  passed_to i p j a b = by (ltb j t) refl
    where
      by : (q : Bool) → ltb j t ≡ q → passed g (get_or l j nan) ≡ true
      by true e = before j a (ltb-true j t e)
      by false e =
          let f : t + (j - t) ≡ j = omega (arith, ltb-false j t e) in
          let n : j - t < i = omega (arith, ltb-false j t e) in
          ap (λ (k : ℕ). passed g (get_or l k nan)) (sym f) ∙ ap (passed g) (sym (get_or-drop t l (j - t) nan)) ∙ p (j - t) nan zero-le n

  kept : (o r : Option ℕ)
      → MatchOption o (AllWithin (λ x. passed g x ≡ true) (drop t l) 0 (length (drop t l))) (λ i. (i < length (drop t l)) × HoldsAt (λ x. passed g x ≡ false) (drop t l) i × AllWithin (λ x. passed g x ≡ true) (drop t l) 0 i)
      → MatchOption o (r ≡ None) (λ i. r ≡ Some (t + i)) → FirstKept g l (length l) (unwrap_or r (length l))
  kept None r m e =
      let f : t + length (drop t l) ≡ length l = omega (arith, length-drop t l) in
      rw e (record { within = omega arith; before = rw f at (passed_to (length (drop t l)) m); kept = λ k. absurd (omega arith) })
  kept (Some i) r m e =
      rw e (record { within = omega (arith, m.0, length-drop t l); before = passed_to i m.2; kept = λ k. ap (passed g) (sym (get_or-drop t l i nan)) ∙ m.1 nan })

pub returns : goal.returns
returns c =
    let g = c.args.g in
    let t = c.skipped-t.result in
    let first = IsFirst-from_position _ _ _ (λ x. passed g x ≡ false) (λ x. passed g x ≡ true) c.position-found.ensures.ran (YieldsList-from_slice (drop t c.args.l.now) (c.iter.ensures.rest ∙ take_rest c.args.l.now t)) (λ x q k. search (rules, tests)) (λ x q k. search (rules, tests)) in
    kept g c.args.l.now t c.skipped-t.ensures.0 c.skipped-t.ensures.1 c.position-found.result c.map.result first
    (each_some c.position-found.result c.map.result (λ i. some_is c.map.result (t + i) (λ y k. search rules)) c.map.ensures.cases)
