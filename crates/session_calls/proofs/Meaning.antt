-- No call makes a session that is refused with 11: each test of `malformed_session` by itself. Assumes nothing.
use Prim.Native.Nat.{ℕ, zero, suc, ◌+◌, ◌-◌, ◌≤◌, ◌<◌}
use mathlib.Core.Path.{◌≡◌, refl}
use mathlib.Core.Bool.{Bool, true, false, cond}
use mathlib.Core.List.{List, [], ◌∷◌}
use native.Mathlib.Omega.{arith}
use borrow.Author.Tests.{eqb-true, le-ltb}
use lib.Dec.{eqb, ltb}
use lib.Ieee.{Float}
use lib.ListN.{set}
use Rattle.lists.specs.Lists.{any}
use Rattle.lists.proofs.Tests.{neither}
use Rattle.session_history.specs.Calls.{Call, place, take_back, settle, render}
use Rattle.session_history.specs.History.{depth}
use Rattle.session_calls.specs.Session.{malformed_session, standing_count, number_of, restood, placed, taken_back, settled, rendered, accepted, after}
use Rattle.session_calls.specs.Meaning.{CallsKeepFormed}
use Rattle.session_calls.specs.declared.Session.{Session}
use Rattle.session_calls.proofs.Refusals.{Formed, formed, formed_is, none_at, place_passed}

none_set : (b : ℕ) (l : List ℕ) (i n : ℕ) → n ≤ b → any (λ k. ltb b k) l ≡ false → any (λ k. ltb b k) (set l i n) ≡ false
unfolding any
none_set b [] i n h e = refl
none_set b (k ∷ l) zero n h e = rw (le-ltb b n h) (neither (ltb b k) (any (λ k. ltb b k) l) e).1
none_set b (k ∷ l) (suc i) n h e =
    let p = neither (ltb b k) (any (λ k. ltb b k) l) e in
    rw p.0 (none_set b l i n h p.1)

module _ (s : Session) (f : Formed s) where
  restood_formed : (i n j : ℕ) (numbers : List Float) → n ≤ depth → Formed (restood s i n j numbers)
  unfolding restood
  restood_formed i n j numbers h = record { panner = f.panner; some = f.some; few = f.few; counts = none_set depth s.counts i n h f.counts }

  settled_formed : (b : Bool) (i : ℕ) (numbers : List Float) → Formed (cond b s (restood s i 1 0 numbers))
  settled_formed true i numbers = f
  settled_formed false i numbers = restood_formed i 1 0 numbers (omega arith)

  accepted_formed : (c : Call) → number_of s c ≡ 0 → Formed (accepted s c)
  unfolding accepted placed taken_back settled rendered
  accepted_formed (place i az el) z =
      let h : standing_count s i < depth = (place_passed s i az el z).1 in
      restood_formed i (standing_count s i + 1) _ _ (omega arith)
  accepted_formed (take_back i) z = restood_formed i (standing_count s i - 1) _ _ (omega (arith, none_at depth s.counts i f.counts))
  accepted_formed (settle i) z = settled_formed (eqb (standing_count s i) 0) i _
  accepted_formed (render L samples outputs) z = record { panner = f.panner; some = f.some; few = f.few; counts = f.counts }

pub calls_keep_formed : CallsKeepFormed
unfolding after
calls_keep_formed s c e = by (eqb (number_of s c) 0) refl
  where
    by : (b : Bool) → eqb (number_of s c) 0 ≡ b → malformed_session (cond b (accepted s c) s) ≡ false
    by true z = formed_is (accepted s c) (accepted_formed s (formed s e) c (eqb-true (number_of s c) 0 z))
    by false z = e
