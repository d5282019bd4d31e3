-- A direction placed and taken back: the count comes back, and +0 into the two places that held it. Assumes nothing.
use Prim.Native.Nat.{ℕ, suc, ◌+◌, ◌-◌, ◌*◌, ◌<◌}
use mathlib.Core.Path.{◌≡◌, refl, ap, ◌∙◌}
use mathlib.Core.List.{[], ◌∷◌}
use native.Mathlib.Omega.{arith}
use borrow.Author.Tests.{ne_eqb}
use lib.ListN.{length, get_or}
use lib.Seq.{sets, get_or-set_same, set-set, set-get_or}
use lib.Ieee.{Float}
use Rattle.float_order.specs.Values.{+0}
use Rattle.row_gains.specs.Gains.{finite_or0}
use Rattle.session_history.specs.Calls.{place, take_back}
use Rattle.session_history.specs.History.{depth}
use Rattle.session_calls.specs.declared.Session.{Session}
use Rattle.session_calls.specs.Session.{standing_count, number_of, at, stood, restood, placed, taken_back, accepted, after, after_all}
use Rattle.session_calls.proofs.Refusals.{Passed, place_passed, take_own}
use Rattle.session_calls.proofs.Meaning.{calls_keep_formed}
use Rattle.theorem_take_back.specs.Instances.{PlacedBack}
use Rattle.theorem_take_back.proofs.Fields.{stood_same}
use Rattle.lists.proofs.Rows.{sets_back}

module _ (s : Session) (i : ℕ) (az el : Float) (z : number_of s (place i az el) ≡ 0) (h : i < length s.counts) where
  abbrev n : ℕ
  n = standing_count s i

  abbrev t : Session
  t = placed s i az el

  placed_first : after s (place i az el) ≡ t
  unfolding after accepted
  placed_first = rw z

  count_placed : standing_count t i ≡ n + 1
  unfolding placed restood
  count_placed = get_or-set_same s.counts i (n + 1) 0 h

  passed_again : Passed t i
  unfolding placed restood
  passed_again =
      let p = place_passed s i az el z in
      record {
        formed = rw placed_first at (calls_keep_formed s (place i az el) p.0.formed);
        low = p.0.low;
        source = p.0.source;
        few = omega (arith, p.1, count_placed);
      }

  taken_number : number_of t (take_back i) ≡ 0
  taken_number = take_own t i passed_again ∙ rw (count_placed, ne_eqb (n + 1) 0 (λ e. omega arith))

  taken_second : after t (take_back i) ≡ taken_back t i
  unfolding after accepted
  taken_second = rw taken_number

  taken_count : taken_back t i ≡ stood t i n (sets t.standing (i * (depth * 2) + n * 2) (+0 ∷ +0 ∷ []))
  unfolding taken_back restood
  taken_count =
      let e : n + 1 - 1 ≡ n = omega arith in
      ap (λ (m : ℕ). restood t i (m - 1) (m - 1) (+0 ∷ +0 ∷ [])) count_placed ∙ ap (λ (m : ℕ). restood t i m m (+0 ∷ +0 ∷ [])) e

  as_before : get_or s.standing (at i n) +0 ≡ +0 → get_or s.standing (suc (at i n)) +0 ≡ +0
      → stood t i n (sets t.standing (i * (depth * 2) + n * 2) (+0 ∷ +0 ∷ [])) ≡ s
  unfolding placed restood
  as_before f g =
      stood_same t s (record { panner = refl; sources = refl }) i n (sets t.standing (i * (depth * 2) + n * 2) (+0 ∷ +0 ∷ []))
      (set-set s.counts i (n + 1) n ∙ set-get_or s.counts i 0)
      (rw (f, g) at (sets_back s.standing (at i n) (finite_or0 az) (finite_or0 el) +0))
      refl

pub placed_back : PlacedBack
unfolding after_all
placed_back s i az el z h f g =
    ap (λ (x : Session). after x (take_back i)) (placed_first s i az el z h) ∙ taken_second s i az el z h ∙ taken_count s i az el z h ∙ as_before s i az el z h f g
