-- The number of a render, by its tests; and what a render that is not refused has shown. Assumes nothing.
use Prim.Native.Nat.{ℕ, ◌*◌, ◌≤◌}
use mathlib.Core.Path.{◌≡◌, refl, ◌∙◌}
use mathlib.Core.Bool.{Bool, true, false, not, cond}
use mathlib.Core.List.{List}
use native.Mathlib.Omega.{arith}
use borrow.Author.Tests.{ltb-false, eqb-true, eqb-false}
use lib.Dec.{eqb, ltb}
use lib.ListN.{length}
use lib.Ieee.{Float}
use Rattle.mix_block.specs.Limits.{row_places}
use Rattle.session_history.specs.Calls.{render}
use Rattle.session_history.specs.History.{longest_block}
use Rattle.layout_record.proofs.Counts.{within}
use Rattle.layout_record.specs.Malformed.{counts_over, numbers_out, malformed_of}
use Rattle.lists.proofs.Tests.{neither}
use Rattle.session_calls.specs.Session.{malformed_session, number_of}
use Rattle.session_calls.specs.declared.Session.{Session}
use Rattle.session_calls.proofs.Refusals.{formed}

-- ---- what a session that is not malformed has shown

pub outputs_low : (s : Session) → malformed_session s ≡ false → s.panner.num_outputs ≤ row_places
unfolding malformed_of
outputs_low s m = (within s.panner (neither (counts_over s.panner) (numbers_out s.panner) (formed s m).panner).0).outputs

-- ---- the number

module _ (s : Session) (L : ℕ) (samples outputs : List Float) where
  -- the tests, all at once
  pub number_is : {w a b c d : Bool}
      → malformed_session s ≡ w → eqb L 0 ≡ a → ltb longest_block L ≡ b → eqb (length samples) (s.sources * L) ≡ c → eqb (length outputs) (s.panner.num_outputs * L) ≡ d
      → number_of s (render L samples outputs) ≡ cond w 11 (cond a 8 (cond b 8 (cond (not c) 9 (cond (not d) 10 0))))
  unfolding number_of
  number_is p q r t u = rw (p, q, r, t, u)

  -- a length that is not 1 to the longest
  pub number_length : malformed_session s ≡ false → (1 ≤ L → L ≤ longest_block → ⊥) → number_of s (render L samples outputs) ≡ 8
  number_length m h = number_is m refl refl refl refl ∙ by _ (eqb L 0) (ltb longest_block L) refl refl
    where
      by : (n : ℕ) (a b : Bool) → eqb L 0 ≡ a → ltb longest_block L ≡ b → ◌≡◌ {A = ℕ} (cond a 8 (cond b 8 n)) 8
      by n true b p q = refl
      by n false true p q = refl
      by n false false p q =
          let z = eqb-false L 0 p in
          absurd (h (omega arith) (ltb-false longest_block L q))

pub record Admitted (s : Session) (L : ℕ) (samples outputs : List Float) : Type 0 where
  pub formed : malformed_session s ≡ false
  pub short : L ≤ longest_block
  pub sampled : length samples ≡ s.sources * L
  pub lent : length outputs ≡ s.panner.num_outputs * L

module _ (s : Session) (L : ℕ) (samples outputs : List Float) where
  tests_passed : (w a b c d : Bool)
      → malformed_session s ≡ w → ltb longest_block L ≡ b → eqb (length samples) (s.sources * L) ≡ c → eqb (length outputs) (s.panner.num_outputs * L) ≡ d
      → ◌≡◌ {A = ℕ} (cond w 11 (cond a 8 (cond b 8 (cond (not c) 9 (cond (not d) 10 0))))) 0 → Admitted s L samples outputs
  tests_passed false false false true true p q r t e =
      record { formed = p; short = ltb-false _ _ q; sampled = eqb-true _ _ r; lent = eqb-true _ _ t }
  tests_passed false false false true false p q r t e = absurd (omega arith)
  tests_passed false false false false d p q r t e = absurd (omega arith)
  tests_passed false false true c d p q r t e = absurd (omega arith)
  tests_passed false true b c d p q r t e = absurd (omega arith)
  tests_passed true a b c d p q r t e = absurd (omega arith)

  pub admitted : number_of s (render L samples outputs) ≡ 0 → Admitted s L samples outputs
  unfolding number_of
  admitted e = tests_passed _ (eqb L 0) _ _ _ refl refl refl refl e
