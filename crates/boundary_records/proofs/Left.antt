-- The sessions of a list of directions that are placed and taken back. Assumes nothing.
use Prim.Native.Nat.{ℕ}
use mathlib.Core.Path.{◌≡◌, refl, sym}
use mathlib.Core.Logic.{◌⊎◌, inl, inr}
use mathlib.Core.List.{List, [], ◌∷◌}
use borrow.Author.Tests.{eq-eqb, ne_eqb}
use lib.Ieee.{Float}
use Rattle.session_history.specs.Calls.{place, take_back}
use Rattle.session_calls.specs.declared.Session.{Session}
use Rattle.session_calls.specs.Answers.{Answer, answer_of}
use Rattle.boundary_records.specs.Sessions.{place_take_back}

module _ (s : Session) (i : ℕ) {az el az' el' : List Float} {a e : Float} (both : (az ≡ a ∷ az') × (el ≡ e ∷ el')) (p : Answer) (placed : p ≡ answer_of s (place i a e)) where
  pub place_refused : (p.number ≡ 0 → ⊥) → place_take_back s i az el ≡ p
  unfolding place_take_back
  place_refused n = rw (both.0, both.1, ← placed, ne_eqb p.number 0 n)

  module _ (t : Answer) (back : t ≡ answer_of p.session (take_back i)) (z : p.number ≡ 0) where
    pub take_refused : (t.number ≡ 0 → ⊥) → place_take_back s i az el ≡ t
    unfolding place_take_back
    take_refused n = rw (both.0, both.1, ← placed, ← back, eq-eqb p.number 0 z, ne_eqb t.number 0 n)

    pub both_accepted : t.number ≡ 0 → place_take_back s i az el ≡ place_take_back t.session i az' el'
    unfolding place_take_back
    both_accepted n = rw (both.0, both.1, ← placed, ← back, eq-eqb p.number 0 z, eq-eqb t.number 0 n)

module _ (s : Session) (i : ℕ) where
  abbrev done : Answer
  done = record { number = 0; session = s }

  no_elevation : (l : List Float) → place_take_back s i l [] ≡ done
  unfolding place_take_back
  no_elevation [] = refl
  no_elevation (a ∷ l) = refl

  pub none_left : (az el : List Float) → (az ≡ []) ⊎ (el ≡ []) → ◌≡◌ {A = Answer} (record { number = 0; session = s }) (place_take_back s i az el)
  unfolding place_take_back
  none_left az el (inl e) = rw e refl
  none_left az el (inr e) = rw e (sym (no_elevation az))
