-- Laws of `every` and `position` by the places of a list, each by the list. Assumes nothing.
use Prim.Native.Nat.{ℕ, zero, suc, ◌<◌}
use mathlib.Core.Path.{◌≡◌, refl, ap}
use mathlib.Core.Bool.{Bool, true, false, cond}
use mathlib.Core.List.{List, [], ◌∷◌}
use native.Mathlib.Nat.{not-suc-le-zero}
use native.Mathlib.Omega.{arith}
use lib.ListN.{length, get_or}
use Rattle.lists.specs.Lists.{every, position}

module _ {A : Type 0} (f : A → Bool) (d : A) where
  pub every_places : (l : List A) → ((j : ℕ) → j < length l → f (get_or l j d) ≡ true) → every f l ≡ true
  unfolding every
  every_places [] h = refl
  every_places (a ∷ l) h = rw (h 0 (omega arith)) (every_places l (λ j k. h (suc j) (omega arith)))

  -- it passes, and none before does
  pub position_is : (l : List A) (i : ℕ) → i < length l → f (get_or l i d) ≡ true → ((j : ℕ) → j < i → f (get_or l j d) ≡ false) → position f l ≡ i
  unfolding position
  position_is [] i h e b = absurd (not-suc-le-zero h)
  position_is (a ∷ l) zero h e b = rw e refl
  position_is (a ∷ l) (suc i) h e b = rw (b 0 (omega arith)) (ap suc (position_is l i (omega arith) e (λ j k. b (suc j) (omega arith))))

  pub position_none : (l : List A) → ((j : ℕ) → j < length l → f (get_or l j d) ≡ false) → position f l ≡ length l
  unfolding position
  position_none [] b = refl
  position_none (a ∷ l) b = rw (b 0 (omega arith)) (ap suc (position_none l (λ j k. b (suc j) (omega arith))))

  pub position_at : (l : List A) → position f l < length l → f (get_or l (position f l) d) ≡ true
  unfolding position
  position_at [] h = absurd (not-suc-le-zero h)
  position_at (a ∷ l) h = by (f a) refl h (position_at l)
    where
      by : (q : Bool) → f a ≡ q → cond q 0 (suc (position f l)) < suc (length l) → (position f l < length l → f (get_or l (position f l) d) ≡ true) → f (get_or (a ∷ l) (cond q 0 (suc (position f l))) d) ≡ true
      by true e h k = e
      by false e h k = k (omega arith)

  pub position_before : (l : List A) (j : ℕ) → j < position f l → f (get_or l j d) ≡ false
  unfolding position
  position_before [] j h = absurd (not-suc-le-zero h)
  position_before (a ∷ l) j h = by (f a) refl j h (position_before l)
    where
      by : (q : Bool) → f a ≡ q → (j : ℕ) → j < cond q 0 (suc (position f l)) → ((i : ℕ) → i < position f l → f (get_or l i d) ≡ false) → f (get_or (a ∷ l) j d) ≡ false
      by true e j h k = absurd (not-suc-le-zero h)
      by false e zero h k = e
      by false e (suc j) h k = k j (omega arith)
