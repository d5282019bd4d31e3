-- Laws of `first_that` and `position` at a turn of a loop over the first n elements: here, one on, and at the end. Assumes nothing.
use Prim.Native.Nat.{ℕ, suc, ◌+◌, ◌≤◌, ◌<◌, zero-le}
use mathlib.Core.Path.{◌≡◌}
use mathlib.Core.Bool.{Bool, true, false, cond}
use mathlib.Core.List.{List, [], ◌∷◌}
use native.Mathlib.Omega.{arith}
use lib.ListN.{length, get_or, take, drop}
use Rattle.lists.specs.Lists.{first_that, position}
use Rattle.lists.proofs.Tests.{front_cons, front_end}

module _ {A : Type 0} (f : A → Bool) (l : List A) (n p : ℕ) where
  module _ (d : A) (h : p < n) (fits : n ≤ length l) where
    pub position_here : f (get_or l p d) ≡ true → position f (drop p (take n l)) ≡ 0
    unfolding position
    position_here e = rw (front_cons l n p d h fits, e)

    pub position_on : f (get_or l p d) ≡ false → position f (drop p (take n l)) ≡ suc (position f (drop (p + 1) (take n l)))
    unfolding position
    position_on e = rw (front_cons l n p d h fits, e)

    pub first_here : (r : A) → f (get_or l p d) ≡ true → first_that f (drop p (take n l)) r ≡ get_or l p d
    unfolding first_that
    first_here r e = rw (front_cons l n p d h fits, e)

    pub first_on : (r : A) → f (get_or l p d) ≡ false → first_that f (drop p (take n l)) r ≡ first_that f (drop (p + 1) (take n l)) r
    unfolding first_that
    first_on r e = rw (front_cons l n p d h fits, e)

  pub position_end : n ≤ p → n ≤ length l → position f (drop p (take n l)) ≡ 0
  unfolding position
  position_end h m = rw (front_end l n p h m)

  pub first_end : (r : A) → n ≤ p → n ≤ length l → first_that f (drop p (take n l)) r ≡ r
  unfolding first_that
  first_end r h m = rw (front_end l n p h m)

module _ {A : Type 0} (f : A → Bool) where
  pub position_le : (l : List A) → position f l ≤ length l
  unfolding position
  position_le [] = zero-le
  position_le (a ∷ l) = by (f a) (position_le l)
    where
      by : (b : Bool) → position f l ≤ length l → cond b 0 (suc (position f l)) ≤ suc (length l)
      by true h = omega arith
      by false h = omega arith
