-- Laws of `last`, `but_last`, `change` and of what is left of a list, each by the list. Assumes nothing.
use Prim.Native.Nat.{ℕ, zero, suc, ◌+◌, ◌-◌, ◌<◌}
use mathlib.Core.Path.{◌≡◌, refl, sym, ap, ◌∙◌}
use mathlib.Core.List.{List, [], ◌∷◌, ◌++◌}
use native.Mathlib.Nat.{not-suc-le-zero}
use native.Mathlib.Numerals.{add-one}
use native.Mathlib.Omega.{arith}
use lib.ListN.{length, get_or, set, drop}
use lib.Seq.{drop-cons}
use Rattle.lists.specs.Lists.{last, but_last, change}

module _ {A : Type 0} where
  -- what is left of a list, its first element apart
  pub drop_next : (l : List A) (k : ℕ) (d : A) → k < length l → drop k l ≡ get_or l k d ∷ drop (k + 1) l
  drop_next l k d h = drop-cons l k d h ∙ ap (λ (n : ℕ). get_or l k d ∷ drop n l) (sym (add-one k))

  pub but_last_snoc : (l : List A) (a : A) → but_last (l ++ a ∷ []) ≡ l
  unfolding but_last
  but_last_snoc [] a = refl
  but_last_snoc (b ∷ []) a = refl
  but_last_snoc (b ∷ (c ∷ l)) a = ap (λ (r : List A). b ∷ r) (but_last_snoc (c ∷ l) a)

  -- the last of a list stands at its last place
  pub last_at : (l : List A) (d e : A) → 0 < length l → last l d ≡ get_or l (length l - 1) e
  unfolding last
  last_at [] d e h = absurd (not-suc-le-zero h)
  last_at (a ∷ []) d e h = refl
  last_at (a ∷ (b ∷ l)) d e h =
      let g : length (a ∷ b ∷ l) - 1 ≡ suc (length (b ∷ l) - 1) = omega arith in
      rw g (last_at (b ∷ l) a e (omega arith))

  pub length_change : (i : ℕ) (f : A → A) (l : List A) → length (change i f l) ≡ length l
  unfolding change
  length_change i f [] = refl
  length_change zero f (a ∷ l) = refl
  length_change (suc i) f (a ∷ l) = ap suc (length_change i f l)

  -- a change is a store of what is made from the element there
  pub change_set : (i : ℕ) (f : A → A) (l : List A) (d : A) → i < length l → change i f l ≡ set l i (f (get_or l i d))
  unfolding change
  change_set i f [] d h = refl
  change_set zero f (a ∷ l) d h = refl
  change_set (suc i) f (a ∷ l) d h = ap (λ (r : List A). a ∷ r) (change_set i f l d (omega arith))
