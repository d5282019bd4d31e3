-- Laws of `Each`: what the words on lists make of elements that have a property. Each goes by the list. Assumes nothing.
use Prim.Native.Nat.{ℕ, zero, suc, ◌+◌, ◌-◌, ◌*◌, ◌≤◌, ◌<◌}
use mathlib.Core.Path.{◌≡◌, subst}
use mathlib.Core.Logic.{⊎_elim}
use mathlib.Core.Bool.{Bool, true, false, cond, false≢true}
use native.Mathlib.Nat.{not-suc-le-zero}
use native.Mathlib.Omega.{arith}
use borrow.Author.Tests.{eqb-true}
use lib.Dec.{eqb}
use mathlib.Core.List.{List, [], ◌∷◌, ◌++◌, map, flat_map, foldl}
use mathlib.Core.Option.{Option, none, some}
use lib.ListN.{length, get_or, set, take, drop, replicate, length-append}
use Rattle.lists.specs.Lists.{Each, every, any, member, from, range, between, collect, joined, first_that, last, but_last, filled, part, change}
use Rattle.lists.proofs.Tests.{both, either}

module _ {A : Type 0} (P : A → Type 0) where
  pub each_all : ((a : A) → P a) → (l : List A) → Each P l
  each_all h [] = tt
  each_all h (a ∷ l) = (h a, each_all h l)

  pub each_append : (l m : List A) → Each P l → Each P m → Each P (l ++ m)
  each_append [] m h k = k
  each_append (a ∷ l) m h k = (h.0, each_append l m h.1 k)

  pub each_left : (l m : List A) → Each P (l ++ m) → Each P l
  each_left [] m h = tt
  each_left (a ∷ l) m h = (h.0, each_left l m h.1)

  pub each_right : (l m : List A) → Each P (l ++ m) → Each P m
  each_right [] m h = h
  each_right (a ∷ l) m h = each_right l m h.1

  pub each_get_d : (l : List A) (i : ℕ) (d : A) → i < length l → Each P l → P (get_or l i d)
  each_get_d [] i d h e = absurd (not-suc-le-zero h)
  each_get_d (a ∷ l) zero d h e = e.0
  each_get_d (a ∷ l) (suc i) d h e = each_get_d l i d (omega arith) e.1

  -- an element, or what a place outside gives
  pub each_or : (l : List A) (i : ℕ) (d : A) → Each P l → P d → P (get_or l i d)
  each_or [] i d h k = k
  each_or (a ∷ l) zero d h k = h.0
  each_or (a ∷ l) (suc i) d h k = each_or l i d h.1 k

  pub each_set : (l : List A) (i : ℕ) (a : A) → Each P l → (i < length l → P a) → Each P (set l i a)
  each_set [] i a h k = tt
  each_set (b ∷ l) zero a h k = (k (omega arith), h.1)
  each_set (b ∷ l) (suc i) a h k = (h.0, each_set l i a h.1 (λ g. k (omega arith)))

  pub each_change : (i : ℕ) (f : A → A) → ((a : A) → P a → P (f a)) → (l : List A) → Each P l → Each P (change i f l)
  unfolding change
  each_change i f k [] h = tt
  each_change zero f k (a ∷ l) h = (k a h.0, h.1)
  each_change (suc i) f k (a ∷ l) h = (h.0, each_change i f k l h.1)

  pub each_replicate : (n : ℕ) (z : A) → P z → Each P (replicate n z)
  each_replicate zero z h = tt
  each_replicate (suc n) z h = (h, each_replicate n z h)

  pub each_filled : (n : ℕ) (z : A) (l : List A) → P z → Each P l → Each P (filled n z l)
  unfolding filled
  each_filled n z l h k = each_append l (replicate (n - length l) z) k (each_replicate (n - length l) z h)

  pub each_take : (n : ℕ) (l : List A) → Each P l → Each P (take n l)
  each_take zero l h = tt
  each_take (suc n) [] h = tt
  each_take (suc n) (a ∷ l) h = (h.0, each_take n l h.1)

  pub each_drop : (n : ℕ) (l : List A) → Each P l → Each P (drop n l)
  each_drop zero l h = h
  each_drop (suc n) [] h = tt
  each_drop (suc n) (a ∷ l) h = each_drop n l h.1

  pub each_part : (n : ℕ) (l : List A) (k : ℕ) → Each P l → Each P (part n l k)
  unfolding part
  each_part n l k h = each_take n (drop (k * n) l) (each_drop (k * n) l h)

  pub each_last : (l : List A) (d : A) → P d → Each P l → P (last l d)
  unfolding last
  each_last [] d h e = h
  each_last (a ∷ l) d h e = each_last l a e.0 e.1

  pub each_but_last : (l : List A) → Each P l → Each P (but_last l)
  unfolding but_last
  each_but_last [] h = tt
  each_but_last (a ∷ []) h = tt
  each_but_last (a ∷ (b ∷ l)) h = (h.0, each_but_last (b ∷ l) h.1)

  pub each_first : (f : A → Bool) (l : List A) (d : A) → Each P l → P d → P (first_that f l d)
  unfolding first_that
  each_first f [] d e h = h
  each_first f (a ∷ l) d e h = by (f a) (each_first f l d e.1 h)
    where
      by : (b : Bool) → P (first_that f l d) → P (cond b a (first_that f l d))
      by true k = e.0
      by false k = k

-- what each element has, a member has
pub each_member : (P : ℕ → Type 0) (l : List ℕ) (p : ℕ) → Each P l → member p l ≡ true → P p
unfolding any
each_member P [] p h e = absurd (false≢true e)
each_member P (a ∷ l) p h e = ⊎_elim (λ g. subst P (eqb-true a p g) h.0) (each_member P l p h.1) (either (eqb a p) (member p l) e)

-- a test that every element passes
pub each_every : {A : Type 0} (f : A → Bool) (l : List A) → every f l ≡ true → Each (λ a. f a ≡ true) l
unfolding every
each_every f [] e = tt
each_every f (a ∷ l) e = let p = both (f a) (every f l) e in (p.0, each_every f l p.1)

pub each_imply : {A : Type 0} (P Q : A → Type 0) → ((a : A) → P a → Q a) → (l : List A) → Each P l → Each Q l
each_imply P Q k [] h = tt
each_imply P Q k (a ∷ l) h = (k a h.0, each_imply P Q k l h.1)

pub each_both : {A : Type 0} (P Q R : A → Type 0) → ((a : A) → P a → Q a → R a) → (l : List A) → Each P l → Each Q l → Each R l
each_both P Q R k [] h g = tt
each_both P Q R k (a ∷ l) h g = (k a h.0 g.0, each_both P Q R k l h.1 g.1)

-- ---- what is made of the elements

-- where something is made, it has the property
abbrev pub Some : {B : Type 0} → (B → Type 0) → Option B → Type 0
Some P none = Unit
Some P (some b) = P b

module _ {A B : Type 0} (P : B → Type 0) where
  pub each_map : (f : A → B) (l : List A) → Each (λ a. P (f a)) l → Each P (map f l)
  each_map f [] h = tt
  each_map f (a ∷ l) h = (h.0, each_map f l h.1)

  pub each_unmap : (f : A → B) (l : List A) → Each P (map f l) → Each (λ a. P (f a)) l
  each_unmap f [] h = tt
  each_unmap f (a ∷ l) h = (h.0, each_unmap f l h.1)

  pub each_flat_map : (f : A → List B) (l : List A) → Each (λ a. Each P (f a)) l → Each P (flat_map f l)
  unfolding flat_map
  each_flat_map f [] h = tt
  each_flat_map f (a ∷ l) h = each_append P (f a) (flat_map f l) h.0 (each_flat_map f l h.1)

  pub each_unflat : (f : A → List B) (l : List A) → Each P (flat_map f l) → Each (λ a. Each P (f a)) l
  unfolding flat_map
  each_unflat f [] h = tt
  each_unflat f (a ∷ l) h = (each_left P (f a) (flat_map f l) h, each_unflat f l (each_right P (f a) (flat_map f l) h))

  pub each_collect : (f : A → Option B) (l : List A) → Each (λ a. Some P (f a)) l → Each P (collect f l)
  unfolding collect
  each_collect f [] h = tt
  each_collect f (a ∷ l) h = by (f a) h.0 (each_collect f l h.1)
    where
      by : (o : Option B) → Some P o → Each P (collect f l) → Each P (joined o (collect f l))
      by none g k = k
      by (some b) g k = (g, k)

  -- what every step of a fold keeps
  pub foldl_keeps : (Q : A → Type 0) (f : B → A → B) → ((b : B) (a : A) → Q a → P b → P (f b a)) → (l : List A) → Each Q l → (b : B) → P b → P (foldl f b l)
  foldl_keeps Q f k [] e b h = h
  foldl_keeps Q f k (a ∷ l) e b h = foldl_keeps Q f k l e.1 (f b a) (k b a e.0 h)

  pub foldl_always : (f : B → A → B) → ((b : B) (a : A) → P b → P (f b a)) → (l : List A) (b : B) → P b → P (foldl f b l)
  foldl_always f k l b h = foldl_keeps (λ _. Unit) f (λ b a _ g. k b a g) l (each_all (λ _. Unit) (λ _. tt) l) b h

-- ---- rows of one width, one after the other

pub length_rows : {A B : Type 0} (w : ℕ) (f : A → List B) (l : List A) → Each (λ a. length (f a) ≡ w) l → length (flat_map f l) ≡ length l * w
unfolding flat_map
length_rows w f [] e = omega arith
length_rows w f (a ∷ l) e = omega (arith, length-append (f a) (flat_map f l), e.0, length_rows w f l e.1)

-- ---- ranges

module _ (P : ℕ → Type 0) where
  pub each_from : (a n : ℕ) → ((k : ℕ) → a ≤ k → k < a + n → P k) → Each P (from a n)
  unfolding from
  each_from a zero g = tt
  each_from a (suc n) g = (g a (omega arith) (omega arith), each_from (suc a) n (λ k h m. g k (omega arith) (omega arith)))

  pub each_range : (n : ℕ) → ((k : ℕ) → k < n → P k) → Each P (range n)
  unfolding range
  each_range n g = each_from 0 n (λ k h m. g k (omega arith))

  pub each_between : (a b : ℕ) → ((k : ℕ) → a ≤ k → k < b → P k) → Each P (between a b)
  unfolding between
  each_between a b g = each_from a (b - a) (λ k h m. g k h (omega arith))
