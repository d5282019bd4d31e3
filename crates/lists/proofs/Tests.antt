-- Laws of tests: of two Bools; of `any` and std's test of a list; of `every` and `any` over `++`, over parts of a list, by one another, and at a turn of a loop over the first n elements; of `is_empty`. Assumes nothing.
use Prim.Native.Nat.{zero, ℕ, suc, ◌+◌, ◌*◌, ◌≤◌, ◌<◌}
use mathlib.Core.Path.{◌≡◌, refl, sym, ap, ◌∙◌}
use mathlib.Core.Bool.{Bool, true, false, ◌&&◌, ◌||◌, cond, and_assoc, and-true}
use mathlib.Core.Logic.{◌⊎◌, inl, inr}
use mathlib.Core.List.{List, [], ◌∷◌, ◌++◌, map, flat_map}
use native.Mathlib.Nat.{not-suc-le-zero}
use native.Mathlib.Numerals.{add-one}
use native.Mathlib.Omega.{arith}
use lib.Dec.{eqb}
use lib.ListN.{length, get_or, take, drop, drop_of_length-le}
use lib.Seq.{drop-cons, get_or-take, length-take-le}
use borrow.Author.Tests.{ne_eqb}
use Rattle.std.specs.List.{list_any}
use Rattle.lists.specs.Lists.{every, any, is_empty, part}

-- ---- two Bools

pub or_assoc : (a b c : Bool) → a || b || c ≡ a || (b || c)
or_assoc true b c = refl
or_assoc false b c = refl

pub or_false : (a : Bool) → a || false ≡ a
or_false true = refl
or_false false = refl

pub or_true : (a : Bool) → a || true ≡ true
or_true true = refl
or_true false = refl

pub or_left : (a b : Bool) → a ≡ true → a || b ≡ true
or_left a b e = rw e

pub or_right : (a b : Bool) → b ≡ true → a || b ≡ true
or_right true b e = refl
or_right false b e = e

pub or_none : {a b : Bool} → b ≡ false → a || b ≡ a
or_none {a = true} e = refl
or_none {a = false} e = e

pub or_three : (a b c : Bool) → a || (b || (c || false)) ≡ a || b || c
or_three true b c = refl
or_three false true c = refl
or_three false false true = refl
or_three false false false = refl

pub and_false : (a b : Bool) → b ≡ false → a && b ≡ false
and_false true b e = e
and_false false b e = refl

pub and_comm : (a b : Bool) → a && b ≡ b && a
and_comm true true = refl
and_comm true false = refl
and_comm false true = refl
and_comm false false = refl

pub and_left : (a b : Bool) → a && b ≡ true → a ≡ true
and_left true b h = refl
and_left false b h = h

pub and_right : (a b : Bool) → a && b ≡ true → b ≡ true
and_right true b h = h
and_right false b h = cc

pub both : (a b : Bool) → a && b ≡ true → (a ≡ true) × (b ≡ true)
both a b h = (and_left a b h, and_right a b h)

pub and_both : {a b : Bool} → a ≡ true → b ≡ true → a && b ≡ true
and_both e g = rw e g

pub neither : (a b : Bool) → a || b ≡ false → (a ≡ false) × (b ≡ false)
neither true b h = (h, cc)
neither false b h = (refl, h)

pub either : (a b : Bool) → a || b ≡ true → (a ≡ true) ⊎ (b ≡ true)
either true b h = inl refl
either false b h = inr h

-- a choice by a test
pub cond_yes : {A : Type 0} {b : Bool} (x y : A) → b ≡ true → cond b x y ≡ x
cond_yes x y h = rw h

pub cond_no : {A : Type 0} {b : Bool} (x y : A) → b ≡ false → cond b x y ≡ y
cond_no x y h = rw h

-- ---- more elements

pub every_map : {A B : Type 0} (f : B → Bool) (g : A → B) (l : List A) → every f (map g l) ≡ every (λ a. f (g a)) l
unfolding every
every_map f g [] = refl
every_map f g (a ∷ l) = ap (λ (b : Bool). f (g a) && b) (every_map f g l)

module _ {A : Type 0} (f : A → Bool) where
  pub every_append : (l m : List A) → every f (l ++ m) ≡ every f l && every f m
  unfolding every
  every_append [] m = refl
  every_append (a ∷ l) m = ap (λ (b : Bool). f a && b) (every_append l m) ∙ sym (and_assoc (f a) (every f l) (every f m))

  pub every_snoc : (l : List A) (a : A) → every f (l ++ a ∷ []) ≡ every f l && f a
  unfolding every
  every_snoc l a = every_append l (a ∷ []) ∙ ap (λ (b : Bool). every f l && b) (and-true (f a))

  -- std's test of a list and ours are one
  pub any_is : (l : List A) → list_any f l ≡ any f l
  unfolding any
  any_is [] = refl
  any_is (a ∷ l) = ap (λ (b : Bool). f a || b) (any_is l)

  pub any_append : (l m : List A) → any f (l ++ m) ≡ any f l || any f m
  unfolding any
  any_append [] m = refl
  any_append (a ∷ l) m = ap (λ (b : Bool). f a || b) (any_append l m) ∙ sym (or_assoc (f a) (any f l) (any f m))

  pub any_snoc : (l : List A) (a : A) → any f (l ++ a ∷ []) ≡ any f l || f a
  unfolding any
  any_snoc l a = any_append l (a ∷ []) ∙ ap (λ (b : Bool). any f l || b) (or_false (f a))

  -- ---- what every element passes, each of them passes

  pub every_take : (n : ℕ) (l : List A) → every f l ≡ true → every f (take n l) ≡ true
  unfolding every
  every_take zero [] e = refl
  every_take zero (a ∷ l) e = refl
  every_take (suc n) [] e = refl
  every_take (suc n) (a ∷ l) e =
      let p = both (f a) (every f l) e in
      rw p.0 (every_take n l p.1)

  pub every_drop : (n : ℕ) (l : List A) → every f l ≡ true → every f (drop n l) ≡ true
  unfolding every
  every_drop zero [] e = refl
  every_drop zero (a ∷ l) e = e
  every_drop (suc n) [] e = refl
  every_drop (suc n) (a ∷ l) e = every_drop n l (and_right (f a) (every f l) e)

  pub every_part : (n : ℕ) (l : List A) (k : ℕ) → every f l ≡ true → every f (part n l k) ≡ true
  unfolding part
  every_part n l k e = every_take n (drop (k * n) l) (every_drop (k * n) l e)

  -- the element at a place
  pub every_at : (l : List A) (i : ℕ) (d : A) → every f l ≡ true → i < length l → f (get_or l i d) ≡ true
  unfolding every
  every_at [] i d e h = absurd (not-suc-le-zero h)
  every_at (a ∷ l) zero d e h = and_left (f a) (every f l) e
  every_at (a ∷ l) (suc i) d e h = every_at l i d (and_right (f a) (every f l) e) (omega arith)

  -- or what stands for one past the end
  pub every_get_d : (l : List A) (i : ℕ) (d : A) → f d ≡ true → every f l ≡ true → f (get_or l i d) ≡ true
  unfolding every
  every_get_d [] i d h e = h
  every_get_d (a ∷ l) zero d h e = and_left (f a) (every f l) e
  every_get_d (a ∷ l) (suc i) d h e = every_get_d l i d h (and_right (f a) (every f l) e)

  -- a test that every element passes, and one that none passes
  pub every_always : ((a : A) → f a ≡ true) → (l : List A) → every f l ≡ true
  unfolding every
  every_always h [] = refl
  every_always h (a ∷ l) = rw (h a) (every_always h l)

  pub any_never : ((a : A) → f a ≡ false) → (l : List A) → any f l ≡ false
  unfolding any
  any_never h [] = refl
  any_never h (a ∷ l) = rw (h a) (any_never h l)

-- ---- one test by another

module _ {A : Type 0} {f g : A → Bool} where
  pub every_more : ((a : A) → f a ≡ true → g a ≡ true) → (l : List A) → every f l ≡ true → every g l ≡ true
  unfolding every
  every_more h [] e = refl
  every_more h (a ∷ l) e =
      let p = both (f a) (every f l) e in
      rw (h a p.0) (every_more h l p.1)

  pub every_none : ((a : A) → f a ≡ true → g a ≡ false) → (l : List A) → every f l ≡ true → any g l ≡ false
  unfolding every any
  every_none h [] e = refl
  every_none h (a ∷ l) e =
      let p = both (f a) (every f l) e in
      rw (h a p.0) (every_none h l p.1)

-- some element of a list of lists
pub any_flat_map : {A B : Type 0} (f : B → Bool) (g : A → List B) (l : List A) → any f (flat_map g l) ≡ any (λ a. any f (g a)) l
unfolding any flat_map
any_flat_map f g [] = refl
any_flat_map f g (a ∷ l) = any_append f (g a) (flat_map g l) ∙ ap (λ (b : Bool). any f (g a) || b) (any_flat_map f g l)

-- ---- a loop that tests the first n elements of a list: one turn, and its end

module _ {A : Type 0} (l : List A) (n i : ℕ) where
  -- the first n elements from place i on
  pub front_cons : (d : A) → i < n → n ≤ length l → drop i (take n l) ≡ get_or l i d ∷ drop (i + 1) (take n l)
  front_cons d h m =
      let long : length (take n l) ≡ n = length-take-le n l m in
      rw (drop-cons (take n l) i d (omega arith), get_or-take n l i d h, add-one)

  pub front_end : n ≤ i → n ≤ length l → drop i (take n l) ≡ []
  front_end h m =
      let long : length (take n l) ≡ n = length-take-le n l m in
      drop_of_length-le (take n l) {i = i} (omega arith)

module _ {A : Type 0} (f : A → Bool) (l : List A) (n i : ℕ) where
  pub every_turn : (d : A) → i < n → n ≤ length l → every f (drop i (take n l)) ≡ f (get_or l i d) && every f (drop (i + 1) (take n l))
  unfolding every
  every_turn d h m = rw (front_cons l n i d h m)

  pub every_no : (d : A) → i < n → n ≤ length l → f (get_or l i d) ≡ false → every f (drop i (take n l)) ≡ false
  every_no d h m p = rw (every_turn d h m, p)

  pub every_yes : (d : A) → i < n → n ≤ length l → f (get_or l i d) ≡ true → every f (drop i (take n l)) ≡ every f (drop (i + 1) (take n l))
  every_yes d h m p = rw (every_turn d h m, p)

  pub every_end : n ≤ i → n ≤ length l → every f (drop i (take n l)) ≡ true
  unfolding every
  every_end h m = rw (front_end l n i h m)

  pub any_turn : (d : A) → i < n → n ≤ length l → any f (drop i (take n l)) ≡ f (get_or l i d) || any f (drop (i + 1) (take n l))
  unfolding any
  any_turn d h m = rw (front_cons l n i d h m)

  pub any_yes : (d : A) → i < n → n ≤ length l → f (get_or l i d) ≡ true → any f (drop i (take n l)) ≡ true
  any_yes d h m p = rw (any_turn d h m, p)

  pub any_no : (d : A) → i < n → n ≤ length l → f (get_or l i d) ≡ false → any f (drop i (take n l)) ≡ any f (drop (i + 1) (take n l))
  any_no d h m p = rw (any_turn d h m, p)

  pub any_end : n ≤ i → n ≤ length l → any f (drop i (take n l)) ≡ false
  unfolding any
  any_end h m = rw (front_end l n i h m)

-- ---- no element

pub empty_length : {A : Type 0} (l : List A) → is_empty l ≡ eqb (length l) 0
unfolding is_empty
empty_length [] = refl
empty_length (a ∷ l) = sym (ne_eqb (suc (length l)) 0 (λ e. omega arith))

-- the first n of an array's elements
pub none_taken : {A : Type 0} (l : List A) (n : ℕ) → n ≡ 0 → is_empty (take n l) ≡ true
unfolding is_empty
none_taken l n e = rw e

pub some_taken : {A : Type 0} (l : List A) (n : ℕ) → n ≤ length l → (n ≡ 0 → ⊥) → is_empty (take n l) ≡ false
some_taken l n fits some =
    let long : length (take n l) ≡ n = length-take-le n l fits in
    empty_length (take n l) ∙ ne_eqb (length (take n l)) 0 (λ z. some (omega arith))
