-- Laws of insertion: what stores in an array do, and that an insertion opens the place of its spot. Assumes nothing.
use Prim.Native.Nat.{ℕ, suc, ◌+◌, ◌-◌, ◌≤◌, ◌<◌}
use mathlib.Core.Path.{◌≡◌, refl, sym, ap, ap₂, ◌∙◌}
use mathlib.Core.Bool.{Bool, true, false, cond, ◌&&◌, and_assoc, and-true}
use mathlib.Core.List.{List, [], ◌∷◌, ◌++◌, foldl}
use native.Mathlib.Nat.{add-zero}
use native.Mathlib.Numerals.{add-one}
use native.Mathlib.Omega.{arith}
use lib.ListN.{length, get_or, take, drop, length-drop, drop_of_length-le}
use borrow.Rule.Slice.PartMut.{put_mid}
use Rattle.std.proofs.Common.{append-nil}
use Rattle.std.proofs.lemmas.List.{take-take, drop-take}
use Rattle.std.proofs.lemmas.Slice.{put_mid-paste}
use lib.Seq.{drop-cons, get_or_at, length-take-le, take_at, drop_at, take-add, take-suc, drop-drop, take_all}
use lib.Ieee.{nan, lt}
use Rattle.lists.specs.Lists.{position, every}
use Rattle.lists.proofs.Tests.{and_comm}
use Rattle.lists.proofs.Search.{position_le}
use Rattle.lists.proofs.Collect.{foldl_snoc}
use Rattle.angle_sort.specs.declared.Spot.{Spot}
use Rattle.angle_sort.specs.Order.{insert_of, sorted_of}
use Rattle.angle_sort.specs.Inner.Front.{place_of, opened_of, inserted_in, sorted_in}

-- what a read past the end would give
abbrev pub no_spot : Spot
no_spot = record { angle = nan; number = 0 }

-- ---- the part from p up to q turned by one place opens place p for spot q

module _ (a : List Spot) (p q : ℕ) (h : p ≤ q) (m : q < length a) where
  abbrev turned_part : List Spot
  turned_part = take (q + 1 - p) (drop p a)

  pub long_part : length turned_part ≡ q + 1 - p
  long_part = length-take-le (q + 1 - p) (drop p a) (omega (arith, length-drop p a))

  turned_first : drop (q - p) turned_part ≡ get_or a q no_spot ∷ []
  turned_first =
      let e : q + 1 - p ≡ q - p + 1 = omega arith in
      let f : p + (q - p) ≡ q = omega arith in
      rw (e, drop-take (q - p) 1 (drop p a), drop-drop (q - p) p a, f, drop-cons a q no_spot m) refl

  turned_rest : take (q - p) turned_part ≡ take (q - p) (drop p a)
  turned_rest = take-take (q - p) (q + 1 - p) (drop p a) (omega arith)

  pub turned_opened : {t : List Spot} → t ≡ drop (length turned_part - 1) turned_part ++ take (length turned_part - 1) turned_part
      → put_mid p (q + 1 - p) a t ≡ opened_of a p q (get_or a q no_spot)
  turned_opened e =
      let y : Spot = get_or a q no_spot in
      let n : length turned_part - 1 ≡ q - p = omega (arith, long_part) in
      let k : q + 1 - p ≡ suc (q - p) = omega arith in
      let f : p + suc (q - p) ≡ q + 1 = omega arith in
      let z : _ ≡ y ∷ take (q - p) (drop p a) = rw n at e ∙ ap₂ (λ (u v : List Spot). u ++ v) turned_first turned_rest in
      let long : suc (q - p) ≡ length (y ∷ take (q - p) (drop p a)) = ap suc (sym (length-take-le (q - p) (drop p a) (omega (arith, length-drop p a)))) in
      put_mid-paste p (q + 1 - p) a _ (y ∷ take (q - p) (drop p a)) (suc (q - p)) z (sym k) long
      ∙ rw (f, k, take-take (q - p) (q - p) (drop p a) (omega arith)) refl

-- ---- insertion

module _ (s : Spot) where
  pub place_le : (l : List Spot) → place_of s.angle l ≤ length l
  place_le l = position_le (λ t. lt s.angle t.angle) l

  pub insert_split : (l : List Spot) → insert_of l s ≡ take (place_of s.angle l) l ++ s ∷ drop (place_of s.angle l) l
  unfolding position insert_of
  insert_split [] = refl
  insert_split (t ∷ l) = by (lt s.angle t.angle) (insert_split l)
    where
      by : (b : Bool) → insert_of l s ≡ take (place_of s.angle l) l ++ s ∷ drop (place_of s.angle l) l
          → cond b (s ∷ t ∷ l) (t ∷ insert_of l s)
          ≡ take (cond b 0 (suc (place_of s.angle l))) (t ∷ l) ++ s ∷ drop (cond b 0 (suc (place_of s.angle l))) (t ∷ l)
      by true h = refl
      by false h = ap (λ (r : List Spot). t ∷ r) h

  pub length_insert : (l : List Spot) → length (insert_of l s) ≡ suc (length l)
  unfolding insert_of
  length_insert [] = refl
  length_insert (t ∷ l) = by (lt s.angle t.angle) (length_insert l)
    where
      by : (b : Bool) → length (insert_of l s) ≡ suc (length l) → length (cond b (s ∷ t ∷ l) (t ∷ insert_of l s)) ≡ suc (suc (length l))
      by true h = refl
      by false h = ap suc h

pub sorted_snoc : (l : List Spot) (s : Spot) → sorted_of (l ++ s ∷ []) ≡ insert_of (sorted_of l) s
unfolding sorted_of
sorted_snoc l s = foldl_snoc insert_of [] l s

length_folded : (l m : List Spot) → length (foldl insert_of m l) ≡ length m + length l
length_folded [] m = sym (add-zero (length m))
length_folded (s ∷ l) m = omega (arith, length_folded l (insert_of m s), length_insert s m)

pub length_sorted : (l : List Spot) → length (sorted_of l) ≡ length l
unfolding sorted_of
length_sorted l = omega (arith, length_folded l [])

-- what every spot passes, every spot of the sorted list passes
module _ (f : Spot → Bool) where
  pub every_insert : (l : List Spot) (s : Spot) → every f (insert_of l s) ≡ every f l && f s
  unfolding insert_of every
  every_insert [] s = and_comm (f s) true
  every_insert (t ∷ l) s = by (lt s.angle t.angle) (every_insert l s)
    where
      by : (b : Bool) → every f (insert_of l s) ≡ every f l && f s → every f (cond b (s ∷ t ∷ l) (t ∷ insert_of l s)) ≡ f t && every f l && f s
      by true e = and_comm (f s) (f t && every f l)
      by false e = ap (λ (b : Bool). f t && b) e ∙ sym (and_assoc (f t) (every f l) (f s))

  every_folded : (l m : List Spot) → every f (foldl insert_of m l) ≡ every f m && every f l
  unfolding every
  every_folded [] m = sym (and-true (every f m))
  every_folded (s ∷ l) m =
      every_folded l (insert_of m s) ∙ ap (λ (b : Bool). b && every f l) (every_insert m s) ∙ and_assoc (every f m) (f s) (every f l)

  pub every_sorted : (l : List Spot) → every f (sorted_of l) ≡ every f l
  unfolding sorted_of every
  every_sorted l = every_folded l []

-- the parts of a list's front
module _ (a : List Spot) (n p : ℕ) (h : p ≤ n) (fits : n ≤ length a) where
  front_split : take n a ≡ take p a ++ take (n - p) (drop p a)
  front_split = let e : n ≡ p + (n - p) = omega arith in ap (λ (k : ℕ). take k a) e ∙ take-add p (n - p) a

  long : length (take p a) ≡ p
  long = length-take-le p a (omega arith)

  take_front : take p (take n a) ≡ take p a
  take_front = ap (take p) front_split ∙ take_at (take p a) (take (n - p) (drop p a)) p long

  drop_front : drop p (take n a) ≡ take (n - p) (drop p a)
  drop_front = ap (drop p) front_split ∙ drop_at (take p a) (take (n - p) (drop p a)) p long

-- to open the place of s is to insert it
pub opened_inserted : (a : List Spot) (n : ℕ) (s : Spot) → n < length a → opened_of a (place_of s.angle (take n a)) n s ≡ inserted_in a n s
unfolding inserted_in
opened_inserted a n s h =
    let p : ℕ = place_of s.angle (take n a) in
    let q : p ≤ n = omega (arith, place_le s (take n a), length-take-le n a (omega arith)) in
    let e : n + 1 - p ≡ suc (n - p) = omega arith in
    let f : n ≤ length a = omega arith in
    rw (e, insert_split s (take n a), take_front a n p q f, drop_front a n p q f) refl

-- ---- the first q spots sorted

pub sorted_none : (a : List Spot) → a ≡ sorted_in a 0
unfolding sorted_in sorted_of
sorted_none a = refl

-- the next one to be inserted is as it was
pub sorted_next : (a : List Spot) (q : ℕ) → q < length a → get_or (sorted_in a q) q no_spot ≡ get_or a q no_spot
unfolding sorted_in
sorted_next a q h =
    let g : length (sorted_of (take q a)) ≡ q = omega (arith, length_sorted (take q a), length-take-le q a (omega arith)) in
    rw (drop-cons a q no_spot h) (get_or_at (sorted_of (take q a)) (get_or a q no_spot) (drop (suc q) a) no_spot q g)

pub sorted_more : (a : List Spot) (q : ℕ) → q < length a → inserted_in (sorted_in a q) q (get_or a q no_spot) ≡ sorted_in a (q + 1)
unfolding inserted_in sorted_in
sorted_more a q h =
    let m : List Spot = sorted_of (take q a) in
    let g : length m ≡ q = omega (arith, length_sorted (take q a), length-take-le q a (omega arith)) in
    let d : drop (q + 1) (m ++ drop q a) ≡ drop (q + 1) a =
    sym (drop-drop 1 q (m ++ drop q a)) ∙ ap (drop 1) (drop_at m (drop q a) q g) ∙ drop-drop 1 q a
    in
    let t : sorted_of (take (q + 1) a) ≡ insert_of m (get_or a q no_spot) = rw (add-one, take-suc a q no_spot) (sorted_snoc (take q a) (get_or a q no_spot)) in
    rw (take_at m (drop q a) q g, d, t) refl

-- as many places as the list has are all that it has
pub sorted_all : (a : List Spot) (q : ℕ) → length a ≤ q → sorted_in a q ≡ sorted_of a
unfolding sorted_in
sorted_all a q h = rw (take_all q a h, drop_of_length-le a h, append-nil) refl
