-- Laws of `from`, `range` and `between`: their lengths, their elements, one number more at either end. Each goes by the count of numbers. Assumes nothing.
use Prim.Native.Nat.{ℕ, zero, suc, ◌+◌, ◌-◌, ◌≤◌, ◌<◌}
use mathlib.Core.Path.{◌≡◌, refl, sym, ap, ◌∙◌, subst}
use mathlib.Core.Logic.{inl, inr}
use mathlib.Core.List.{List, [], ◌∷◌, ◌++◌, map, map-append}
use native.Mathlib.Nat.{add-zero, eq-or-lt_of_le, sub-zero, not-suc-le-zero}
use native.Mathlib.Numerals.{add-one}
use native.Mathlib.Omega.{arith}
use lib.ListN.{length, get_or, take, drop, length-map, length-drop}
use lib.Seq.{get_or-take, get_or-drop, take-take, length-take-le, ext_get_or}
use Rattle.lists.specs.Lists.{from, range, between}

pub length_from : (a n : ℕ) → length (from a n) ≡ n
unfolding from
length_from a zero = refl
length_from a (suc n) = ap suc (length_from (suc a) n)

-- the first n of them, then the other m
pub from_append : (a n m : ℕ) → from a (n + m) ≡ from a n ++ from (a + n) m
unfolding from
from_append a zero m =
    let e : 0 + m ≡ m = omega arith in
    rw (e, add-zero)
from_append a (suc n) m =
    let e : suc n + m ≡ suc (n + m) = omega arith in
    let g : a + suc n ≡ suc a + n = omega arith in
    rw (e, g) (ap (λ (l : List ℕ). a ∷ l) (from_append (suc a) n m))

pub from_snoc : (a n : ℕ) → from a (n + 1) ≡ from a n ++ (a + n) ∷ []
unfolding from
from_snoc a n = from_append a n 1

pub get_d_from : (a n i d : ℕ) → i < n → get_or (from a n) i d ≡ a + i
unfolding from
get_d_from a zero i d h = omega arith
get_d_from a (suc n) zero d h = sym (add-zero a)
get_d_from a (suc n) (suc i) d h = get_d_from (suc a) n i d (omega arith) ∙ omega arith

-- ---- 0 .. n - 1

pub length_range : (n : ℕ) → length (range n) ≡ n
unfolding range
length_range n = length_from 0 n

pub range_none : range 0 ≡ []
unfolding range from
range_none = refl

pub range_snoc : (n : ℕ) → range (n + 1) ≡ range n ++ n ∷ []
unfolding range
range_snoc n =
    let e : 0 + n ≡ n = omega arith in
    from_snoc 0 n ∙ ap (λ (k : ℕ). from 0 n ++ k ∷ []) e

pub get_d_range : (n i d : ℕ) → i < n → get_or (range n) i d ≡ i
unfolding range
get_d_range n i d h = get_d_from 0 n i d h ∙ omega arith

-- what holds below q and at q holds below q + 1
pub below_next : {P : ℕ → Type 0} (q : ℕ) → ((p : ℕ) → p < q → P p) → P q → (p : ℕ) → p < q + 1 → P p
below_next {P} q h g p l = elim (eq-or-lt_of_le (last p q l)) [ inl e ↦ subst P (sym e) g | inr k ↦ h p k ]
  where
    last : (p q : ℕ) → p < q + 1 → p ≤ q
    last p q h = omega arith

-- ---- a .. b - 1

pub length_between : (a b : ℕ) → length (between a b) ≡ b - a
unfolding between
length_between a b = length_from a (b - a)

pub between_none : (a b : ℕ) → b ≤ a → between a b ≡ []
unfolding between from
between_none a b h =
    let e : b - a ≡ 0 = omega arith in
    rw e

pub between_snoc : (a b : ℕ) → a ≤ b → between a (b + 1) ≡ between a b ++ b ∷ []
unfolding between
between_snoc a b h =
    let e : b + 1 - a ≡ b - a + 1 = omega arith in
    let g : a + (b - a) ≡ b = omega arith in
    rw e (from_snoc a (b - a) ∙ ap (λ (k : ℕ). from a (b - a) ++ k ∷ []) g)

pub between_cons : (a b : ℕ) → a < b → between a b ≡ a ∷ between (a + 1) b
unfolding between from
between_cons a b h =
    let e : b - a ≡ suc (b - suc a) = omega arith in
    rw (add-one, e)

pub between_append : (a b c : ℕ) → a ≤ b → b ≤ c → between a c ≡ between a b ++ between b c
unfolding between
between_append a b c h g =
    let e : c - a ≡ b - a + (c - b) = omega arith in
    let f : a + (b - a) ≡ b = omega arith in
    ap (from a) e ∙ from_append a (b - a) (c - b) ∙ ap (λ (k : ℕ). from a (b - a) ++ from k (c - b)) f

pub range_between : (n : ℕ) → range n ≡ between 0 n
unfolding range between
range_between n = ap (from 0) (sym (sub-zero n))

-- ---- a list by its places

pub map_range_snoc : {A : Type 0} (f : ℕ → A) (n : ℕ) → map f (range (n + 1)) ≡ map f (range n) ++ f n ∷ []
map_range_snoc f n = ap (map f) (range_snoc n) ∙ map-append f (range n) (n ∷ [])

pub length_map_range : {A : Type 0} (f : ℕ → A) (n : ℕ) → length (map f (range n)) ≡ n
length_map_range f n = length-map (range n) f ∙ length_range n

pub get_d_map : {A B : Type 0} (f : A → B) (l : List A) (i : ℕ) (d : A) (b : B) → i < length l → get_or (map f l) i b ≡ f (get_or l i d)
get_d_map f [] i d b h = absurd (not-suc-le-zero h)
get_d_map f (a ∷ l) zero d b h = refl
get_d_map f (a ∷ l) (suc i) d b h = get_d_map f l i d b (omega arith)

pub get_d_map_range : {A : Type 0} (f : ℕ → A) (n i : ℕ) (d : A) → i < n → get_or (map f (range n)) i d ≡ f i
get_d_map_range f n i d h = get_d_map f (range n) i 0 d (omega (arith, length_range n)) ∙ ap f (get_d_range n i 0 h)

-- two lists told by their places
pub same_places : {A : Type 0} (f g : ℕ → A) (n : ℕ) → ((i : ℕ) → i < n → f i ≡ g i) → map f (range n) ≡ map g (range n)
unfolding range from
same_places f g n h = by 0 n (λ i m. h i (omega arith))
  where
    by : (a m : ℕ) → ((i : ℕ) → i < a + m → f i ≡ g i) → map f (from a m) ≡ map g (from a m)
    by a zero h = refl
    by a (suc m) h = rw (h a (omega arith), by (suc a) m (λ i k. h i (omega arith)))

-- a list by its places
pub by_places : {A : Type 0} (l : List A) (d : A) (f : ℕ → A) → ((i : ℕ) → i < length l → f i ≡ get_or l i d) → map f (range (length l)) ≡ l
by_places l d f h =
    ext_get_or d (map f (range (length l))) l (length_map_range f (length l))
    (λ i m. let p : i < length l = omega (arith, length_map_range f (length l)) in get_d_map_range f (length l) i d p ∙ h i p)

module _ {A : Type 0} (l : List A) (d : A) where
  -- the elements at the first n places are the first n elements
  pub take_places : (n : ℕ) → n ≤ length l → map (λ i. get_or l i d) (range n) ≡ take n l
  take_places n h =
      let e : length (take n l) ≡ n = length-take-le n l h in
      ap (λ (k : ℕ). map (λ i. get_or l i d) (range k)) (sym e)
      ∙ by_places (take n l) d (λ i. get_or l i d) (λ i m. sym (get_or-take n l i d (omega arith)))

  -- the first n of the elements at the first m places
  pub take_front : (m n : ℕ) → n ≤ m → m ≤ length l → take n (map (λ i. get_or l i d) (range m)) ≡ take n l
  take_front m n h g = ap (take n) (take_places m g) ∙ take-take n m l h

-- the n elements from place k on
pub drop_places : {A : Type 0} (l : List A) (d : A) (k n : ℕ) → k + n ≤ length l → take n (drop k l) ≡ map (λ i. get_or l (k + i) d) (range n)
drop_places l d k n h =
    sym (take_places (drop k l) d n (omega (arith, length-drop k l))) ∙ same_places (λ i. get_or (drop k l) i d) (λ i. get_or l (k + i) d) n (λ i m. get_or-drop k l i d)
