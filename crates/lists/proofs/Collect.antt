-- Laws of `map`, `flat_map`, `foldl`, `filter` and `collect` over `++` and over one element more, each by the first list; and how long they are. Assumes nothing.
use Prim.Native.Nat.{suc, ◌≤◌, zero-le}
use mathlib.Core.Path.{◌≡◌, refl, sym, ap, ◌∙◌}
use mathlib.Core.Bool.{Bool, true, false, cond}
use mathlib.Core.List.{List, [], ◌∷◌, ◌++◌, append_assoc, append-nil, map, map-append, flat_map, foldl, foldl-append}
use mathlib.Core.Option.{Option, none, some}
use native.Mathlib.Omega.{arith}
use lib.ListN.{length}
use Rattle.lists.specs.Lists.{filter, collect, joined}

-- ---- one element more

module _ {A B : Type 0} where
  pub map_snoc : (f : A → B) (l : List A) (a : A) → map f (l ++ a ∷ []) ≡ map f l ++ f a ∷ []
  map_snoc f l a = map-append f l (a ∷ [])

  pub foldl_snoc : (f : B → A → B) (b : B) (l : List A) (a : A) → foldl f b (l ++ a ∷ []) ≡ f (foldl f b l) a
  foldl_snoc f b l a = foldl-append f b l (a ∷ [])

  pub flat_map_append : (f : A → List B) (l m : List A) → flat_map f (l ++ m) ≡ flat_map f l ++ flat_map f m
  unfolding flat_map
  flat_map_append f [] m = refl
  flat_map_append f (a ∷ l) m = ap (λ (r : List B). f a ++ r) (flat_map_append f l m) ∙ sym (append_assoc (f a) (flat_map f l) (flat_map f m))

  pub flat_map_snoc : (f : A → List B) (l : List A) (a : A) → flat_map f (l ++ a ∷ []) ≡ flat_map f l ++ f a
  unfolding flat_map
  flat_map_snoc f l a = flat_map_append f l (a ∷ []) ∙ ap (λ (r : List B). flat_map f l ++ r) (append-nil (f a))

-- what is made of what was made before
pub flat_map_map : {A B C : Type 0} (f : B → List C) (g : A → B) (l : List A) → flat_map f (map g l) ≡ flat_map (λ a. f (g a)) l
unfolding flat_map
flat_map_map f g [] = refl
flat_map_map {A} {B} {C} f g (a ∷ l) = ap (λ (r : List C). f (g a) ++ r) (flat_map_map f g l)

-- ---- filter

module _ {A : Type 0} (f : A → Bool) where
  pub filter_append : (l m : List A) → filter f (l ++ m) ≡ filter f l ++ filter f m
  unfolding filter
  filter_append [] m = refl
  filter_append (a ∷ l) m = by (f a) (filter_append l m)
    where
      by : (b : Bool) → filter f (l ++ m) ≡ filter f l ++ filter f m
          → cond b (a ∷ filter f (l ++ m)) (filter f (l ++ m)) ≡ cond b (a ∷ filter f l) (filter f l) ++ filter f m
      by true e = ap (λ (r : List A). a ∷ r) e
      by false e = e

  module _ (l : List A) (a : A) where
    pub filter_yes : f a ≡ true → filter f (l ++ a ∷ []) ≡ filter f l ++ a ∷ []
    unfolding filter
    filter_yes e = filter_append l (a ∷ []) ∙ rw e refl

    pub filter_no : f a ≡ false → filter f (l ++ a ∷ []) ≡ filter f l
    unfolding filter
    filter_no e = filter_append l (a ∷ []) ∙ rw (e, append-nil) refl

  pub length_filter : (l : List A) → length (filter f l) ≤ length l
  unfolding filter
  length_filter [] = zero-le
  length_filter (a ∷ l) = by (f a) (length_filter l)
    where
      by : (b : Bool) → length (filter f l) ≤ length l → length (cond b (a ∷ filter f l) (filter f l)) ≤ suc (length l)
      by true h = omega arith
      by false h = omega arith

-- ---- collect

module _ {A B : Type 0} (f : A → Option B) where
  pub collect_append : (l m : List A) → collect f (l ++ m) ≡ collect f l ++ collect f m
  unfolding collect
  collect_append [] m = refl
  collect_append (a ∷ l) m = by (f a) (collect_append l m)
    where
      by : (o : Option B) → collect f (l ++ m) ≡ collect f l ++ collect f m → joined o (collect f (l ++ m)) ≡ joined o (collect f l) ++ collect f m
      by none e = e
      by (some b) e = ap (λ (r : List B). b ∷ r) e

  module _ (l : List A) (a : A) where
    pub collect_some : (b : B) → f a ≡ some b → collect f (l ++ a ∷ []) ≡ collect f l ++ b ∷ []
    unfolding collect
    collect_some b e = collect_append l (a ∷ []) ∙ rw e refl

    pub collect_none : f a ≡ none → collect f (l ++ a ∷ []) ≡ collect f l
    unfolding collect
    collect_none e = collect_append l (a ∷ []) ∙ rw (e, append-nil) refl

  pub length_collect : (l : List A) → length (collect f l) ≤ length l
  unfolding collect
  length_collect [] = zero-le
  length_collect (a ∷ l) = by (f a) (length_collect l)
    where
      by : (o : Option B) → length (collect f l) ≤ length l → length (joined o (collect f l)) ≤ suc (length l)
      by none h = omega arith
      by (some b) h = omega arith
