-- Laws of members and of lists that hold each element once: a member by its place, by a test and by a filter; lists with the same members. Each goes by the list. Assumes nothing.
use Prim.Native.Nat.{ℕ, zero, suc, ◌+◌, ◌-◌, ◌≤◌, ◌<◌}
use mathlib.Core.Path.{◌≡◌, refl, sym, ap, ◌∙◌, subst}
use mathlib.Core.Logic.{◌⊎◌, inl, inr, ⊎_elim}
use mathlib.Core.Bool.{Bool, true, false, ◌||◌, cond, false≢true}
use mathlib.Core.List.Memᴰ
use mathlib.Core.List.Permᴰ
use mathlib.Core.List.{List, [], ◌∷◌, ◌++◌, map, Memᴰ, Permᴰ}
use native.Mathlib.Nat.{not-suc-le-zero}
use native.Mathlib.Omega.{arith}
use borrow.Author.Tests.{eqb-true, eq-eqb, ne_eqb}
use lib.Dec.{eqb}
use lib.ListN.{length, get_or, length-append}
use Rattle.lists.specs.Lists.{Each, Once, from, range, filter, every, any, member, is_empty, position}
use Rattle.lists.proofs.Tests.{either, both, neither, or_right, any_snoc}
use Rattle.lists.proofs.Ranges.{length_from, get_d_from}
use Rattle.lists.proofs.Each.{each_imply}

-- ---- a member by its place

module _ {A : Type 0} where
  pub mem_get_d : (l : List A) (p : ℕ) (d : A) → p < length l → Memᴰ (get_or l p d) l
  mem_get_d [] p d h = absurd (not-suc-le-zero h)
  mem_get_d (a ∷ l) zero d h = Memᴰ.head refl
  mem_get_d (a ∷ l) (suc p) d h = Memᴰ.tail (mem_get_d l p d (omega arith))

  pub mem_place : (l : List A) (d : A) {a : A} → Memᴰ a l → (p : ℕ) × (p < length l) × (get_or l p d ≡ a)
  mem_place [] d m = absurd (Memᴰ.not-nil m)
  mem_place (b ∷ l) d {a} m = by (λ i. mem_place l d i) (Memᴰ.cases_cons m)
    where
      by : (Memᴰ a l → (p : ℕ) × (p < length l) × (get_or l p d ≡ a)) → (a ≡ b) ⊎ Memᴰ a l → (p : ℕ) × (p < suc (length l)) × (get_or (b ∷ l) p d ≡ a)
      by rest (inl e) = (0, omega arith, sym e)
      by rest (inr i) = let r = rest i in (suc r.0, omega (arith, r.1), r.2)

  -- a test that every element passes, by the members
  pub every_mem : (f : A → Bool) (l : List A) {a : A} → every f l ≡ true → Memᴰ a l → f a ≡ true
  unfolding every
  every_mem f [] e m = absurd (Memᴰ.not-nil m)
  every_mem f (b ∷ l) {a} e m =
      let p = both (f b) (every f l) e in
      ⊎_elim (λ (g : a ≡ b). ap f g ∙ p.0) (λ (i : Memᴰ a l). every_mem f l p.1 i) (Memᴰ.cases_cons m)

  pub mem_every : (f : A → Bool) (l : List A) → ((a : A) → Memᴰ a l → f a ≡ true) → every f l ≡ true
  unfolding every
  mem_every f [] h = refl
  mem_every f (a ∷ l) h = rw (h a (Memᴰ.head refl)) (mem_every f l (λ b i. h b (Memᴰ.tail i)))

  pub every_fails : (f : A → Bool) (l : List A) {a : A} → Memᴰ a l → f a ≡ false → every f l ≡ false
  every_fails f l m e = by (every f l) refl
    where
      by : (b : Bool) → every f l ≡ b → b ≡ false
      by true g = sym (every_mem f l g m) ∙ e
      by false g = refl

  pub mem_some : (l : List A) {a : A} → Memᴰ a l → is_empty l ≡ false
  unfolding is_empty
  mem_some [] m = absurd (Memᴰ.not-nil m)
  mem_some (b ∷ l) m = refl

-- ---- a number by the test

pub member_mem : (p : ℕ) (l : List ℕ) → member p l ≡ true → Memᴰ p l
unfolding any
member_mem p [] e = absurd (false≢true e)
member_mem p (a ∷ l) e = ⊎_elim (λ g. Memᴰ.head (sym (eqb-true a p g))) (λ g. Memᴰ.tail (member_mem p l g)) (either (eqb a p) (member p l) e)

pub mem_member : (p : ℕ) (l : List ℕ) → Memᴰ p l → member p l ≡ true
unfolding any
mem_member p [] m = absurd (Memᴰ.not-nil m)
mem_member p (a ∷ l) m = by (eqb a p) refl (λ i. mem_member p l i) (Memᴰ.cases_cons m)
  where
    by : (b : Bool) → eqb a p ≡ b → (Memᴰ p l → member p l ≡ true) → (p ≡ a) ⊎ Memᴰ p l → any (λ q. eqb q p) (a ∷ l) ≡ true
    by true e rest i = rw e
    by false e rest (inl g) = let z = eq-eqb a p (sym g) in absurd (false≢true (sym e ∙ z))
    by false e rest (inr i) = rw e (rest i)

pub not_member : (p : ℕ) (l : List ℕ) → member p l ≡ false → Memᴰ p l → ⊥
not_member p l e m = false≢true (sym e ∙ mem_member p l m)

pub member_here : (p : ℕ) (l : List ℕ) → member p (p ∷ l) ≡ true
member_here p l = mem_member p (p ∷ l) (Memᴰ.head refl)

pub member_snoc : (p : ℕ) (l : List ℕ) (a : ℕ) → member p (l ++ a ∷ []) ≡ member p l || eqb a p
member_snoc p l a = any_snoc (λ q. eqb q p) l a

-- a list's own elements
pub member_self : (l : List ℕ) → Each (λ p. member p l ≡ true) l
unfolding any
member_self [] = tt
member_self (a ∷ l) = (member_here a l, each_imply (λ p. member p l ≡ true) (λ p. member p (a ∷ l) ≡ true) (λ p e. or_right (eqb a p) (member p l) e) l (member_self l))

-- elements that all differ from p
pub none_member : (p : ℕ) (l : List ℕ) → member p l ≡ false → Each (λ q. eqb q p ≡ false) l
unfolding any
none_member p [] e = tt
none_member p (a ∷ l) e = let g = neither (eqb a p) (member p l) e in (g.0, none_member p l g.1)

pub member_none : (p : ℕ) (l : List ℕ) → Each (λ q. eqb q p ≡ false) l → member p l ≡ false
unfolding any
member_none p [] h = refl
member_none p (a ∷ l) h = rw h.0 (member_none p l h.1)

pub mem_from : (a n p : ℕ) → a ≤ p → p < a + n → Memᴰ p (from a n)
mem_from a n p l h =
    let e : p ≡ a + (p - a) = omega arith in
    Memᴰ.cast (e ∙ sym (get_d_from a n (p - a) 0 (omega arith))) (mem_get_d (from a n) (p - a) 0 (omega (arith, length_from a n)))

pub mem_range : (n p : ℕ) → p < n → Memᴰ p (range n)
unfolding range
mem_range n p h = mem_from 0 n p (omega arith) (omega arith)

-- ---- filter

module _ {A : Type 0} (f : A → Bool) where
  pub mem_filter : (l : List A) {a : A} → Memᴰ a (filter f l) → Memᴰ a l × (f a ≡ true)
  unfolding filter
  mem_filter [] m = absurd (Memᴰ.not-nil m)
  mem_filter (b ∷ l) {a} m = by (f b) refl (λ i. mem_filter l i) m
    where
      by : (t : Bool) → f b ≡ t → (Memᴰ a (filter f l) → Memᴰ a l × (f a ≡ true)) → Memᴰ a (cond t (b ∷ filter f l) (filter f l)) → Memᴰ a (b ∷ l) × (f a ≡ true)
      by true e rest i =
          ⊎_elim (λ (g : a ≡ b). (Memᴰ.head g, ap f g ∙ e)) (λ (j : Memᴰ a (filter f l)). let r = rest j in (Memᴰ.tail r.0, r.1)) (Memᴰ.cases_cons i)
      by false e rest i = let r = rest i in (Memᴰ.tail r.0, r.1)

  pub filter_mem : (l : List A) {a : A} → Memᴰ a l → f a ≡ true → Memᴰ a (filter f l)
  unfolding filter
  filter_mem [] m e = absurd (Memᴰ.not-nil m)
  filter_mem (b ∷ l) {a} m e = by (f b) refl (λ i. filter_mem l i e) (Memᴰ.cases_cons m)
    where
      by : (t : Bool) → f b ≡ t → (Memᴰ a l → Memᴰ a (filter f l)) → (a ≡ b) ⊎ Memᴰ a l → Memᴰ a (cond t (b ∷ filter f l) (filter f l))
      by true g rest (inl i) = Memᴰ.head i
      by true g rest (inr i) = Memᴰ.tail (rest i)
      by false g rest (inl i) = absurd (false≢true (sym g ∙ ap f (sym i) ∙ e))
      by false g rest (inr i) = rest i

  pub once_filter : (l : List A) → Once l → Once (filter f l)
  unfolding filter
  once_filter [] o = tt
  once_filter (a ∷ l) o = by (f a) (once_filter l o.1)
    where
      by : (t : Bool) → Once (filter f l) → Once (cond t (a ∷ filter f l) (filter f l))
      by true r = (λ i. o.0 (mem_filter l i).0, r)
      by false r = r

-- ---- two lists that hold each element once

module _ {A : Type 0} where
  -- elements at two places are two
  pub once_places : (l : List A) (d : A) → ((p q : ℕ) → p < q → q < length l → get_or l p d ≡ get_or l q d → ⊥) → Once l
  once_places [] d h = tt
  once_places (a ∷ l) d h = (λ i. let r = mem_place l d i in h 0 (suc r.0) (omega arith) (omega (arith, r.1)) (sym r.2), once_places l d (λ p q g m. h (suc p) (suc q) (omega arith) (omega arith)))

  pub once_apart : (l : List A) (p q : ℕ) (d : A) → Once l → p < q → q < length l → get_or l p d ≡ get_or l q d → ⊥
  once_apart [] p q d o h g e = not-suc-le-zero g
  once_apart (a ∷ l) p zero d o h g e = not-suc-le-zero h
  once_apart (a ∷ l) zero (suc q) d o h g e = o.0 (Memᴰ.cast e (mem_get_d l q d (omega arith)))
  once_apart (a ∷ l) (suc p) (suc q) d o h g e = once_apart l p q d o.1 (omega arith) (omega arith) e

  -- one element more
  pub once_snoc : (l : List A) (a : A) → Once l → (Memᴰ a l → ⊥) → Once (l ++ a ∷ [])
  once_snoc [] a o n = (n, tt)
  once_snoc (b ∷ l) a o n = (
    λ i. ⊎_elim o.0 (λ (j : Memᴰ b (a ∷ [])). n (Memᴰ.head (sym (Memᴰ.eq_of_singleton j)))) (Memᴰ.append_cases l i),
    once_snoc l a o.1 (λ i. n (Memᴰ.tail i)),
  )

  -- the elements in another order
  pub each_perm : (P : A → Type 0) {s l : List A} → Permᴰ s l → Each P l → Each P s
  each_perm P Permᴰ.nil h = h
  each_perm P (Permᴰ.cons e p) h = (subst P (sym e) h.0, each_perm P p h.1)
  each_perm P (Permᴰ.swap e f) h = (subst P (sym e) h.1.0, (subst P (sym f) h.0, h.1.1))
  each_perm P (Permᴰ.trans p q) h = each_perm P p (each_perm P q h)

  mem_perm : {s l : List A} {a : A} → Permᴰ s l → Memᴰ a s → Memᴰ a l
  mem_perm Permᴰ.nil i = i
  mem_perm (Permᴰ.cons e p) i = ⊎_elim (λ g. Memᴰ.head (g ∙ e)) (λ j. Memᴰ.tail (mem_perm p j)) (Memᴰ.cases_cons i)
  mem_perm (Permᴰ.swap e f) i =
      ⊎_elim (λ g. Memᴰ.tail (Memᴰ.head (g ∙ e)))
      (λ j. ⊎_elim (λ g. Memᴰ.head (g ∙ f)) (λ k. Memᴰ.tail (Memᴰ.tail k)) (Memᴰ.cases_cons j)) (Memᴰ.cases_cons i)
  mem_perm (Permᴰ.trans p q) i = mem_perm q (mem_perm p i)

  pub once_perm : {s l : List A} → Permᴰ s l → Once l → Once s
  once_perm Permᴰ.nil o = o
  once_perm (Permᴰ.cons e p) o = (λ i. o.0 (mem_perm p (Memᴰ.cast (sym e) i)), once_perm p o.1)
  once_perm (Permᴰ.swap e f) o = (
    λ i. ⊎_elim (λ g. o.0 (Memᴰ.head (sym f ∙ sym g ∙ e))) (λ j. o.1.0 (Memᴰ.cast (sym e) j)) (Memᴰ.cases_cons i),
    (λ j. o.0 (Memᴰ.tail (Memᴰ.cast (sym f) j)), o.1.1),
  )
  once_perm (Permᴰ.trans p q) o = once_perm p (once_perm q o)

  pub once_map : {B : Type 0} (f : A → B) → ((a b : A) → f a ≡ f b → a ≡ b) → (l : List A) → Once l → Once (map f l)
  once_map f g [] o = tt
  once_map f g (a ∷ l) o = (λ i. let r = Memᴰ.of_map f l i in o.0 (Memᴰ.cast (g a r.0 (sym r.2)) r.1), once_map f g l o.1)

  -- an element between others
  split_at : (m : List A) {a : A} → Memᴰ a m → (l : List A) × (r : List A) × (m ≡ l ++ a ∷ r)
  split_at [] i = absurd (Memᴰ.not-nil i)
  split_at (b ∷ m) {a} i = by (λ j. split_at m j) (Memᴰ.cases_cons i)
    where
      by : (Memᴰ a m → (l : List A) × (r : List A) × (m ≡ l ++ a ∷ r)) → (a ≡ b) ⊎ Memᴰ a m → (l : List A) × (r : List A) × (b ∷ m ≡ l ++ a ∷ r)
      by rest (inl e) = ([], m, ap (λ (x : A). x ∷ m) (sym e))
      by rest (inr j) = let s = rest j in (b ∷ s.0, s.1, ap (λ (x : List A). b ∷ x) s.2)

  module _ (a : A) where
    more : (l r : List A) {x : A} → Memᴰ x (l ++ r) → Memᴰ x (l ++ a ∷ r)
    more l r {x} i =
        ⊎_elim (λ (j : Memᴰ x l). Memᴰ.append_left (a ∷ r) j) (λ (j : Memᴰ x r). Memᴰ.append_right l (Memᴰ.tail j)) (Memᴰ.append_cases l i)

    less : (l r : List A) {x : A} → Memᴰ x (l ++ a ∷ r) → (x ≡ a → ⊥) → Memᴰ x (l ++ r)
    less l r {x} i n =
        ⊎_elim (λ (j : Memᴰ x l). Memᴰ.append_left r j)
        (λ (j : Memᴰ x (a ∷ r)). ⊎_elim (λ (e : x ≡ a). absurd (n e)) (λ (k : Memᴰ x r). Memᴰ.append_right l k) (Memᴰ.cases_cons j))
        (Memᴰ.append_cases l i)

    once_less : (l r : List A) → Once (l ++ a ∷ r) → (Memᴰ a (l ++ r) → ⊥) × Once (l ++ r)
    once_less [] r o = o
    once_less (b ∷ l) r o =
        let s = once_less l r o.1 in (
          λ i. ⊎_elim (λ (e : a ≡ b). o.0 (Memᴰ.append_right l (Memᴰ.head (sym e)))) (λ (j : Memᴰ a (l ++ r)). s.0 j) (Memᴰ.cases_cons i),
          (λ i. o.0 (more l r i), s.1),
        )

  -- a list with no other elements than m's is no longer
  pub once_fewer : (l m : List A) → Once l → ((x : A) → Memᴰ x l → Memᴰ x m) → length l ≤ length m
  once_fewer [] m o f = omega arith
  once_fewer (a ∷ l) m o f =
      let s = split_at m (f a (Memᴰ.head refl)) in
      let short : length l ≤ length (s.0 ++ s.1) =
      once_fewer l (s.0 ++ s.1) o.1 (λ x i. less a s.0 s.1 (subst (λ (n : List A). Memᴰ x n) s.2 (f x (Memᴰ.tail i))) (λ e. o.0 (Memᴰ.cast (sym e) i))) in
      omega (arith, ap length s.2, length-append s.0 (a ∷ s.1), length-append s.0 s.1)

  -- with the same elements they are the same but for the order
  pub once_same : (l m : List A) → Once l → Once m → ((x : A) → Memᴰ x l → Memᴰ x m) → ((x : A) → Memᴰ x m → Memᴰ x l) → Permᴰ l m
  once_same [] [] o p f g = Permᴰ.nil
  once_same [] (b ∷ m) o p f g = absurd (Memᴰ.not-nil (g b (Memᴰ.head refl)))
  once_same (a ∷ l) m o p f g =
      let s = split_at m (f a (Memᴰ.head refl)) in
      by s.0 s.1 s.2 (λ n q h k. once_same l n o.1 q h k)
    where
      by : (b c : List A) → m ≡ b ++ a ∷ c
          → ((n : List A) → Once n → ((x : A) → Memᴰ x l → Memᴰ x n) → ((x : A) → Memᴰ x n → Memᴰ x l) → Permᴰ l n)
          → Permᴰ (a ∷ l) m
      by b c e rest =
          let q = once_less a b c (subst (λ (n : List A). Once n) e p) in
          let h : (x : A) → Memᴰ x l → Memᴰ x (b ++ c) =
          λ x i. less a b c (subst (λ (n : List A). Memᴰ x n) e (f x (Memᴰ.tail i))) (λ g. o.0 (Memᴰ.cast (sym g) i)) in
          let k : (x : A) → Memᴰ x (b ++ c) → Memᴰ x l =
          λ x i.
          ⊎_elim (λ (g : x ≡ a). absurd (q.0 (Memᴰ.cast (sym g) i))) (λ (j : Memᴰ x l). j)
          (Memᴰ.cases_cons (g x (subst (λ (n : List A). Memᴰ x n) (sym e) (more a b c i)))) in
          subst (λ (n : List A). Permᴰ (a ∷ l) n) (sym e) (Permᴰ.trans (Permᴰ.cons refl (rest (b ++ c) q.1 h k)) (Permᴰ.symm (Permᴰ.middle a b c)))

-- n numbers or fewer from a on
pub pigeonhole : (n a : ℕ) (l : List ℕ) → Once l → ((p : ℕ) → member p l ≡ true → (a ≤ p) × (p < a + n)) → length l ≤ n
pigeonhole n a l o h =
    omega (arith, length_from a n, once_fewer l (from a n) o (λ p i. let b = h p (mem_member p l i) in mem_from a n p b.0 b.1))

-- ---- the place of a number

pub position_map : {A B : Type 0} (f : B → Bool) (g : A → B) (l : List A) → position f (map g l) ≡ position (λ a. f (g a)) l
unfolding position
position_map f g [] = refl
position_map f g (a ∷ l) = ap (λ (n : ℕ). cond (f (g a)) 0 (suc n)) (position_map f g l)

abbrev pub placed : ℕ → List ℕ → ℕ
placed p l = position (λ q. eqb q p) l

pub placed_at : (l : List ℕ) (i : ℕ) → Once l → i < length l → placed (get_or l i 0) l ≡ i
unfolding position
placed_at [] i o h = absurd (not-suc-le-zero h)
placed_at (a ∷ l) zero o h = rw (eq-eqb a a refl)
placed_at (a ∷ l) (suc i) o h =
    let n : i < length l = omega arith in
    rw (ne_eqb a (get_or l i 0) (λ e. o.0 (Memᴰ.cast e (mem_get_d l i 0 n))), placed_at l i o.1 n)

-- a member stands at its place
pub placed_mem : (l : List ℕ) (p : ℕ) → Memᴰ p l → (placed p l < length l) × (get_or l (placed p l) 0 ≡ p)
unfolding position
placed_mem [] p m = absurd (Memᴰ.not-nil m)
placed_mem (a ∷ l) p m = by (eqb a p) refl (λ i. placed_mem l p i) (Memᴰ.cases_cons m)
  where
    by : (b : Bool) → eqb a p ≡ b → (Memᴰ p l → (placed p l < length l) × (get_or l (placed p l) 0 ≡ p)) → (p ≡ a) ⊎ Memᴰ p l
        → (cond b 0 (suc (placed p l)) < suc (length l)) × (get_or (a ∷ l) (cond b 0 (suc (placed p l))) 0 ≡ p)
    by true e rest i = (omega arith, eqb-true a p e)
    by false e rest (inl g) = let z = eq-eqb a p (sym g) in absurd (false≢true (sym e ∙ z))
    by false e rest (inr i) = let r = rest i in (omega (arith, r.0), r.1)
