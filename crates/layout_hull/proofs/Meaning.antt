-- The list of triplets holds the kept triples and no other, ascending: the loops pass each triple i < j < k once, in the order of i, j and k. Assumes nothing.
use Prim.Native.Nat.{ℕ, zero, suc, ◌+◌, ◌-◌, ◌≤◌, ◌<◌}
use mathlib.Core.Path.{◌≡◌, refl, sym, ap, ◌∙◌}
use mathlib.Core.Bool.{Bool, true, false}
use mathlib.Core.Option.{Option}
use mathlib.Core.Logic.{◌⊎◌, inl, inr, ⊎_elim}
use mathlib.Core.List.Memᴰ
use mathlib.Core.List.{List, [], ◌∷◌, ◌++◌, map, flat_map, Memᴰ}
use native.Mathlib.Nat.{not-suc-le-zero}
use native.Mathlib.Omega.{arith}
use borrow.Author.Tests.{ltb-true, ltb-false}
use lib.Dec.{ltb}
use lib.ListN.{length, get_or}
use Rattle.lists.specs.Lists.{from, range, between, collect}
use Rattle.lists.proofs.Collect.{collect_append}
use Rattle.lists.proofs.Once.{mem_get_d}
use Rattle.vector.specs.Vector.{Points}
use Rattle.layout_hull.specs.Triplets.{Triplet, Verdict, skip, open_hull, keep, kept, verdict, verdicts, triplets_of}
use Rattle.layout_hull.specs.Meaning.{Before, by_i, by_j, by_k, Keeps, KeptMeaning}
use Rattle.layout_hull.proofs.Verdicts.{verdict_own}

-- ---- what is collected from the lists of the numbers a .. a + m - 1

module _ {A B : Type 0} (f : A → Option B) (g : ℕ → List A) where
  split : (a m : ℕ) → collect f (flat_map g (from a (suc m))) ≡ collect f (g a) ++ collect f (flat_map g (from (suc a) m))
  unfolding from flat_map
  split a m = collect_append f (g a) (flat_map g (from (suc a) m))

  -- an element comes from the list of one of the numbers
  from_one : (t : B) (a m : ℕ) → Memᴰ t (collect f (flat_map g (from a m))) → (x : ℕ) × (a ≤ x) × (x < a + m) × Memᴰ t (collect f (g x))
  unfolding from flat_map collect
  from_one t a zero h = absurd (Memᴰ.not-nil h)
  from_one t a (suc m) h =
      by (λ r. from_one t (suc a) m r) (Memᴰ.append_cases (collect f (g a)) (rw (collect_append f (g a) (flat_map g (from (suc a) m))) at h))
    where
      by : (Memᴰ t (collect f (flat_map g (from (suc a) m))) → (x : ℕ) × (suc a ≤ x) × (x < suc a + m) × Memᴰ t (collect f (g x)))
          → Memᴰ t (collect f (g a)) ⊎ Memᴰ t (collect f (flat_map g (from (suc a) m)))
          → (x : ℕ) × (a ≤ x) × (x < a + suc m) × Memᴰ t (collect f (g x))
      by rest (inl l) = (a, omega arith, omega arith, l)
      by rest (inr r) = let p = rest r in (p.0, omega (arith, p.1), omega (arith, p.2), p.3)

  -- and what the list of a number has is collected
  from_each : (t : B) (x a m : ℕ) → a ≤ x → x < a + m → Memᴰ t (collect f (g x)) → Memᴰ t (collect f (flat_map g (from a m)))
  from_each t x a zero h e i = absurd (not-suc-le-zero {n = 0} (omega arith))
  from_each t x a (suc m) h e i = rw (split a m) (by (ltb a x) refl (λ (l : suc a ≤ x). from_each t x (suc a) m l (omega arith) i))
    where
      by : (b : Bool) → ltb a x ≡ b → (suc a ≤ x → Memᴰ t (collect f (flat_map g (from (suc a) m))))
          → Memᴰ t (collect f (g a) ++ collect f (flat_map g (from (suc a) m)))
      by true l rest = Memᴰ.append_right (collect f (g a)) (rest (omega (arith, ltb-true a x l)))
      by false l rest =
          let s : x ≡ a = omega (arith, ltb-false a x l) in
          Memᴰ.append_left (collect f (flat_map g (from (suc a) m))) (rw s at i)

-- ---- lists in which each element comes before all later ones

unfoldable Rising : List Triplet → Type 0
Rising [] = Unit
Rising (t ∷ l) = ((u : Triplet) → Memᴰ u l → Before t u) × Rising l

rising_append : (l m : List Triplet) → Rising l → Rising m → ((t u : Triplet) → Memᴰ t l → Memᴰ u m → Before t u) → Rising (l ++ m)
unfolding Rising
rising_append [] m h g c = g
rising_append (t ∷ l) m h g c = (
  λ u i. ⊎_elim (λ (p : Memᴰ u l). h.0 u p) (λ (q : Memᴰ u m). c t u (Memᴰ.head refl) q) (Memᴰ.append_cases l i),
  rising_append l m h.1 g (λ v w p q. c v w (Memᴰ.tail p) q),
)

rising_get_d : (l : List Triplet) → Rising l → (p q : ℕ) (d : Triplet) → p < q → q < length l → Before (get_or l p d) (get_or l q d)
unfolding Rising
rising_get_d [] r p q d h g = absurd (not-suc-le-zero g)
rising_get_d (t ∷ l) r p zero d h g = absurd (not-suc-le-zero h)
rising_get_d (t ∷ l) r zero (suc q) d h g = r.0 (get_or l q d) (mem_get_d l q d (omega arith))
rising_get_d (t ∷ l) r (suc p) (suc q) d h g = rising_get_d l r.1 p q d (omega arith) (omega arith)

-- one number after another
rising_from : (g : ℕ → List Verdict) (a m : ℕ) → ((x : ℕ) → Rising (collect kept (g x)))
    → ((x y : ℕ) (t u : Triplet) → x < y → Memᴰ t (collect kept (g x)) → Memᴰ u (collect kept (g y)) → Before t u)
    → Rising (collect kept (flat_map g (from a m)))
unfolding Rising from flat_map collect
rising_from g a zero r c = tt
rising_from g a (suc m) r c =
    rw (collect_append kept (g a) (flat_map g (from (suc a) m)))
    (rising_append (collect kept (g a)) (collect kept (flat_map g (from (suc a) m))) (r a) (rising_from g (suc a) m r c)
    (λ t u i j. let p = from_one kept g u (suc a) m j in c a p.0 t u p.1 i p.3))

-- ---- one verdict

one_kept : (v : Verdict) (t : Triplet) → Memᴰ t (collect kept (v ∷ [])) → v ≡ keep t
unfolding kept collect
one_kept skip t h = absurd (Memᴰ.not-nil h)
one_kept open_hull t h = absurd (Memᴰ.not-nil h)
one_kept (keep s) t h = ⊎_elim (λ (e : t ≡ s). ap keep (sym e)) (λ (m : Memᴰ t []). absurd (Memᴰ.not-nil m)) (Memᴰ.cases_cons h)

kept_one : (v : Verdict) (t : Triplet) → v ≡ keep t → Memᴰ t (collect kept (v ∷ []))
unfolding kept collect
kept_one v t e = rw e (Memᴰ.head refl)

rising_one : (v : Verdict) → Rising (collect kept (v ∷ []))
unfolding Rising kept collect
rising_one skip = tt
rising_one open_hull = tt
rising_one (keep t) = (λ u i. absurd (Memᴰ.not-nil i), tt)

map_each : {A : Type 0} (f : ℕ → A) (l : List ℕ) → map f l ≡ flat_map (λ x. f x ∷ []) l
unfolding flat_map
map_each f [] = refl
map_each {A} f (x ∷ l) = ap (λ (r : List A). f x ∷ r) (map_each f l)

-- ---- the three loops

module _ (pts : Points) where
  abbrev third : ℕ → ℕ → ℕ → List Verdict
  third i j k = verdict pts i j k ∷ []

  abbrev second : ℕ → ℕ → List Verdict
  second i j = flat_map (third i j) (from (suc j) (length pts - suc j))

  abbrev first : ℕ → List Verdict
  first i = flat_map (second i) (from (suc i) (length pts - suc i))

  triplets_loops : triplets_of pts ≡ collect kept (flat_map first (from 0 (length pts)))
  unfolding triplets_of verdicts range between
  triplets_loops = simp map_each

  third_own : (i j k : ℕ) (t : Triplet) → Memᴰ t (collect kept (third i j k)) → (t.i ≡ i) × (t.j ≡ j) × (t.k ≡ k) × (verdict pts i j k ≡ keep t)
  third_own i j k t h = let e = one_kept (verdict pts i j k) t h in let o = verdict_own pts i j k t e in (ap (λ (s : Triplet). s.i) o, ap (λ (s : Triplet). s.j) o, ap (λ (s : Triplet). s.k) o, e)

  second_own : (i j : ℕ) (t : Triplet) → Memᴰ t (collect kept (second i j))
      → (t.i ≡ i) × (t.j ≡ j) × (j < t.k) × (t.k < length pts) × (verdict pts i j t.k ≡ keep t)
  second_own i j t h =
      let p = from_one kept (third i j) t (suc j) (length pts - suc j) h in
      let o = third_own i j p.0 t p.3 in
      (o.0, o.1, omega (arith, p.1, o.2), omega (arith, p.1, p.2, o.2), ap (verdict pts i j) o.2 ∙ o.3)

  first_own : (i : ℕ) (t : Triplet) → Memᴰ t (collect kept (first i))
      → (t.i ≡ i) × (i < t.j) × (t.j < t.k) × (t.k < length pts) × (verdict pts i t.j t.k ≡ keep t)
  first_own i t h =
      let p = from_one kept (second i) t (suc i) (length pts - suc i) h in
      let o = second_own i p.0 t p.3 in
      (o.0, omega (arith, p.1, o.1), omega (arith, o.1, o.2), o.3, ap (λ (m : ℕ). verdict pts i m t.k) o.1 ∙ o.4)

  only_kept : (t : Triplet) → Memᴰ t (triplets_of pts) → Keeps pts t
  only_kept t h =
      let p = from_one kept first t 0 (length pts) (rw triplets_loops at h) in
      let o = first_own p.0 t p.3 in
      record { low = omega (arith, o.0, o.1); high = o.2; in_list = o.3; verdict_keeps = ap (λ (m : ℕ). verdict pts m t.j t.k) o.0 ∙ o.4 }

  all_kept : (t : Triplet) → Keeps pts t → Memᴰ t (triplets_of pts)
  all_kept t k =
      let c = kept_one (verdict pts t.i t.j t.k) t k.verdict_keeps in
      let b = from_each kept (third t.i t.j) t t.k (suc t.j) (length pts - suc t.j) k.high (omega (arith, k.high, k.in_list)) c in
      let a = from_each kept (second t.i) t t.j (suc t.i) (length pts - suc t.i) k.low (omega (arith, k.low, k.high, k.in_list)) b in
      rw triplets_loops (from_each kept first t t.i 0 (length pts) (omega arith) (omega (arith, k.low, k.high, k.in_list)) a)

  rising_second : (i j : ℕ) → Rising (collect kept (second i j))
  rising_second i j =
      rising_from (third i j) (suc j) (length pts - suc j) (λ k. rising_one (verdict pts i j k))
      (λ x y t u h p q.
      let a = third_own i j x t p in
      let b = third_own i j y u q in
      by_k (a.0 ∙ sym b.0) (a.1 ∙ sym b.1) (omega (arith, a.2, b.2)))

  rising_first : (i : ℕ) → Rising (collect kept (first i))
  rising_first i =
      rising_from (second i) (suc i) (length pts - suc i) (rising_second i)
      (λ x y t u h p q.
      let a = second_own i x t p in
      let b = second_own i y u q in
      by_j (a.0 ∙ sym b.0) (omega (arith, a.1, b.1)))

  rising_all : Rising (triplets_of pts)
  rising_all =
      rw triplets_loops
      (rising_from first 0 (length pts) rising_first
      (λ x y t u h p q.
      let a = first_own x t p in
      let b = first_own y u q in
      by_i (omega (arith, a.0, b.0))))

pub kept_meaning : KeptMeaning
kept_meaning pts = record { only = only_kept pts; all = all_kept pts; ascending = rising_get_d (triplets_of pts) (rising_all pts) }
