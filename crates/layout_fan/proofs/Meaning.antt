-- Of points that all their triples see alike, test 4 keeps the triples of the fan: a triple with the lowest number sees all as one ring, and is kept where its other two stand side by side in it; any other triple has the lowest number in its plane. Assumes nothing.
use Prim.Native.Nat.{ℕ, ◌≤◌, ◌<◌}
use mathlib.Core.Path.{◌≡◌, refl, sym, ap, ◌∙◌, subst}
use mathlib.Core.Logic.{◌↔◌, ⊎_elim}
use mathlib.Core.Bool.{Bool, true, false, ◌&&◌, ◌||◌, false≢true}
use mathlib.Core.List.Memᴰ
use mathlib.Core.List.{List, ◌∷◌, map, Memᴰ}
use native.Mathlib.Omega.{arith}
use borrow.Author.Tests.{ltb-true, lt-ltb, le-ltb, eqb-true, eqb-false, ne_eqb, not-true}
use lib.Dec.{eqb, ltb}
use lib.ListN.{length, length-map}
use Rattle.lists.specs.Lists.{range, every, member, is_empty}
use Rattle.lists.proofs.Tests.{and_left, and_right, both, neither, empty_length}
use Rattle.lists.proofs.Once.{every_mem, mem_every, every_fails, mem_some, member_mem, mem_member, mem_range, mem_filter, filter_mem, position_map}
use Rattle.vector.specs.Vector.{Points}
use Rattle.angle_sort.specs.declared.Spot.{Spot}
use Rattle.angle_sort.proofs.Insertion.{length_sorted}
use Rattle.layout_faces.specs.Faces.{Plane, others, is_other}
use Rattle.layout_fan.specs.Fan.{fan, adjacent, in_fan}
use Rattle.layout_fan.specs.Meaning.{Triple, Among, fan_from, in_plane, fan_keeps, ring_by, SeenAlike, FanMeaning}
use Rattle.layout_fan.proofs.Rings.{fan_lowest, beside, beside_two, beside_fan, fan_beside}

-- ---- the numbers of a triple

pub among_members : (set : List ℕ) (t : Triple) → Among set t → Memᴰ t.i set × Memᴰ t.j set × Memᴰ t.k set
among_members set t a =
    let in_i = member t.i set in
    let in_j = member t.j set in
    let in_k = member t.k set in
    let two = both in_i in_j (and_left (in_i && in_j) in_k a.within) in
    (member_mem t.i set two.0, member_mem t.j set two.1, member_mem t.k set (and_right (in_i && in_j) in_k a.within))

-- ---- the points but a triple's own

module _ (n i j k p : ℕ) where
  others_apart : Memᴰ p (others n i j k) → (p ≡ i → ⊥)
  unfolding others
  others_apart m e =
      let f = neither (eqb p i || eqb p j) (eqb p k) (not-true _ (mem_filter (is_other i j k) (range n) m).1) in
      eqb-false p i (neither (eqb p i) (eqb p j) f.0).0 e

  others_mem : p < n → (p ≡ i → ⊥) → (p ≡ j → ⊥) → (p ≡ k → ⊥) → Memᴰ p (others n i j k)
  unfolding others
  others_mem h a b c = filter_mem (is_other i j k) (range n) (mem_range n p h) (rw (ne_eqb p i a, ne_eqb p j b, ne_eqb p k c))

-- ---- next to each other, by the numbers alone

adjacent_ring : (j k : ℕ) (l : List Spot) → adjacent j k l ≡ beside (map (λ s. s.number) l) j k
unfolding adjacent
adjacent_ring j k l =
    rw (position_map (λ q. eqb q j) (λ (s : Spot). s.number) l, position_map (λ q. eqb q k) (λ (s : Spot). s.number) l)

fan_long : (pts : Points) (nrm : List _) (i : ℕ) (ps : List ℕ) → length (fan pts nrm i ps) ≡ length ps
unfolding fan
fan_long pts nrm i ps = length_sorted _ ∙ length-map ps _

module _ (pts : Points) (plane : Triple → Plane) (i : ℕ) (ring : List ℕ) (s : SeenAlike pts plane i ring) (t : Triple) (a : Among (i ∷ ring) t) where
  abbrev flat : List ℕ
  flat = in_plane pts plane t

  of_i : Memᴰ t.i (i ∷ ring)
  of_i = (among_members (i ∷ ring) t a).0

  of_j : Memᴰ t.j (i ∷ ring)
  of_j = (among_members (i ∷ ring) t a).1

  of_k : Memᴰ t.k (i ∷ ring)
  of_k = (among_members (i ∷ ring) t a).2

  above : (p : ℕ) → Memᴰ p (i ∷ ring) → i ≤ p
  above p m =
      ⊎_elim (λ (e : p ≡ i). omega arith) (λ (r : Memᴰ p ring). omega (arith, ltb-true i p (every_mem (λ q. ltb i q) ring s.lowest r))) (Memᴰ.cases_cons m)

  in_ring : (p : ℕ) → Memᴰ p (i ∷ ring) → i < p → Memᴰ p ring
  in_ring p m h = ⊎_elim (λ (e : p ≡ i). absurd (omega arith)) (λ (r : Memᴰ p ring). r) (Memᴰ.cases_cons m)

  -- ---- a triple with i

  module _ (e : t.i ≡ i) where
    low : every (λ p. ltb t.i p) flat ≡ true
    low =
        mem_every (λ p. ltb t.i p) flat
        (λ p m.
        let f = mem_filter (λ q. member q (i ∷ ring)) (others (length pts) t.i t.j t.k) (subst (λ (l : List ℕ). Memᴰ p l) (s.one_set t a) m) in
        let g = above p (member_mem p (i ∷ ring) f.1) in
        let n = others_apart (length pts) t.i t.j t.k p f.0 in
        lt-ltb t.i p (omega arith))

    ring_long : length ring ≡ length (t.j ∷ t.k ∷ flat)
    unfolding ring_by
    ring_long =
        ap length (sym (s.one_ring t a e)) ∙ length-map (fan pts (plane t).nrm t.i (t.j ∷ t.k ∷ flat)) (λ (q : Spot). q.number)
        ∙ fan_long pts (plane t).nrm t.i (t.j ∷ t.k ∷ flat)

    j_in : Memᴰ t.j ring
    j_in = in_ring t.j of_j (omega (arith, a.low))

    k_in : Memᴰ t.k ring
    k_in = in_ring t.k of_k (omega (arith, a.low, a.high))

    -- kept where the other two stand side by side
    keeps_beside : fan_keeps pts plane t ≡ beside ring t.j t.k
    unfolding fan_keeps in_fan ring_by
    keeps_beside = by (is_empty flat) refl
      where
        by : (b : Bool) → is_empty flat ≡ b → b || (every (λ p. ltb t.i p) flat && adjacent t.j t.k (fan pts (plane t).nrm t.i (t.j ∷ t.k ∷ flat))) ≡ beside ring t.j t.k
        by true g =
            let z = eqb-true (length flat) 0 (sym (empty_length flat) ∙ g) in
            sym (beside_two ring t.j t.k a.high j_in k_in (omega (arith, ring_long)))
        by false g =
            rw low
            (adjacent_ring t.j t.k (fan pts (plane t).nrm t.i (t.j ∷ t.k ∷ flat)) ∙ ap (λ (l : List ℕ). beside l t.j t.k) (s.one_ring t a e))

    own : t ≡ record { i = i; j = t.j; k = t.k }
    own = ap (λ (p : ℕ). record { i = p; j = t.j; k = t.k }) e

    with_lowest : (fan_keeps pts plane t ≡ true) ↔ Memᴰ t (fan_from i ring)
    with_lowest = (
      λ g. Memᴰ.cast own (beside_fan i ring t.j t.k s.once a.high j_in k_in (sym keeps_beside ∙ g)),
      λ m. keeps_beside ∙ fan_beside i ring t.j t.k s.once a.high (Memᴰ.cast (sym own) m),
    )

  -- ---- a triple without i: i lies in its plane

  module _ (n : t.i ≡ i → ⊥) where
    below : i < t.i
    below = omega (arith, above t.i of_i)

    i_flat : Memᴰ i flat
    i_flat =
        subst (λ (l : List ℕ). Memᴰ i l) (sym (s.one_set t a))
        (filter_mem (λ q. member q (i ∷ ring)) (others (length pts) t.i t.j t.k)
        (others_mem (length pts) t.i t.j t.k i (ltb-true i (length pts) (every_mem (λ p. ltb p (length pts)) (i ∷ ring) s.points (Memᴰ.head refl)))
        (λ e. omega (arith, below)) (λ e. omega (arith, below, a.low)) (λ e. omega (arith, below, a.low, a.high)))
        (mem_member i (i ∷ ring) (Memᴰ.head refl)))

    not_kept : fan_keeps pts plane t ≡ false
    unfolding fan_keeps in_fan
    not_kept = rw (mem_some flat i_flat, every_fails (λ p. ltb t.i p) flat i_flat (le-ltb t.i i (omega (arith, below))))

    without_lowest : (fan_keeps pts plane t ≡ true) ↔ Memᴰ t (fan_from i ring)
    without_lowest = (λ g. absurd (false≢true (sym not_kept ∙ g)), λ m. absurd (n (fan_lowest i ring m)))

pub fan_meaning : FanMeaning
fan_meaning pts plane i ring s t a = by (eqb t.i i) refl
  where
    by : (b : Bool) → eqb t.i i ≡ b → (fan_keeps pts plane t ≡ true) ↔ Memᴰ t (fan_from i ring)
    by true e = with_lowest pts plane i ring s t a (eqb-true t.i i e)
    by false e = without_lowest pts plane i ring s t a (eqb-false t.i i e)
