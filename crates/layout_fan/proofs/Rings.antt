-- Laws of a ring divided once: the triples of the fan by the places of the ring, how many there are, and that two numbers next to each other make one. Each goes by the ring. Assumes nothing.
use Prim.Native.Nat.{ℕ, zero, suc, ◌+◌, ◌-◌, ◌≤◌, ◌<◌, min, max}
use mathlib.Core.Path.{◌≡◌, refl, sym, ap, ◌∙◌}
use mathlib.Core.Logic.{◌⊎◌, inl, inr, ⊎_elim}
use mathlib.Core.Bool.{Bool, true}
use mathlib.Core.List.{List, [], ◌∷◌, Memᴰ}
use native.Mathlib.Nat.{not-suc-le-zero}
use native.Mathlib.Decide.{dec_le}
use native.Mathlib.Omega.{arith}
use borrow.Author.Tests.{ltb-true, eqb-true, eq-eqb}
use lib.Dec.{eqb, ltb}
use lib.ListN.{length, get_or}
use Rattle.lists.specs.Lists.{Once, every, member}
use Rattle.lists.proofs.Tests.{either, or_true, and_both}
use Rattle.lists.proofs.Once.{mem_get_d, every_mem, mem_member, placed, placed_at, placed_mem}
use Rattle.layout_fan.specs.Fan.{next_to}
use Rattle.layout_fan.specs.Meaning.{Triple, Among, triangle, fan_from, FanCount}

abbrev triple : ℕ → ℕ → ℕ → Triple
triple i j k = record { i = i; j = j; k = k }

-- ---- a triple of the fan by its place

module _ (i : ℕ) where
  abbrev at : List ℕ → ℕ → Triple
  at ring p = triangle i (get_or ring p 0) (get_or ring (suc p) 0)

  fan_at : (ring : List ℕ) (p : ℕ) → suc p < length ring → Memᴰ (at ring p) (fan_from i ring)
  unfolding fan_from
  fan_at [] p h = absurd (not-suc-le-zero h)
  fan_at (a ∷ []) p h = absurd (not-suc-le-zero {n = p} (omega arith))
  fan_at (a ∷ (b ∷ l)) zero h = mathlib.Core.List.Memᴰ.head refl
  fan_at (a ∷ (b ∷ l)) (suc p) h = mathlib.Core.List.Memᴰ.tail (fan_at (b ∷ l) p (omega arith))

  fan_place : (ring : List ℕ) {t : Triple} → Memᴰ t (fan_from i ring) → (p : ℕ) × (suc p < length ring) × (t ≡ at ring p)
  unfolding fan_from
  fan_place [] m = absurd (mathlib.Core.List.Memᴰ.not-nil m)
  fan_place (a ∷ []) m = absurd (mathlib.Core.List.Memᴰ.not-nil m)
  fan_place (a ∷ (b ∷ l)) {t} m = by (λ r. fan_place (b ∷ l) r) (mathlib.Core.List.Memᴰ.cases_cons m)
    where
      by : (Memᴰ t (fan_from i (b ∷ l)) → (p : ℕ) × (suc p < length (b ∷ l)) × (t ≡ at (b ∷ l) p))
          → (t ≡ triangle i a b) ⊎ Memᴰ t (fan_from i (b ∷ l))
          → (p : ℕ) × (suc p < suc (length (b ∷ l))) × (t ≡ at (a ∷ (b ∷ l)) p)
      by rest (inl e) = (0, omega arith, e)
      by rest (inr r) = let s = rest r in (suc s.0, omega (arith, s.1), s.2)

  -- from i, and from no other
  pub fan_lowest : (ring : List ℕ) {t : Triple} → Memᴰ t (fan_from i ring) → t.i ≡ i
  fan_lowest ring m = let s = fan_place ring m in ap (λ (t : Triple). t.i) s.2

-- ---- a triple of the fan is one of the set

pub fan_among : (i : ℕ) (ring : List ℕ) → Once ring → every (λ p. ltb i p) ring ≡ true → (t : Triple) → Memᴰ t (fan_from i ring) → Among (i ∷ ring) t
fan_among i ring o low t m =
    let s = fan_place i ring m in
    let x = get_or ring s.0 0 in
    let y = get_or ring (suc s.0) 0 in
    let mx : Memᴰ x ring = mem_get_d ring s.0 0 (omega (arith, s.1)) in
    let my : Memᴰ y ring = mem_get_d ring (suc s.0) 0 s.1 in
    let ei : t.i ≡ i = ap (λ (u : Triple). u.i) s.2 in
    let ej : t.j ≡ min x y = ap (λ (u : Triple). u.j) s.2 in
    let ek : t.k ≡ max x y = ap (λ (u : Triple). u.k) s.2 in
    let hx : i < x = ltb-true i x (every_mem (λ p. ltb i p) ring low mx) in
    let hy : i < y = ltb-true i y (every_mem (λ p. ltb i p) ring low my) in
    let apart : x ≡ y → ⊥ = once_apart ring s.0 o s.1 in
    let in_i : member t.i (i ∷ ring) ≡ true = mem_member t.i (i ∷ ring) (mathlib.Core.List.Memᴰ.head ei) in
    let in_j : member t.j (i ∷ ring) ≡ true = mem_member t.j (i ∷ ring) (mathlib.Core.List.Memᴰ.tail (either_mem ring x y t.j mx my (lower x y t.j ej))) in
    let in_k : member t.k (i ∷ ring) ≡ true = mem_member t.k (i ∷ ring) (mathlib.Core.List.Memᴰ.tail (either_mem ring x y t.k mx my (upper x y t.k ek))) in
    record { low = omega arith; high = omega (arith, apart); within = and_both (and_both in_i in_j) in_k }
  where
    lower : (x y a : ℕ) → a ≡ min x y → (a ≡ x) ⊎ (a ≡ y)
    lower x y a e = elim (dec_le x y) [ yes h ↦ inl (omega arith) | no h ↦ inr (omega arith) ]

    upper : (x y a : ℕ) → a ≡ max x y → (a ≡ x) ⊎ (a ≡ y)
    upper x y a e = elim (dec_le x y) [ yes h ↦ inr (omega arith) | no h ↦ inl (omega arith) ]

    either_mem : (l : List ℕ) (x y a : ℕ) → Memᴰ x l → Memᴰ y l → (a ≡ x) ⊎ (a ≡ y) → Memᴰ a l
    either_mem l x y a mx my (inl e) = mathlib.Core.List.Memᴰ.cast e mx
    either_mem l x y a mx my (inr e) = mathlib.Core.List.Memᴰ.cast e my

    -- numbers at two places of the ring
    once_apart : (l : List ℕ) (p : ℕ) → Once l → suc p < length l → get_or l p 0 ≡ get_or l (suc p) 0 → ⊥
    once_apart l p o h e = let z = sym (placed_at l p o (omega arith)) ∙ ap (λ (a : ℕ). placed a l) e ∙ placed_at l (suc p) o h in omega arith

-- ---- how many there are

-- one of the two of a triple is one of the two of an equal triple
one_of : (a b x y : ℕ) → min a b ≡ min x y → max a b ≡ max x y → (a ≡ x) ⊎ (a ≡ y)
one_of a b x y e g = elim (dec_le a b) [ yes h ↦ elim (dec_le x y) [ yes k ↦ inl (omega arith) | no k ↦ inr (omega arith) ] | no h ↦ elim (dec_le x y) [ yes k ↦ inr (omega arith) | no k ↦ inl (omega arith) ] ]

fan_long : (i : ℕ) (ring : List ℕ) → length (fan_from i ring) ≡ length (i ∷ ring) - 2
unfolding fan_from
fan_long i [] = refl
fan_long i (a ∷ []) = refl
fan_long i (a ∷ (b ∷ l)) = omega (arith, fan_long i (b ∷ l))

fan_once : (i : ℕ) (ring : List ℕ) → Once ring → Once (fan_from i ring)
unfolding fan_from
fan_once i [] o = tt
fan_once i (a ∷ []) o = tt
fan_once i (a ∷ (b ∷ l)) o = (
  λ m.
      let s = fan_place i (b ∷ l) m in
      let x = get_or (b ∷ l) s.0 0 in
      let y = get_or l s.0 0 in
      ⊎_elim (λ (e : a ≡ x). o.0 (mathlib.Core.List.Memᴰ.cast e (mem_get_d (b ∷ l) s.0 0 (omega (arith, s.1)))))
      (λ (e : a ≡ y). o.0 (mathlib.Core.List.Memᴰ.cast e (mem_get_d (b ∷ l) (suc s.0) 0 s.1)))
      (one_of a b x y (ap (λ (t : Triple). t.j) s.2) (ap (λ (t : Triple). t.k) s.2)),
  fan_once i (b ∷ l) o.1,
)

pub fan_count : FanCount
fan_count i ring o = record { count = fan_long i ring; once = fan_once i ring o }

-- ---- places next to each other: one apart, and no further

next_apart : (p q : ℕ) → next_to p q ≡ true → (q ≡ p + 1) ⊎ (p ≡ q + 1)
next_apart p q e = ⊎_elim (λ g. inl (eqb-true q (p + 1) g)) (λ g. inr (eqb-true p (q + 1) g)) (either (eqb q (p + 1)) (eqb p (q + 1)) e)

up_next : (p q : ℕ) → q ≡ p + 1 → next_to p q ≡ true
up_next p q e = rw (eq-eqb q (p + 1) e)

down_next : (p q : ℕ) → p ≡ q + 1 → next_to p q ≡ true
down_next p q e = rw (eq-eqb p (q + 1) e, or_true)

-- ---- numbers next to each other in the ring

-- j and k stand side by side
abbrev pub beside : List ℕ → ℕ → ℕ → Bool
beside ring j k = next_to (placed j ring) (placed k ring)

-- in a ring of two they do
pub beside_two : (ring : List ℕ) (j k : ℕ) → j < k → Memᴰ j ring → Memᴰ k ring → length ring ≡ 2 → beside ring j k ≡ true
beside_two ring j k h mj mk e = elim (dec_le (placed j ring) (placed k ring)) [
  | yes g ↦ up_next (placed j ring) (placed k ring) (omega (arith, pj.0, pk.0, apart))
  | no g ↦ down_next (placed j ring) (placed k ring) (omega (arith, pj.0, pk.0))
]
  where
    pj : (placed j ring < length ring) × (get_or ring (placed j ring) 0 ≡ j)
    pj = placed_mem ring j mj

    pk : (placed k ring < length ring) × (get_or ring (placed k ring) 0 ≡ k)
    pk = placed_mem ring k mk

    apart : placed j ring ≡ placed k ring → ⊥
    apart g = let z : j ≡ k = sym pj.1 ∙ ap (λ (p : ℕ). get_or ring p 0) g ∙ pk.1 in omega arith

module _ (i : ℕ) (ring : List ℕ) (j k : ℕ) (o : Once ring) (h : j < k) where
  pub beside_fan : Memᴰ j ring → Memᴰ k ring → beside ring j k ≡ true → Memᴰ (triple i j k) (fan_from i ring)
  beside_fan mj mk e = ⊎_elim up down (next_apart (placed j ring) (placed k ring) e)
    where
      pj : (placed j ring < length ring) × (get_or ring (placed j ring) 0 ≡ j)
      pj = placed_mem ring j mj

      pk : (placed k ring < length ring) × (get_or ring (placed k ring) 0 ≡ k)
      pk = placed_mem ring k mk

      -- the triple at a place that has j and k, in either order
      same : (p a b : ℕ) → get_or ring p 0 ≡ a → get_or ring (suc p) 0 ≡ b → min a b ≡ j → max a b ≡ k → suc p < length ring → Memᴰ (triple i j k) (fan_from i ring)
      same p a b ea eb el eh m = mathlib.Core.List.Memᴰ.cast (cc) (fan_at i ring p m)

      up : placed k ring ≡ placed j ring + 1 → Memᴰ (triple i j k) (fan_from i ring)
      up g =
          let s : placed k ring ≡ suc (placed j ring) = omega arith in
          same (placed j ring) j k pj.1 (ap (λ (p : ℕ). get_or ring p 0) (sym s) ∙ pk.1) (omega arith) (omega arith) (omega (arith, pk.0))

      down : placed j ring ≡ placed k ring + 1 → Memᴰ (triple i j k) (fan_from i ring)
      down g =
          let s : placed j ring ≡ suc (placed k ring) = omega arith in
          same (placed k ring) k j pk.1 (ap (λ (p : ℕ). get_or ring p 0) (sym s) ∙ pj.1) (omega arith) (omega arith) (omega (arith, pj.0))

  pub fan_beside : Memᴰ (triple i j k) (fan_from i ring) → beside ring j k ≡ true
  fan_beside m = elim (dec_le x y) [ yes g ↦ rising g | no g ↦ falling (omega arith) ]
    where
      s : (p : ℕ) × (suc p < length ring) × (triple i j k ≡ at i ring p)
      s = fan_place i ring m

      x : ℕ
      x = get_or ring s.0 0

      y : ℕ
      y = get_or ring (suc s.0) 0

      rising : x ≤ y → beside ring j k ≡ true
      rising g =
          let ej : j ≡ x = omega (arith, ap (λ (t : Triple). t.j) s.2) in
          let ek : k ≡ y = omega (arith, ap (λ (t : Triple). t.k) s.2) in
          let pj : placed j ring ≡ s.0 = ap (λ (p : ℕ). placed p ring) ej ∙ placed_at ring s.0 o (omega (arith, s.1)) in
          let pk : placed k ring ≡ suc s.0 = ap (λ (p : ℕ). placed p ring) ek ∙ placed_at ring (suc s.0) o s.1 in
          up_next (placed j ring) (placed k ring) (omega arith)

      falling : y ≤ x → beside ring j k ≡ true
      falling g =
          let ej : j ≡ y = omega (arith, ap (λ (t : Triple). t.j) s.2) in
          let ek : k ≡ x = omega (arith, ap (λ (t : Triple). t.k) s.2) in
          let pj : placed j ring ≡ suc s.0 = ap (λ (p : ℕ). placed p ring) ej ∙ placed_at ring (suc s.0) o s.1 in
          let pk : placed k ring ≡ s.0 = ap (λ (p : ℕ). placed p ring) ek ∙ placed_at ring s.0 o (omega (arith, s.1)) in
          down_next (placed j ring) (placed k ring) (omega arith)
