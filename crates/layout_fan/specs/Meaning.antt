-- Document 01, "Layout", the paragraph "Hull", and "Tempting but wrong" ("dividing a ring of coplanar speakers more than once"); source line 317 ("canonical fan triangulation from its lowest index"): which triples of points in one plane pass test 4. The points are divided once, as a fan from their lowest number.
-- This holds of points that all their triples see alike. Triples of a nearly flat face may disagree on what is flat: docs/RATIONALE.md, finding 3.
-- Proved: `FanMeaning` by `fan_meaning` in proofs/Meaning.antt, `FanCount` by `fan_count` in proofs/Rings.antt. Crate layout_hull states it of the list of triplets and computes an example (specs/Divided.antt). Assumes nothing.
use Rattle.std.specs.Prelude.{ℕ, ◌-◌, ◌<◌, min, max, ◌≡◌, Bool, true, ◌&&◌, ◌↔◌, ltb, length}
use mathlib.Core.List.{List, [], ◌∷◌, map, Memᴰ}
use Rattle.lists.specs.Lists.{Once, filter, every, member}
use Rattle.vector.specs.Vector.{Points}
use Rattle.layout_faces.specs.Faces.{Plane, others}
use Rattle.layout_fan.specs.Fan.{coplanar, fan, in_fan}

-- ---- triples

-- three point numbers
pub record Triple : Type 0 where
  pub i : ℕ
  pub j : ℕ
  pub k : ℕ

abbrev pub is_of : List ℕ → Triple → Bool
is_of set t = member t.i set && member t.j set && member t.k set

-- t is a triple i < j < k of the set
pub record Among (set : List ℕ) (t : Triple) : Type 0 where
  pub low : t.i < t.j
  pub high : t.j < t.k
  pub within : is_of set t ≡ true

-- ---- the fan

-- i with two others, these in rising order
abbrev pub triangle : ℕ → ℕ → ℕ → Triple
triangle i a b = record { i = i; j = min a b; k = max a b }

-- a ring divided once, as a fan from i: i with every two neighbours of the ring
unfoldable pub fan_from : ℕ → List ℕ → List Triple
fan_from i [] = []
fan_from i (a ∷ []) = []
fan_from i (a ∷ (b ∷ l)) = triangle i a b ∷ fan_from i (b ∷ l)

-- ---- test 4, where `plane` says of each triple the plane that it is tested with

unfoldable pub in_plane : Points → (Triple → Plane) → Triple → List ℕ
in_plane pts plane t = coplanar pts (plane t) (others (length pts) t.i t.j t.k)

unfoldable pub fan_keeps : Points → (Triple → Plane) → Triple → Bool
fan_keeps pts plane t = in_fan pts (plane t).nrm t.i t.j t.k (in_plane pts plane t)

-- the numbers in the order of the angles from i that the triple sees
unfoldable pub ring_by : Points → (Triple → Plane) → Triple → List ℕ
ring_by pts plane t = map (λ s. s.number) (fan pts (plane t).nrm t.i (t.j ∷ t.k ∷ in_plane pts plane t))

-- ---- the law

-- i and the numbers of `ring` are points that all their triples see alike
pub record SeenAlike (pts : Points) (plane : Triple → Plane) (i : ℕ) (ring : List ℕ) : Type 0 where
  -- they are points, each listed once, i the lowest
  pub points : every (λ p. ltb p (length pts)) (i ∷ ring) ≡ true
  pub once : Once ring
  pub lowest : every (λ p. ltb i p) ring ≡ true
  -- in one plane with a triple of them are the others of them, and no other point
  pub one_set : (t : Triple) → Among (i ∷ ring) t → in_plane pts plane t ≡ filter (λ p. member p (i ∷ ring)) (others (length pts) t.i t.j t.k)
  -- a triple of them that has i sees the others in the order of `ring`
  pub one_ring : (t : Triple) → Among (i ∷ ring) t → t.i ≡ i → ring_by pts plane t ≡ ring

-- Of the triples of such points test 4 keeps those of the fan from i, and no other.
abbrev pub FanMeaning : Type 0
FanMeaning = (pts : Points) (plane : Triple → Plane) (i : ℕ) (ring : List ℕ) → SeenAlike pts plane i ring
    → (t : Triple) → Among (i ∷ ring) t → (fan_keeps pts plane t ≡ true) ↔ Memᴰ t (fan_from i ring)

-- The fan of m points has m - 2 triples, each once.
pub record Counted (i : ℕ) (ring : List ℕ) : Type 0 where
  pub count : length (fan_from i ring) ≡ length (i ∷ ring) - 2
  pub once : Once (fan_from i ring)

abbrev pub FanCount : Type 0
FanCount = (i : ℕ) (ring : List ℕ) → Once ring → Counted i ring
