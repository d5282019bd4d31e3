-- Points that all their triples see alike are divided once: the list of triplets has each kept triple once, and a triple of such points is kept where it is the fan's and the other tests pass. Assumes nothing.
use Prim.Native.Nat.{ℕ, ◌<◌}
use mathlib.Core.Path.{◌≡◌, refl, sym, ap, ◌∙◌}
use mathlib.Core.Bool.{Bool, true, false, ◌&&◌, not, cond}
use mathlib.Core.List.Memᴰ
use mathlib.Core.List.{List, ◌∷◌, map, Memᴰ}
use native.Mathlib.Omega.{arith}
use lib.ListN.{length, get_or, length-map}
use borrow.Author.Tests.{ltb-true}
use lib.Dec.{ltb}
use Rattle.lists.specs.Lists.{Once, every}
use Rattle.lists.proofs.Ranges.{get_d_map}
use Rattle.lists.proofs.Once.{every_mem, mem_filter, filter_mem, once_filter, once_places, once_fewer, once_same}
use Rattle.vector.specs.Vector.{Points}
use Rattle.layout_faces.specs.Faces.{Plane, point, others, thin, plane_through, one_sided, close}
use Rattle.layout_fan.specs.Meaning.{Triple, Among, is_of, fan_from, in_plane, fan_keeps, SeenAlike}
use Rattle.layout_fan.proofs.Rings.{fan_among, fan_count}
use Rattle.layout_fan.proofs.Meaning.{among_members, fan_meaning}
use Rattle.layout_hull.specs.Triplets.{Triplet, skip, open_hull, keep, singular, verdict_by, verdict, triplets_of}
use Rattle.layout_hull.specs.Meaning.{Before, by_i, by_j, by_k}
use Rattle.layout_hull.specs.Divided.{outward_plane, other_tests, numbers, kept_of, DividedOnce, NotTwice}
use Rattle.layout_hull.proofs.Verdicts.{triplet_at}
use Rattle.layout_hull.proofs.Meaning.{kept_meaning}

-- ---- the verdict by its tests

module _ (pts : Points) (t : Triple) where
  abbrev through : Plane
  through = plane_through (point pts t.i) (point pts t.j) (point pts t.k)

  abbrev rest : List ℕ
  rest = others (length pts) t.i t.j t.k

  abbrev is_thin : Bool
  is_thin = thin (point pts t.i) (point pts t.j) (point pts t.k)

  abbrev is_face : Bool
  is_face = one_sided pts through rest

  abbrev is_near : Bool
  is_near = close (outward_plane pts t).d

  abbrev is_small : Bool
  is_small = singular (point pts t.i) (point pts t.j) (point pts t.k)

  -- what is kept, the fan's test keeps
  kept_fan : (u : Triplet) → verdict pts t.i t.j t.k ≡ keep u → fan_keeps pts (outward_plane pts) t ≡ true
  unfolding verdict verdict_by fan_keeps in_plane outward_plane
  kept_fan u e = by is_thin is_face is_near (fan_keeps pts (outward_plane pts) t) is_small (triplet_at pts t.i t.j t.k) e
    where
      by : (thin face near fans small : Bool) (w : Triplet)
          → cond thin skip (cond (not face) skip (cond near open_hull (cond (not fans) skip (cond small skip (keep w))))) ≡ keep u → fans ≡ true
      by true face near fans small w e = cc
      by false false near fans small w e = cc
      by false true true fans small w e = cc
      by false true false true small w e = refl
      by false true false false small w e = cc

  -- and what all tests keep, the verdict keeps
  tests_keep : other_tests pts t ≡ true → fan_keeps pts (outward_plane pts) t ≡ true → verdict pts t.i t.j t.k ≡ keep (triplet_at pts t.i t.j t.k)
  unfolding verdict verdict_by fan_keeps in_plane outward_plane other_tests
  tests_keep e g = by is_thin is_face is_near (fan_keeps pts (outward_plane pts) t) is_small (triplet_at pts t.i t.j t.k) e g
    where
      by : (thin face near fans small : Bool) (w : Triplet) → not thin && face && not near && not small ≡ true → fans ≡ true
          → cond thin skip (cond (not face) skip (cond near open_hull (cond (not fans) skip (cond small skip (keep w))))) ≡ keep w
      by true face near fans small w e g = cc
      by false false near fans small w e g = cc
      by false true true fans small w e g = cc
      by false true false false small w e g = cc
      by false true false true true w e g = cc
      by false true false true false w e g = refl

-- ---- each triple once

before_apart : (t u : Triplet) → Before t u → numbers t ≡ numbers u → ⊥
before_apart t u (by_i h) e = omega (arith, ap (λ (s : Triple). s.i) e)
before_apart t u (by_j g h) e = omega (arith, ap (λ (s : Triple). s.j) e)
before_apart t u (by_k g f h) e = omega (arith, ap (λ (s : Triple). s.k) e)

triples_once : (pts : Points) → Once (map numbers (triplets_of pts))
triples_once pts =
    once_places (map numbers (triplets_of pts)) (numbers none)
    (λ p q h m e.
    let l = triplets_of pts in
    let n : q < length l = omega (arith, length-map l numbers) in
    before_apart (get_or l p none) (get_or l q none) ((kept_meaning pts).ascending p q none h n)
    (sym (get_d_map numbers l p none (numbers none) (omega arith)) ∙ e ∙ get_d_map numbers l q none (numbers none) n))
  where
    none : Triplet
    none = triplet_at pts 0 0 0

-- ---- the kept triples of a set

module _ (pts : Points) (i : ℕ) (ring : List ℕ) (s : SeenAlike pts (outward_plane pts) i ring) where
  kept_once : Once (kept_of pts (i ∷ ring))
  unfolding kept_of
  kept_once = once_filter (is_of (i ∷ ring)) (map numbers (triplets_of pts)) (triples_once pts)

  kept_only : (t : Triple) → Memᴰ t (kept_of pts (i ∷ ring)) → Memᴰ t (fan_from i ring)
  unfolding kept_of
  kept_only t m =
      let f = mem_filter (is_of (i ∷ ring)) (map numbers (triplets_of pts)) m in
      let r = Memᴰ.of_map numbers (triplets_of pts) f.0 in
      let u = r.0 in
      let k = (kept_meaning pts).only u r.1 in
      let a : Among (i ∷ ring) (numbers u) = record { low = k.low; high = k.high; within = ap (is_of (i ∷ ring)) r.2 ∙ f.1 } in
      Memᴰ.cast (sym r.2) ((fan_meaning pts (outward_plane pts) i ring s (numbers u) a).0 (kept_fan pts (numbers u) u k.verdict_keeps))

  kept_all : every (other_tests pts) (fan_from i ring) ≡ true → (t : Triple) → Memᴰ t (fan_from i ring) → Memᴰ t (kept_of pts (i ∷ ring))
  unfolding kept_of
  kept_all e t m =
      let a = fan_among i ring s.once s.lowest t m in
      let u = triplet_at pts t.i t.j t.k in
      let g = (fan_meaning pts (outward_plane pts) i ring s t a).1 m in
      let k = tests_keep pts t (every_mem (other_tests pts) (fan_from i ring) e m) g in
      let h : t.k < length pts = ltb-true t.k (length pts) (every_mem (λ p. ltb p (length pts)) (i ∷ ring) s.points (among_members (i ∷ ring) t a).2) in
      let l = (kept_meaning pts).all u (record { low = a.low; high = a.high; in_list = h; verdict_keeps = k }) in
      filter_mem (is_of (i ∷ ring)) (map numbers (triplets_of pts)) (Memᴰ.map numbers l) a.within

pub divided_once : DividedOnce
divided_once pts i ring s e =
    once_same (kept_of pts (i ∷ ring)) (fan_from i ring) (kept_once pts i ring s) (fan_count i ring s.once).once (kept_only pts i ring s) (kept_all pts i ring s e)

pub not_twice : NotTwice
not_twice pts i ring s =
    record {
      once = kept_once pts i ring s;
      only = kept_only pts i ring s;
      count = omega (arith, once_fewer (kept_of pts (i ∷ ring)) (fan_from i ring) (kept_once pts i ring s) (kept_only pts i ring s), (fan_count i ring s.once).count);
    }
