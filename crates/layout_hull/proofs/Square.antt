-- The four corners of a square are seen alike and divided once: each of their four triples, by computing. Assumes nothing.
use Prim.Native.Nat.{ℕ, ◌<◌}
use mathlib.Core.Path.{◌≡◌, refl, sym, ap, ◌∙◌, subst}
use mathlib.Core.Bool.{true, false≢true}
use mathlib.Core.List.Memᴰ
use mathlib.Core.List.{List, [], ◌∷◌, map}
use lib.IntN.{pos}
use lib.ListN.{length}
use lib.Ieee.{Float, fin, round, neg, add, sub, mul, div, rem, lt, le, eq, of_bits}
use lib.Dec.{ltb}
use native.Mathlib.Decide.{dec_le}
use native.Mathlib.Omega.{arith}
use borrow.Author.Tests.{ltb-true}
use Rattle.lists.specs.Lists.{Once, from, range, filter, every, any, member}
use Rattle.lists.proofs.Once.{every_mem, mem_member}
use Rattle.float_order.specs.Values.{+0, 1·0, abs, sign_bit}
use Rattle.float_order.specs.Remainder.{rem_euclid_of}
use Rattle.float_root.specs.Root.{sqrt_of}
use Rattle.float_sine.specs.Series.{coefficients, sum_of}
use Rattle.float_arctangent.specs.Arctangent.{arctangent_coefficients, halved_of, eightfold_of, atan_of, ratio_of, first_quadrant_of, with_sign_of_x, with_sign_of_y, atan2_of}
use Rattle.vector.specs.Vector.{Vector, minor, cross_of, determinant_of, dot_in, dot_of, less_of, over_of, negated_of, length_of}
use Rattle.angle_sort.specs.Order.{insert_of, sorted_of}
use Rattle.layout_faces.specs.Faces.{Plane, others, height, raw_normal, plane_through, all_below, all_above, outward}
use Rattle.layout_fan.specs.Fan.{coplanar, helper, basis_u, angle_in, fan}
use Rattle.layout_fan.specs.Meaning.{Triple, Among, fan_from, in_plane, ring_by, SeenAlike}
use Rattle.layout_fan.proofs.Meaning.{among_members}
use Rattle.layout_hull.specs.Divided.{outward_plane, other_tests, square, SquareDivided}
use Rattle.layout_hull.proofs.Divided.{divided_once}

abbrev plane_of : Vector → Float → Plane
plane_of u l = record { nrm = u; d = l }

abbrev triple : ℕ → ℕ → ℕ → Triple
triple i j k = record { i = i; j = j; k = k }

-- ---- the four triples

module _ (P : Triple → Type 0) (p012 : P (triple 0 1 2)) (p013 : P (triple 0 1 3)) (p023 : P (triple 0 2 3)) (p123 : P (triple 1 2 3)) where
  named : (t : Triple) (i j k : ℕ) → t.i ≡ i → t.j ≡ j → t.k ≡ k → P (triple i j k) → P t
  named t i j k e f g p =
      subst P (sym (ap (λ (n : ℕ). triple n t.j t.k) e ∙ ap (λ (n : ℕ). triple i n t.k) f ∙ ap (λ (n : ℕ). triple i j n) g)) p

  four : (t : Triple) → t.i < t.j → t.j < t.k → t.k < 4 → P t
  four t h g m = elim (dec_le 1 t.i) [
    | yes a ↦ named t 1 2 3 (omega arith) (omega arith) (omega arith) p123
    | no a ↦ elim (dec_le 2 t.j) [
      | yes b ↦ named t 0 2 3 (omega arith) (omega arith) (omega arith) p023
      | no b ↦ elim (dec_le 3 t.k) [
        | yes c ↦ named t 0 1 3 (omega arith) (omega arith) (omega arith) p013
        | no c ↦ named t 0 1 2 (omega arith) (omega arith) (omega arith) p012
      ]
    ]
  ]

-- ---- their planes

abbrev −0 : Float
−0 = fin true 0 (pos 0)

abbrev −1 : Float
−1 = fin true 1 (pos 0)

plane_012 : outward_plane square (triple 0 1 2) ≡ plane_of (−0 ∷ +0 ∷ −1 ∷ []) 1·0
unfolding outward_plane plane_through raw_normal less_of cross_of minor over_of length_of dot_of dot_in sqrt_of all_below every others filter range from height outward negated_of round neg add sub mul div lt of_bits
plane_012 = refl

plane_013 : outward_plane square (triple 0 1 3) ≡ plane_of (−0 ∷ −0 ∷ −1 ∷ []) 1·0
unfolding outward_plane plane_through raw_normal less_of cross_of minor over_of length_of dot_of dot_in sqrt_of all_below every others filter range from height outward negated_of round neg add sub mul div lt of_bits
plane_013 = refl

plane_023 : outward_plane square (triple 0 2 3) ≡ plane_of (−0 ∷ −0 ∷ −1 ∷ []) 1·0
unfolding outward_plane plane_through raw_normal less_of cross_of minor over_of length_of dot_of dot_in sqrt_of all_below every others filter range from height outward negated_of round neg add sub mul div lt of_bits
plane_023 = refl

plane_123 : outward_plane square (triple 1 2 3) ≡ plane_of (+0 ∷ +0 ∷ −1 ∷ []) 1·0
unfolding outward_plane plane_through raw_normal less_of cross_of minor over_of length_of dot_of dot_in sqrt_of all_below every others filter range from height outward negated_of round neg add sub mul div lt of_bits
plane_123 = refl

-- ---- the ring by each

ring_a : map (λ s. s.number) (fan square (−0 ∷ +0 ∷ −1 ∷ []) 0 (1 ∷ 2 ∷ 3 ∷ [])) ≡ 3 ∷ 1 ∷ 2 ∷ []
unfolding fan sorted_of insert_of angle_in basis_u helper cross_of minor over_of length_of dot_of dot_in rem_euclid_of sqrt_of atan2_of with_sign_of_x with_sign_of_y first_quadrant_of ratio_of atan_of eightfold_of halved_of arctangent_coefficients coefficients sum_of abs sign_bit round neg add sub mul div rem lt le eq of_bits
ring_a = refl

ring_b : map (λ s. s.number) (fan square (−0 ∷ −0 ∷ −1 ∷ []) 0 (1 ∷ 3 ∷ 2 ∷ [])) ≡ 3 ∷ 1 ∷ 2 ∷ []
unfolding fan sorted_of insert_of angle_in basis_u helper cross_of minor over_of length_of dot_of dot_in rem_euclid_of sqrt_of atan2_of with_sign_of_x with_sign_of_y first_quadrant_of ratio_of atan_of eightfold_of halved_of arctangent_coefficients coefficients sum_of abs sign_bit round neg add sub mul div rem lt le eq of_bits
ring_b = refl

ring_c : map (λ s. s.number) (fan square (−0 ∷ −0 ∷ −1 ∷ []) 0 (2 ∷ 3 ∷ 1 ∷ [])) ≡ 3 ∷ 1 ∷ 2 ∷ []
unfolding fan sorted_of insert_of angle_in basis_u helper cross_of minor over_of length_of dot_of dot_in rem_euclid_of sqrt_of atan2_of with_sign_of_x with_sign_of_y first_quadrant_of ratio_of atan_of eightfold_of halved_of arctangent_coefficients coefficients sum_of abs sign_bit round neg add sub mul div rem lt le eq of_bits
ring_c = refl

-- ---- what each triple sees

abbrev set : List ℕ
set = 0 ∷ 3 ∷ 1 ∷ 2 ∷ []

abbrev SeesSet : Triple → Type 0
SeesSet t = in_plane square (outward_plane square) t ≡ filter (λ p. member p set) (others (length square) t.i t.j t.k)

abbrev SeesRing : Triple → Type 0
SeesRing t = t.i ≡ 0 → ring_by square (outward_plane square) t ≡ 3 ∷ 1 ∷ 2 ∷ []

-- by the triple's plane f
module _ (t : Triple) (f : Plane) (e : outward_plane square t ≡ f) where
  sees_set : coplanar square f (others (length square) t.i t.j t.k) ≡ filter (λ p. member p set) (others (length square) t.i t.j t.k) → SeesSet t
  unfolding in_plane
  sees_set g = ap (λ (q : Plane). coplanar square q (others (length square) t.i t.j t.k)) e ∙ g

  sees_ring : (ps : List ℕ) → coplanar square f (others (length square) t.i t.j t.k) ≡ ps
      → map (λ s. s.number) (fan square f.nrm t.i (t.j ∷ t.k ∷ ps)) ≡ 3 ∷ 1 ∷ 2 ∷ [] → SeesRing t
  unfolding ring_by in_plane
  sees_ring ps g r z =
      ap (λ (q : Plane). map (λ s. s.number) (fan square q.nrm t.i (t.j ∷ t.k ∷ coplanar square q (others (length square) t.i t.j t.k)))) e
      ∙ ap (λ (l : List ℕ). map (λ s. s.number) (fan square f.nrm t.i (t.j ∷ t.k ∷ l))) g ∙ r

set_012 : SeesSet (triple 0 1 2)
unfolding coplanar others filter range from any height dot_of dot_in round neg add sub mul le of_bits
set_012 = sees_set (triple 0 1 2) (plane_of (−0 ∷ +0 ∷ −1 ∷ []) 1·0) plane_012 refl

set_013 : SeesSet (triple 0 1 3)
unfolding coplanar others filter range from any height dot_of dot_in round neg add sub mul le of_bits
set_013 = sees_set (triple 0 1 3) (plane_of (−0 ∷ −0 ∷ −1 ∷ []) 1·0) plane_013 refl

set_023 : SeesSet (triple 0 2 3)
unfolding coplanar others filter range from any height dot_of dot_in round neg add sub mul le of_bits
set_023 = sees_set (triple 0 2 3) (plane_of (−0 ∷ −0 ∷ −1 ∷ []) 1·0) plane_023 refl

set_123 : SeesSet (triple 1 2 3)
unfolding coplanar others filter range from any height dot_of dot_in round neg add sub mul le of_bits
set_123 = sees_set (triple 1 2 3) (plane_of (+0 ∷ +0 ∷ −1 ∷ []) 1·0) plane_123 refl

ring_012 : SeesRing (triple 0 1 2)
unfolding coplanar others filter range from height dot_of dot_in round neg add sub mul le of_bits
ring_012 = sees_ring (triple 0 1 2) (plane_of (−0 ∷ +0 ∷ −1 ∷ []) 1·0) plane_012 (3 ∷ []) refl ring_a

ring_013 : SeesRing (triple 0 1 3)
unfolding coplanar others filter range from height dot_of dot_in round neg add sub mul le of_bits
ring_013 = sees_ring (triple 0 1 3) (plane_of (−0 ∷ −0 ∷ −1 ∷ []) 1·0) plane_013 (2 ∷ []) refl ring_b

ring_023 : SeesRing (triple 0 2 3)
unfolding coplanar others filter range from height dot_of dot_in round neg add sub mul le of_bits
ring_023 = sees_ring (triple 0 2 3) (plane_of (−0 ∷ −0 ∷ −1 ∷ []) 1·0) plane_023 (1 ∷ []) refl ring_c

ring_123 : SeesRing (triple 1 2 3)
ring_123 z = absurd (omega arith)

-- ---- the square

below_four : (t : Triple) → Among set t → t.k < 4
unfolding every
below_four t a = ltb-true t.k 4 (every_mem (λ p. ltb p 4) set refl (among_members set t a).2)

ring_once : Once {A = ℕ} (3 ∷ 1 ∷ 2 ∷ [])
unfolding any
ring_once = (
  λ m. false≢true (mem_member 3 (1 ∷ 2 ∷ []) m),
  (λ m. false≢true (mem_member 1 (2 ∷ []) m), (λ m. Memᴰ.not-nil m, tt)),
)

square_seen : SeenAlike square (outward_plane square) 0 (3 ∷ 1 ∷ 2 ∷ [])
unfolding every
square_seen =
    record {
      points = refl;
      once = ring_once;
      lowest = refl;
      one_set = λ t a. four SeesSet set_012 set_013 set_023 set_123 t a.low a.high (below_four t a);
      one_ring = λ t a. four SeesRing ring_012 ring_013 ring_023 ring_123 t a.low a.high (below_four t a);
    }

-- ---- the other tests

tests_013 : other_tests square (triple 0 1 3) ≡ true
unfolding other_tests outward_plane determinant_of plane_through raw_normal less_of cross_of minor over_of length_of dot_of dot_in sqrt_of abs all_below all_above every others filter range from height outward negated_of round neg add sub mul div lt of_bits
tests_013 = refl

tests_012 : other_tests square (triple 0 1 2) ≡ true
unfolding other_tests outward_plane determinant_of plane_through raw_normal less_of cross_of minor over_of length_of dot_of dot_in sqrt_of abs all_below all_above every others filter range from height outward negated_of round neg add sub mul div lt of_bits
tests_012 = refl

square_fan : fan_from 0 (3 ∷ 1 ∷ 2 ∷ []) ≡ triple 0 1 3 ∷ triple 0 1 2 ∷ []
unfolding fan_from
square_fan = refl

pub square_divided : SquareDivided
unfolding fan_from every
square_divided = record { seen_alike = square_seen; two_triples = divided_once square 0 (3 ∷ 1 ∷ 2 ∷ []) square_seen (rw (tests_013, tests_012)) }
