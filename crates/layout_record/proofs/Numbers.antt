-- `numbers_out`, kind by kind, as tests of the used places of the record's arrays. Assumes nothing.
use Prim.Native.Nat.{ℕ, ◌+◌, ◌*◌, ◌≤◌}
use mathlib.Core.Path.{◌≡◌, sym, ap, ◌∙◌}
use mathlib.Core.Bool.{Bool, false, ◌||◌}
use mathlib.Core.List.{List, [], ◌∷◌, map, flat_map}
use lib.Dec.{leb}
use lib.ListN.{length, take}
use Rattle.lists.specs.Lists.{any, range}
use Rattle.lists.proofs.Tests.{any_append, or_false}
use Rattle.layout_planar.specs.declared.PlanarPair.{PlanarPair}
use Rattle.layout_record.specs.Shape.{numbers, Shape}
use Rattle.layout_record.specs.Panner.{layout_in, shape_in, near_in, neighbours_at, triplet_at}
use Rattle.layout_record.specs.Malformed.{hull_slots, used_slots, used_points, any_from, numbers_out, planar_out, hull_out}
use Rattle.layout_record.specs.declared.Kind.{Kind}
use Rattle.layout_record.specs.declared.Kind.TheVariants.{Silent, Mono, Planar, Hull}
use Rattle.layout_record.specs.declared.VbapPanner.{VbapPanner}
use Rattle.lists.proofs.Parts.{threes}
use Rattle.lists.proofs.Collect.{flat_map_map}

-- ---- a ring and a hull, by the tests of their parts

pub ring_out : (outputs : ℕ) (pairs : List PlanarPair) (slots : List ℕ)
    → any_from outputs (flat_map (λ p. p.a ∷ p.b ∷ []) pairs) || any_from outputs slots ≡ planar_out outputs pairs slots
unfolding planar_out
ring_out outputs pairs slots = sym (any_append (λ o. leb outputs o) (flat_map (λ p. p.a ∷ p.b ∷ []) pairs) slots)

pub points_out : (outputs points : ℕ) (out : List ℕ) (near : ℕ → List ℕ) (n : ℕ) (corners : List ℕ)
    → any_from outputs out || any_from outputs (flat_map near (range n)) || any_from points corners ≡ hull_out outputs points out (map near (range n)) corners
unfolding hull_out
points_out outputs points out near n corners =
    sym
    (ap (λ (b : Bool). b || any_from points corners)
    (any_append (λ o. leb outputs o) out (flat_map (λ ns. ns) (map near (range n)))
    ∙ ap (λ (l : List ℕ). any_from outputs out || any_from outputs l) (flat_map_map (λ ns. ns) near (range n))))

-- ---- the record's numbers, by its kind

module _ (v : VbapPanner) where
  -- the test, at a shape
  out_in : Shape → Bool
  out_in s = any_from v.num_outputs (used_slots s) || any_from (v.num_real + v.num_imag) (used_points s)

  out_kind : (k : Kind) → v.kind ≡ k → numbers_out v ≡ out_in (shape_in v k)
  unfolding numbers_out layout_in out_in
  out_kind k e = ap (λ (k : Kind). out_in (shape_in v k)) e

  pub out_silent : v.kind ≡ Silent → numbers_out v ≡ false
  unfolding out_in shape_in used_slots used_points any
  out_silent e = out_kind Silent e

  pub out_mono : v.kind ≡ Mono → numbers_out v ≡ leb v.num_outputs v.mono
  unfolding out_in shape_in used_slots used_points any
  out_mono e = out_kind Mono e ∙ or_false _ ∙ or_false _

  pub out_planar : v.kind ≡ Planar → numbers_out v ≡ planar_out v.num_outputs (take v.num_pairs v.pairs) (take v.num_slots v.slots)
  unfolding out_in shape_in used_slots used_points any planar_out
  out_planar e = out_kind Planar e ∙ or_false _

  -- the point numbers that are reached
  pub used_points_lem : v.num_tris * 3 ≤ length v.idx → flat_map numbers (map (triplet_at v) (range v.num_tris)) ≡ take (v.num_tris * 3) v.idx
  unfolding triplet_at
  used_points_lem h = flat_map_map numbers (triplet_at v) (range v.num_tris) ∙ threes v.idx 0 v.num_tris h

  pub out_hull : v.kind ≡ Hull → v.num_tris * 3 ≤ length v.idx
      → numbers_out v
      ≡ hull_out v.num_outputs (v.num_real + v.num_imag) (take v.num_real v.pt_out) (map (near_in v.num_nbrs v.imag_nbrs) (range v.num_imag))
      (take (v.num_tris * 3) v.idx)
  unfolding out_in shape_in used_slots used_points neighbours_at hull_out
  out_hull e h =
      let slots = hull_slots (take v.num_real v.pt_out) (map (neighbours_at v) (range v.num_imag)) in
      out_kind Hull e
      ∙ ap (λ (l : List ℕ). any_from v.num_outputs slots || any_from (v.num_real + v.num_imag) l) (used_points_lem h)
