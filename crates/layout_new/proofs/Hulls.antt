-- The hull of a layout: its imaginary points, its triplets and their neighbours are within what the record holds. Assumes nothing.
use Prim.Native.Nat.{ℕ, ◌+◌, ◌-◌, ◌≤◌}
use mathlib.Core.Path.{◌≡◌, refl, sym, ap, ◌∙◌}
use mathlib.Core.Bool.{Bool, true, false, ◌&&◌}
use mathlib.Core.List.{List, [], ◌∷◌, map, flat_map}
use native.Mathlib.Omega.{arith}
use borrow.Author.Tests.{ltb-true, ltb-false, lt-ltb, le-leb, eq-eqb}
use lib.Dec.{eqb, ltb, leb}
use lib.ListN.{length, get_or, length-append}
use Rattle.lists.specs.Lists.{every, any, last}
use Rattle.lists.proofs.Once.{mem_every}
use Rattle.lists.proofs.Tests.{every_append, every_snoc, every_at, neither}
use Rattle.vector.specs.Vector.{Points, inverse_rows_of}
use Rattle.layout_hull.specs.Triplets.{Triplet, triplets_of, inverse_by}
use Rattle.layout_hull.proofs.Meaning.{kept_meaning}
use Rattle.layout_hull.proofs.Verdicts.{verdict_own}
use Rattle.layout_closing.specs.Closing.{with_poles, stages, final_points, overfull}
use Rattle.layout_closing.proofs.Stages.{after, closing_after}
use Rattle.layout_closing.proofs.Meaning.{imaginary_meaning}
use Rattle.layout_neighbours.specs.Neighbours.{neighbours_of}
use Rattle.layout_neighbours.proofs.Sound.{reach_keeps}
use Rattle.layout_neighbours.proofs.Laid.{search_keeps, neighbours_few}
use Rattle.layout_record.specs.Shape.{numbers}

-- ---- tests of all elements

pub every_flat_map : {A B : Type 0} (f : B → Bool) (g : A → List B) (l : List A) → every f (flat_map g l) ≡ every (λ a. every f (g a)) l
unfolding every flat_map
every_flat_map f g [] = refl
every_flat_map f g (a ∷ l) = every_append f (g a) (flat_map g l) ∙ ap (λ (b : Bool). every f (g a) && b) (every_flat_map f g l)

-- ---- triplets

module _ (pts : Points) where
  -- point numbers are below the number of points
  pub numbers_low : every (λ p. ltb p (length pts)) (flat_map numbers (triplets_of pts)) ≡ true
  unfolding every
  numbers_low =
      every_flat_map (λ p. ltb p (length pts)) numbers (triplets_of pts)
      ∙ mem_every (λ t. every (λ p. ltb p (length pts)) (numbers t)) (triplets_of pts)
      (λ t m.
      let k = (kept_meaning pts).only t m in
      rw (
        lt-ltb t.i (length pts) (omega (arith, k.low, k.high, k.in_list)),
        lt-ltb t.j (length pts) (omega (arith, k.high, k.in_list)),
        lt-ltb t.k (length pts) k.in_list,
      ))

  -- an inverse has nine entries
  pub inverses_nine : every (λ t. eqb (length t.inv) 9) (triplets_of pts) ≡ true
  unfolding inverse_by inverse_rows_of
  inverses_nine =
      mem_every (λ t. eqb (length t.inv) 9) (triplets_of pts)
      (λ t m.
      let k = (kept_meaning pts).only t m in
      eq-eqb (length t.inv) 9 (ap (λ (u : Triplet). length u.inv) (verdict_own pts t.i t.j t.k t k.verdict_keeps)))

-- ---- imaginary points

-- at most fourteen in all, poles counted
pub final_count : (real : Points) → (length real ≤ length (final_points real)) × (length (final_points real) ≤ length real + 14)
final_count real =
    let m = imaginary_meaning real in
    let e : length (final_points real) ≡ length real + length m.points = ap length m.behind ∙ length-append real m.points in
    (omega arith, omega (arith, m.few))

-- where no list on the way is too long, the last is not
any_last : {A : Type 0} (f : A → Bool) (l : List A) (a d : A) → any f (a ∷ l) ≡ false → f (last (a ∷ l) d) ≡ false
unfolding any last
any_last f [] a d e = (neither (f a) false e).0
any_last f (b ∷ l) a d e = any_last f l b a (neither (f a) (any f (b ∷ l)) e).1

pub final_fits : (real : Points) → overfull real ≡ false → length (triplets_of (final_points real)) ≤ 80
unfolding overfull final_points stages
final_fits real e =
    let n = 14 - (length (with_poles real) - length real) in
    let f : Points → Bool = λ pts. ltb 80 (length (triplets_of pts)) in
    let c = closing_after n (with_poles real) in
    let g : any f (with_poles real ∷ after n (with_poles real)) ≡ false = sym (ap (any f) c) ∙ e in
    ltb-false 80 _ (ap (λ (l : List Points). f (last l [])) c ∙ any_last f (after n (with_poles real)) (with_poles real) [] g)

-- ---- neighbours

-- every neighbour is a slot of a real point
neighbours_low : (n : ℕ) (out : List ℕ) (ts : List (List ℕ)) (p : ℕ) → every (λ s. ltb s n) out ≡ true → every (λ s. ltb s n) (neighbours_of out ts p) ≡ true
unfolding every
neighbours_low n out ts p e =
    search_keeps (λ r. every (λ s. ltb s n) r.nbrs ≡ true) out ts
    (λ r q h. reach_keeps (λ s. every (λ s. ltb s n) s.nbrs ≡ true) out r q h
    (λ g m. every_snoc (λ s. ltb s n) r.nbrs (get_or out q 0) ∙ rw (h, every_at (λ s. ltb s n) out q 0 e g) refl)
    (λ g m f. h))
    p refl (λ l. every (λ s. ltb s n) l ≡ true) (λ r h. h)

-- at most 40 of one point
pub neighbours_fit : (out : List ℕ) (ts : List (List ℕ)) (ps : List ℕ) → every (λ s. ltb s 40) out ≡ true
    → every (λ ns. leb (length ns) 40) (map (neighbours_of out ts) ps) ≡ true
unfolding every
neighbours_fit out ts [] e = refl
neighbours_fit out ts (p ∷ ps) e =
    rw (le-leb _ 40 (neighbours_few out ts p (λ k h. ltb-true (get_or out k 0) 40 (every_at (λ s. ltb s 40) out k 0 e h)))) (neighbours_fit out ts ps e)

pub neighbours_all_low : (n : ℕ) (out : List ℕ) (ts : List (List ℕ)) (ps : List ℕ) → every (λ s. ltb s n) out ≡ true
    → every (λ s. ltb s n) (flat_map (λ ns. ns) (map (neighbours_of out ts) ps)) ≡ true
unfolding every flat_map
neighbours_all_low n out ts [] e = refl
neighbours_all_low n out ts (p ∷ ps) e =
    every_append (λ s. ltb s n) (neighbours_of out ts p) (flat_map (λ ns. ns) (map (neighbours_of out ts) ps))
    ∙ rw (neighbours_low n out ts p e, neighbours_all_low n out ts ps e) refl
