-- Laws of the steps: a gain in a slot, in a sum, shared out from the front. Each goes place by place. Assumes nothing.
use Prim.Native.Nat.{ℕ, zero, suc, ◌+◌, ◌≤◌, ◌<◌}
use mathlib.Core.Bool.{Bool, true, false, ◌&&◌, not}
use mathlib.Core.Path.{◌≡◌, refl, sym, ap, ◌∙◌, subst}
use mathlib.Core.List.{List}
use native.Mathlib.Numerals.{add-one}
use lib.ListN.{length, get_or, take, replicate, get_or-replicate, get_or-eq_default}
use lib.Dec.{eqb, ltb}
use lib.Ieee.{Float, nan, binary32, div, lt}
use borrow.Author.Tests.{lt-ltb, ltb-true, ltb-false}
use Rattle.lists.specs.Lists.{is_empty, part}
use Rattle.lists.proofs.Tests.{and_left, and_right, empty_length}
use Rattle.row_fill.proofs.Folds.{fold_none, fold_more}
use Rattle.float_order.specs.Values.{+0, count32}
use Rattle.float_root.specs.Root.{sqrt_of}
use Rattle.layout_record.specs.declared.VbapPanner.{VbapPanner}
use Rattle.row_fill.specs.Inner.Filling.{to_imag, corners, is_real, real_points, imag_points, add_each, shared_by, shared_at, shared_out, placed}

-- ---- a gain to an imaginary point, or none

pub imag_no : (n p : ℕ) (imag : List Float) (g : Float) → p < n → imag ≡ to_imag n imag p g
unfolding to_imag
imag_no n p imag g k = rw (lt-ltb p n k) refl

-- ---- an imaginary gain shared out

-- whether there is a gain, and a neighbour
module _ (nbrs : List ℕ) (g : Float) (row : List Float) {none : Bool} (is : none ≡ eqb (length nbrs) 0) where
  test_told : (lt +0 g && not (is_empty nbrs)) ≡ (lt +0 g && not none)
  test_told = ap (λ (b : Bool). lt +0 g && not b) (empty_length nbrs ∙ sym is)

  pub shared_yes : {w : Float} → w ≡ div binary32 g (sqrt_of binary32 (count32 (length nbrs))) → lt +0 g && not none ≡ true → add_each w row nbrs ≡ shared_by nbrs g row
  unfolding shared_by
  shared_yes e t = rw (test_told ∙ t, e) refl

  pub shared_no : lt +0 g && not none ≡ false → row ≡ shared_by nbrs g row
  unfolding shared_by
  shared_no t = rw (test_told ∙ t) refl

module _ (counts nbrs : List ℕ) (imag row : List Float) where
  pub shared_none : row ≡ shared_out counts nbrs imag 0 row
  unfolding shared_out
  shared_none = sym (fold_none (shared_at counts nbrs imag) row)

  pub shared_more : (k : ℕ) → shared_by (take (get_or counts k 0) (part 40 nbrs k)) (get_or imag k nan) (shared_out counts nbrs imag k row) ≡ shared_out counts nbrs imag (k + 1) row
  unfolding shared_out shared_at
  shared_more k = sym (fold_more (shared_at counts nbrs imag) row k)

-- ---- a triplet of real points has nothing to share

module _ (counts nbrs : List ℕ) (imag row : List Float) (none : (k : ℕ) → lt +0 (get_or imag k nan) ≡ false) where
  shared_nothing : (n : ℕ) → shared_out counts nbrs imag n row ≡ row
  unfolding shared_out shared_at shared_by
  shared_nothing zero = fold_none (shared_at counts nbrs imag) row
  shared_nothing (suc n) =
      subst (λ (k : ℕ). shared_out counts nbrs imag k row ≡ row) (add-one n)
      (fold_more (shared_at counts nbrs imag) row n ∙ rw (none n) (shared_nothing n))

zero_none : (k : ℕ) → lt +0 (get_or (replicate 14 +0) k nan) ≡ false
unfolding lt
zero_none k = by (ltb k 14) refl
  where
    by : (b : Bool) → ltb k 14 ≡ b → lt +0 (get_or (replicate 14 +0) k nan) ≡ false
    by true e = rw (get_or-replicate 14 k +0 nan (ltb-true k 14 e)) refl
    by false e = let h : length (replicate 14 +0) ≤ k = ltb-false k 14 e in rw (get_or-eq_default (replicate 14 +0) nan {n = k} h) refl

pub real_shares : (n : ℕ) (points : List ℕ) (g : List Float) → is_real n points ≡ true
    → (counts nbrs : List ℕ) (m : ℕ) (row : List Float) → row ≡ shared_out counts nbrs (imag_points n points g) m row
unfolding is_real imag_points
real_shares n points g e counts nbrs m row =
    let i = get_or points 0 0 in
    let j = get_or points 1 0 in
    let k = get_or points 2 0 in
    let p = and_left (ltb i n && ltb j n) (ltb k n) e in
    let z = replicate 14 +0 in
    let w = imag_no n i z (get_or g 0 nan) (ltb-true i n (and_left (ltb i n) (ltb j n) p)) ∙ imag_no n j _ (get_or g 1 nan) (ltb-true j n (and_right (ltb i n) (ltb j n) p)) ∙ imag_no n k _ (get_or g 2 nan) (ltb-true k n (and_right (ltb i n && ltb j n) (ltb k n) e)) in
    sym (ap (λ (l : List Float). shared_out counts nbrs l m row) (sym w) ∙ shared_nothing counts nbrs z row zero_none m)

-- ---- the row of a triplet

module _ (slots : List ℕ) (v : VbapPanner) (t : ℕ) (g : List Float) (n : ℕ) where
  pub placed_told : {row : List Float} → row ≡ real_points slots (corners v.idx t) g (replicate n +0)
      → shared_out v.num_nbrs v.imag_nbrs (imag_points (length slots) (corners v.idx t) g) v.num_imag row ≡ placed slots v t g n
  unfolding placed
  placed_told e = rw e refl
