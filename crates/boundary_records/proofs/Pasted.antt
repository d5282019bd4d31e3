-- Copies of parts: a whole array that is written, or made of a part; parts that are laid one behind another. Assumes nothing.
use Prim.Native.Nat.{ℕ, zero, suc, ◌+◌, ◌-◌, ◌≤◌, ◌<◌}
use mathlib.Core.Path.{◌≡◌, refl, sym, ap, ◌∙◌}
use mathlib.Core.List.{List, [], ◌∷◌, ◌++◌, append_assoc}
use borrow.Rule.Slice.PartMut.{put_mid, Post-is}
use denote.Param.Members.{Mut}
use Rattle.std.specs.Array.{IsFromFnResult}
use Rattle.std.specs.Fn.{Called}
use Rattle.std.proofs.lemmas.List.{get_or_default}
use Rattle.lists.proofs.Made.{from_fn_made}
use Rattle.lists.proofs.Ranges.{drop_places}
use native.Mathlib.Omega.{arith}
use lib.ListN.{length, get_or, take, drop, length-append, length-drop}
use lib.Seq.{take_all, take_at, drop_at, drop-drop, take-append-le, drop-append-le}
use Rattle.boundary_records.specs.Inner.Pasted.{pasted, Pasted}
use Rattle.boundary_records.specs.Records.{section}

module _ {A : Type 0} where
  -- all of an array, written into its places
  pub put_all : (to from : List A) (at : ℕ) {ys : List A} → ys ≡ from → put_mid at (at + length from - at) to ys ≡ pasted to at from (length from)
  unfolding pasted
  put_all to from at {ys} e =
      ap (λ (y : List A). take at to ++ (y ++ drop (at + length from - at) (drop at to))) e
      ∙ ap (λ (r : List A). take at to ++ (from ++ r)) (Post-is at (at + length from) to (omega arith))
      ∙ sym (append_assoc (take at to) from (drop (at + length from) to))
      ∙ ap (λ (x : List A). take at to ++ x ++ drop (at + length from) to) (sym (take_all (length from) from (omega arith)))

  -- the same, where the array's length is known
  pub put_is : {to from r : List A} {at n : ℕ} → Pasted to at from (length from) r → length from ≡ n → Pasted to at from n r
  put_is {to} {from} {r} {at} {n} e l = record { is = e.is ∙ ap (pasted to at from) l }

  -- an array behind the places that are laid already
  pub laid_behind : (xs ys to : List A) (b n m : ℕ) → length xs ≡ b → length ys ≡ n → b + n ≡ m
      → pasted (xs ++ drop b to) b ys n ≡ xs ++ ys ++ drop m to
  unfolding pasted
  laid_behind xs ys to b n m h g e =
      ap (λ (l : List A). l ++ take n ys ++ drop (b + n) (xs ++ drop b to)) (take_at xs (drop b to) b h)
      ∙ ap (λ (l : List A). xs ++ l ++ drop (b + n) (xs ++ drop b to)) (take_all n ys (omega arith))
      ∙ ap (λ (l : List A). xs ++ ys ++ l) (sym (drop-drop n b (xs ++ drop b to)) ∙ ap (drop n) (drop_at xs (drop b to) b h) ∙ drop-drop n b to ∙ ap (λ (k : ℕ). drop k to) e)

  pub length_two : (xs ys : List A) (b n m : ℕ) → length xs ≡ b → length ys ≡ n → b + n ≡ m → length (xs ++ ys) ≡ m
  length_two xs ys b n m h g e = omega (arith, length-append xs ys, h, g, e)

  -- a section of what stands in front, and the last one
  pub section_front : (l m : List A) (i n k : ℕ) → length l ≡ k → i + n ≤ k → section i n (l ++ m) ≡ section i n l
  section_front l m i n k h g =
      ap (take n) (drop-append-le i l m (omega arith)) ∙ take-append-le n (drop i l) m (omega (arith, length-drop i l))

  pub section_last : (xs ys : List A) (i n : ℕ) → length xs ≡ i → length ys ≡ n → section i n (xs ++ ys) ≡ ys
  section_last xs ys i n h g = ap (take n) (drop_at xs ys i h) ∙ take_all n ys (omega arith)

  -- several, one after another
  module _ {t r1 r2 x y : List A} {b1 n1 b2 n2 : ℕ} (e1 : Pasted t b1 x n1 r1) (e2 : Pasted r1 b2 y n2 r2) where
    pub two_pasted : r2 ≡ pasted (pasted t b1 x n1) b2 y n2
    two_pasted = e2.is ∙ ap (λ (l : List A). pasted l b2 y n2) e1.is

    module _ {r3 z : List A} {b3 n3 : ℕ} (e3 : Pasted r2 b3 z n3 r3) where
      pub three_pasted : r3 ≡ pasted (pasted (pasted t b1 x n1) b2 y n2) b3 z n3
      three_pasted = e3.is ∙ ap (λ (l : List A). pasted l b3 z n3) two_pasted

      pub four_pasted : {r4 w : List A} {b4 n4 : ℕ} → Pasted r3 b4 w n4 r4 → r4 ≡ pasted (pasted (pasted (pasted t b1 x n1) b2 y n2) b3 z n3) b4 w n4
      four_pasted {r4} {w} {b4} {n4} e4 = e4.is ∙ ap (λ (l : List A). pasted l b4 w n4) three_pasted

-- the closure reads the places of a list from `at` on
module _ {A F : Type 0} (g : Mut F (ℕ × Unit {0}) A) (from : List A) (at : ℕ) where
  pub section_made : (n : ℕ) {f : F} {ys : List A} → at + n ≤ length from → IsFromFnResult g f ys n
      → ((j : ℕ) (r : A) (q : F) → j < n → Called g f (j, tt) r q → (q ≡ f) × (r ≡ get_or from (at + j) r)) → ys ≡ take n (drop at from)
  section_made zero {f} {ys} h made w = none ys made.long
    where
      none : (l : List A) → length l ≡ 0 → l ≡ []
      none [] e = refl
      none (x ∷ l) e = absurd (omega arith)
  section_made (suc n) {f} {ys} h made w =
      let d = made.each.1 in
      from_fn_made g (λ j. get_or from (at + j) d) made
      (λ j r q b k. let p = w j r q b k in (p.0, p.1 ∙ get_or_default from (at + j) r d (omega arith)))
      ∙ sym (drop_places from d at (suc n) h)
