-- A run of stores that begins with two numbers read from a list, and goes on with a part that is filled. Assumes nothing.
use Prim.Native.Nat.{ℕ, ◌+◌, ◌-◌, ◌≤◌}
use mathlib.Core.Path.{◌≡◌, sym, ap, ◌∙◌}
use mathlib.Core.List.{List, ◌++◌, append_assoc}
use native.Mathlib.Numerals.{add-one, add-two}
use native.Mathlib.Omega.{arith}
use borrow.Rule.Slice.PartMut.{put_mid, Post-is}
use lib.ListN.{length, get_or, take, drop, set, length-set}
use lib.Seq.{sets}
use Rattle.std.proofs.lemmas.List.Edits.{sets-eq}
use Rattle.lists.proofs.Parts.{take_two}

module _ {A : Type 0} where
  -- two numbers from place k on at another place, and a run after them
  pub sets_two : (l : List A) (i k : ℕ) (d : A) (vs : List A) → k + 2 ≤ length l
      → sets (set (set l i (get_or l k d)) (i + 1) (get_or l (k + 1) d)) (i + 2) vs ≡ sets l i (take 2 (drop k l) ++ vs)
  sets_two l i k d vs h = rw (take_two l k d h, add-one, add-two)

  -- and a part of the list in the place of the run
  pub part_two : (l : List A) (i e k : ℕ) (d : A) (vs : List A) → k + 2 ≤ length l → i + 2 + length vs ≡ e → e ≤ length l
      → put_mid (i + 2) (e - (i + 2)) (set (set l i (get_or l k d)) (i + 1) (get_or l (k + 1) d)) vs ≡ sets l i (take 2 (drop k l) ++ vs)
  part_two l i e k d vs h end room =
      let r = set (set l i (get_or l k d)) (i + 1) (get_or l (k + 1) d) in
      let long : length r ≡ length l = simp length-set in
      ap (λ (x : List A). take (i + 2) r ++ (vs ++ x)) (Post-is (i + 2) e r (omega arith) ∙ rw (← end))
      ∙ sym (append_assoc (take (i + 2) r) vs (drop (i + 2 + length vs) r))
      ∙ sym (sets-eq vs r (i + 2) (omega arith))
      ∙ sets_two l i k d vs h
