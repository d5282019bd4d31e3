-- Laws of folds over a range: one turn more, and two folds whose turns do the same. Each goes by the count of turns. Assumes nothing.
use Prim.Native.Nat.{ℕ, zero, suc, ◌+◌, ◌≤◌, ◌<◌}
use mathlib.Core.Path.{◌≡◌, sym, ap, ◌∙◌, subst}
use mathlib.Core.List.{foldl}
use native.Mathlib.Numerals.{add-one}
use native.Mathlib.Omega.{arith}
use Rattle.lists.specs.Lists.{range}
use Rattle.lists.proofs.Ranges.{range_none, range_snoc}
use Rattle.lists.proofs.Collect.{foldl_snoc}

module _ {B : Type 0} where
  pub fold_none : (f : B → ℕ → B) (b : B) → foldl f b (range 0) ≡ b
  fold_none f b = ap (foldl f b) range_none

  pub fold_more : (f : B → ℕ → B) (b : B) (n : ℕ) → foldl f b (range (n + 1)) ≡ f (foldl f b (range n)) n
  fold_more f b n = ap (foldl f b) (range_snoc n) ∙ foldl_snoc f b (range n) n

  module _ (f g : B → ℕ → B) (b : B) (n : ℕ) (h : (c : B) (i : ℕ) → i < n → f c i ≡ g c i) where
    pub fold_alike : (t : ℕ) → t ≤ n → foldl f b (range t) ≡ foldl g b (range t)
    fold_alike zero le = fold_none f b ∙ sym (fold_none g b)
    fold_alike (suc t) le =
        subst (λ (k : ℕ). foldl f b (range k) ≡ foldl g b (range k)) (add-one t)
        (fold_more f b t ∙ h (foldl f b (range t)) t (omega arith) ∙ ap (λ (c : B). g c t) (fold_alike t (omega arith)) ∙ sym (fold_more g b t))
