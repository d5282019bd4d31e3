-- An array that is filled from the front, one store a turn. Assumes nothing.
use Prim.Native.Nat.{ℕ, ◌+◌, ◌<◌}
use mathlib.Core.Path.{◌≡◌, refl, sym, ap, ◌∙◌}
use mathlib.Core.List.{List, [], ◌∷◌, ◌++◌, map, append_assoc}
use lib.ListN.{length, get_or, set, drop}
use lib.Seq.{set-append_seam}
use Rattle.lists.specs.Lists.{range}
use Rattle.lists.proofs.Ranges.{range_none, length_map_range, map_range_snoc}
use Rattle.lists.proofs.Ends.{drop_next}

module _ {A : Type 0} (g : ℕ → A) (before : List A) where
  pub filled_none : before ≡ map g (range 0) ++ drop 0 before
  filled_none = rw range_none refl

  pub filled_more : (d : List A) (i : ℕ) (v : A) → i < length before → v ≡ g i → d ≡ map g (range i) ++ drop i before → set d i v ≡ map g (range (i + 1)) ++ drop (i + 1) before
  filled_more d i v h e f =
      let m = map g (range i) in
      ap (λ (l : List A). set l i v) (f ∙ ap (λ (l : List A). m ++ l) (drop_next before i v h))
      ∙ ap (λ (k : ℕ). set (m ++ get_or before i v ∷ drop (i + 1) before) k v) (sym (length_map_range g i))
      ∙ set-append_seam m (get_or before i v) (drop (i + 1) before) v
      ∙ ap (λ (x : A). m ++ x ∷ drop (i + 1) before) e
      ∙ sym (append_assoc m (g i ∷ []) (drop (i + 1) before))
      ∙ ap (λ (l : List A). l ++ drop (i + 1) before) (sym (map_range_snoc g i))
