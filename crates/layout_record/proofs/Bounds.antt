-- Laws of `any`: of parts of a list of which none passes. Assumes nothing.
use borrow.Author.Tests.{not-true}
use Prim.Native.Nat.{ℕ, ◌+◌, ◌<◌}
use mathlib.Core.Path.{◌≡◌, refl, sym, ap, ◌∙◌}
use mathlib.Core.Bool.{Bool, true, false, not, ◌||◌}
use mathlib.Core.List.{List, [], ◌∷◌, flat_map}
use native.Mathlib.Omega.{arith}
use lib.ListN.{take}
use Rattle.std.proofs.lemmas.List.Folds.{list_any_at}
use Rattle.lists.specs.Lists.{every, any, part, range, from}
use Rattle.lists.proofs.Collect.{flat_map_snoc}
use Rattle.lists.proofs.Ranges.{range_snoc, length_range, get_d_range}
use Rattle.lists.proofs.Tests.{every_none, every_take, every_part, any_is, any_append, any_never, any_flat_map, neither}

-- where no element passes a test, each passes one that follows from that
pub every_if_none : {A : Type 0} {f g : A → Bool} → ((a : A) → f a ≡ false → g a ≡ true) → (l : List A) → any f l ≡ false → every g l ≡ true
unfolding any every
every_if_none h [] e = refl
every_if_none {f = f} h (a ∷ l) e =
    let p = neither (f a) (any f l) e in
    rw (h a p.0) (every_if_none h l p.1)

-- none of the used places of parts of n
pub none_in_parts : {A : Type 0} (f : A → Bool) (n : ℕ) (l : List A) (used : ℕ → ℕ) (ks : List ℕ) → any f l ≡ false
    → any f (flat_map (λ k. take (used k) (part n l k)) ks) ≡ false
none_in_parts f n l used ks e =
    let g = λ (a : _). not (f a) in
    any_flat_map f (λ k. take (used k) (part n l k)) ks
    ∙ any_never (λ k. any f (take (used k) (part n l k)))
    (λ k. every_none (λ a p. not-true (f a) p) (take (used k) (part n l k)) (every_take g (used k) (part n l k) (every_part g n l k (every_if_none (λ a p. rw p) l e)))) ks

-- a loop over lists: none of those passed has an element that passes, one more, and one that has
module _ (f : ℕ → Bool) (at : ℕ → List ℕ) where
  pub passed_none : any f (flat_map at (range 0)) ≡ false
  unfolding any range from flat_map
  passed_none = refl

  pub passed_more : (k : ℕ) → any f (flat_map at (range k)) ≡ false → any f (at k) ≡ false → any f (flat_map at (range (k + 1))) ≡ false
  passed_more k e h = rw (range_snoc k, flat_map_snoc at (range k) k, any_append f (flat_map at (range k)) (at k), e, h)

  pub passed_one : (k n : ℕ) → k < n → any f (at k) ≡ true → any f (flat_map at (range n)) ≡ true
  passed_one k n h e =
      any_flat_map f at (range n) ∙ sym (any_is (λ k. any f (at k)) (range n))
      ∙ list_any_at (λ k. any f (at k)) (range n) k 0 (omega (arith, length_range n)) (rw (get_d_range n k 0 h, e))
