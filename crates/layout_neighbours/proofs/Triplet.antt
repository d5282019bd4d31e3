-- Laws of a triplet: its test by the array of visited points, and its points one after the other. Assumes nothing.
use Prim.Native.Nat.{ℕ, suc, ◌+◌, ◌≤◌, ◌<◌}
use mathlib.Core.Path.{◌≡◌, refl, sym, ap, ap₂, ◌∙◌}
use mathlib.Core.Bool.{Bool, true, false, ◌||◌}
use mathlib.Core.List.{List, [], ◌∷◌, foldl}
use native.Mathlib.Numerals.{add-one}
use native.Mathlib.Omega.{arith}
use lib.ListN.{length, get_or, take}
use lib.Seq.{take-suc, take_all}
use Rattle.lists.specs.Lists.{any, member}
use Rattle.lists.proofs.Collect.{foldl_snoc}
use Rattle.lists.proofs.Tests.{cond_yes, cond_no}
use Rattle.layout_neighbours.specs.Neighbours.{Reach, reach, across}
use Rattle.layout_neighbours.specs.Inner.Search.{Arrays, Holds, Leads, Slots, Points}

-- one of the points is marked
abbrev pub marked_in : List Bool → List ℕ → Bool
marked_in visited t = any (λ p. get_or visited p false) t

module _ {out : List ℕ} (s : Slots out) {r : Reach} {a : Arrays} (h : Holds r a) where
  meets : (t : List ℕ) → Points t (length out) → any (λ p. member p r.visited) t ≡ marked_in a.visited t
  unfolding any
  meets [] ps = refl
  meets (p ∷ t) ps =
      ap₂ ◌||◌ (sym (h.marks p (omega (arith, ps 0 (omega arith), s.few)))) (meets t (λ k g. ps (suc k) (omega arith)))

  module _ (t : List ℕ) (ps : Points t (length out)) where
    pub across_meets : marked_in a.visited t ≡ true → across out r t ≡ foldl (reach out) r t
    unfolding across
    across_meets e = cond_yes _ _ (meets t ps ∙ e)

    pub across_misses : marked_in a.visited t ≡ false → across out r t ≡ r
    unfolding across
    across_misses e = cond_no _ _ (meets t ps ∙ e)

-- ---- the points that came so far

abbrev pub Reached : List ℕ → List ℕ → ℕ → Arrays → Arrays → Type 0
Reached out t n before after = Leads (λ r. foldl (reach out) r (take n t)) before after

module _ (out t : List ℕ) (n : ℕ) {before after : Arrays} (d : Reached out t n before after) where
  pub reached_more : {then : Arrays} → n < length t → Leads (λ r. reach out r (get_or t n 0)) after then → Reached out t (n + 1) before then
  reached_more h leads r k =
      let e : foldl (reach out) r (take (n + 1) t) ≡ reach out (foldl (reach out) r (take n t)) (get_or t n 0) =
      ap (λ (i : ℕ). foldl (reach out) r (take i t)) (add-one n) ∙ ap (foldl (reach out) r) (take-suc t n 0 h) ∙ foldl_snoc (reach out) r (take n t) (get_or t n 0) in
      rw e (leads _ (d r k))

  pub reached_all : length t ≤ n → Leads (λ r. foldl (reach out) r t) before after
  reached_all h r k = rw (ap (foldl (reach out) r) (take_all n t h)) at (d r k)
