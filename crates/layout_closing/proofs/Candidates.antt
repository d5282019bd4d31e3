-- Laws of the choice of a candidate: the code's three ways to go on are the cases of `better`. Assumes nothing.
use Prim.Native.Nat.{ℕ, ◌+◌, ◌<◌}
use mathlib.Core.Path.{◌≡◌, sym, ap, ◌∙◌}
use mathlib.Core.Bool.{Bool, true, false, not, ◌&&◌}
use mathlib.Core.List.{[], ◌∷◌, ◌++◌, foldl}
use mathlib.Core.Option.{Option, none, some}
use Rattle.std.proofs.Common as Code
use Rattle.std.proofs.Common.{Some}
use native.Mathlib.Numerals.{add-one}
use lib.ListN.{get_or, take}
use lib.Seq.{take-suc}
use lib.Ieee.{Float, binary64, sub, lt, le}
use Rattle.lists.proofs.Collect.{foldl_snoc}
use Rattle.lists.proofs.Tests.{cond_yes, cond_no}
use Rattle.vector.specs.Vector.{Vector, Points}
use Rattle.layout_closing.specs.Closing.{almost, nearest_product, passed_over, with_pole, least_lead, wins, better, candidates}
use Rattle.layout_closing.specs.Inner.Flat.{best_in, found_in, wins_by}
use Rattle.layout_closing.specs.declared.Best.{Best}

-- ---- a pole

pub pole_there : (pts : Points) (c : Vector) → passed_over pts c ≡ true → with_pole pts c ≡ pts
unfolding with_pole
pole_there pts c e = cond_yes _ _ e

pub pole_new : (pts : Points) (c : Vector) → passed_over pts c ≡ false → with_pole pts c ≡ pts ++ c ∷ []
unfolding with_pole
pole_new pts c e = cond_no _ _ e

-- ---- the better of two

module _ (pts : Points) (c : Vector) where
  pub better_stays : (b : Option Vector) → not (passed_over pts c) && wins pts c b ≡ false → better pts b c ≡ b
  unfolding better
  better_stays b e = cond_no _ _ e

  pub better_takes : (b : Option Vector) → not (passed_over pts c) && wins pts c b ≡ true → better pts b c ≡ some c
  unfolding better
  better_takes b e = cond_yes _ _ e

  module _ {g : Float} (n : g ≡ nearest_product pts c) where
    passed : (t : Bool) → le almost g ≡ t → passed_over pts c ≡ t
    unfolding passed_over
    passed t e = ap (le almost) (sym n) ∙ e

    pub better_passed : {best : Code.Option Best} (b : Option Vector) → best ≡ best_in pts b → le almost g ≡ true → best ≡ best_in pts (better pts b c)
    better_passed b e h = e ∙ ap (best_in pts) (sym (better_stays b (ap (λ (t : Bool). not t && wins pts c b) (passed true h))))

    -- whether c wins, by the best so far
    wins_best : {best : Code.Option Best} (b : Option Vector) → best ≡ best_in pts b → wins pts c b ≡ wins_by g best
    unfolding wins best_in
    wins_best none e = sym (ap (wins_by g) e)
    wins_best (some v) e = ap (λ (x : Float). lt x (sub binary64 (nearest_product pts v) least_lead)) (sym n) ∙ sym (ap (wins_by g) e)

    module _ {best : Code.Option Best} (b : Option Vector) (e : best ≡ best_in pts b) (h : le almost g ≡ false) where
      fresh : not (passed_over pts c) && wins pts c b ≡ wins_by g best
      fresh = ap (λ (t : Bool). not t && wins pts c b) (passed false h) ∙ wins_best b e

      pub better_keeps : wins_by g best ≡ false → best ≡ best_in pts (better pts b c)
      better_keeps k = e ∙ ap (best_in pts) (sym (better_stays b (fresh ∙ k)))

      pub better_wins : wins_by g best ≡ true → Some (record { c = c; nearest = g }) ≡ best_in pts (better pts b c)
      unfolding best_in
      better_wins k =
          ap (λ (x : Float). Some (record { c = c; nearest = x })) n ∙ ap (best_in pts) (sym (better_takes b (fresh ∙ k)))

-- what is held of the best so far is that candidate
pub found_is : (pts : Points) (b : Option Vector) {best : Code.Option Best} → best ≡ best_in pts b → found_in best ≡ b
unfolding found_in best_in
found_is pts none e = ap found_in e
found_is pts (some v) e = ap found_in e

pub found_same : (pts : Points) (b : Option Vector) {best : Code.Option Best} → best ≡ best_in pts b → best ≡ best_in pts (found_in best)
found_same pts b e = e ∙ ap (best_in pts) (sym (found_is pts b e))

-- one candidate more, read from a table that is the candidates'
pub best_more : (pts : Points) (table : Points) (i : ℕ) {before best : Code.Option Best} → i < 14 → table ≡ candidates
    → before ≡ best_in pts (foldl (better pts) none (take i candidates)) → best ≡ best_in pts (better pts (found_in before) (get_or table i []))
    → best ≡ best_in pts (foldl (better pts) none (take (i + 1) candidates))
best_more pts table i h t b e =
    e
    ∙ ap (λ (o : Option Vector). best_in pts (better pts o (get_or table i []))) (found_is pts (foldl (better pts) none (take i candidates)) b)
    ∙ ap (λ (x : Points). best_in pts (better pts (foldl (better pts) none (take i candidates)) (get_or x i []))) t
    ∙ ap (best_in pts) (sym (ap (λ (k : ℕ). foldl (better pts) none (take k candidates)) (add-one i) ∙ ap (foldl (better pts) none) (take-suc candidates i [] h) ∙ foldl_snoc (better pts) none (take i candidates) (get_or candidates i [])))
