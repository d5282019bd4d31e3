-- What the search does at a point, case by case, by the tests of `reach`. Assumes nothing.
use Prim.Native.Nat.{ℕ, ◌≤◌, ◌<◌}
use mathlib.Core.Path.{◌≡◌, ap, ◌∙◌}
use mathlib.Core.Bool.{Bool, true, false, not, ◌&&◌}
use mathlib.Core.List.{List, [], ◌∷◌, ◌++◌}
use borrow.Author.Tests.{lt-ltb, le-ltb}
use lib.ListN.{length, get_or}
use Rattle.lists.specs.Lists.{member, is_empty}
use Rattle.lists.proofs.Tests.{cond_yes, cond_no}
use Rattle.layout_neighbours.specs.Neighbours.{Reach, reach}
use Rattle.lists.proofs.Tests.{and_false}

-- the state with a slot more, and with a point more
abbrev pub with_slot : Reach → ℕ → Reach
with_slot r s = record { visited = r.visited; nbrs = r.nbrs ++ s ∷ [] }

abbrev pub with_point : Reach → ℕ → Reach
with_point r p = record { visited = r.visited ++ p ∷ []; nbrs = r.nbrs }

module _ (l : List ℕ) (r : Reach) (p : ℕ) where
  pub reach_listed : p < length l → member (get_or l p 0) r.nbrs ≡ true → reach l r p ≡ r
  unfolding reach
  reach_listed h e = cond_yes _ _ (lt-ltb _ _ h) ∙ cond_yes _ _ e

  pub reach_found : p < length l → member (get_or l p 0) r.nbrs ≡ false → reach l r p ≡ with_slot r (get_or l p 0)
  unfolding reach
  reach_found h e = cond_yes _ _ (lt-ltb _ _ h) ∙ cond_no _ _ e

  pub reach_seen : length l ≤ p → member p r.visited ≡ true → reach l r p ≡ r
  unfolding reach
  reach_seen h e = cond_no _ _ (le-ltb _ _ h) ∙ cond_no _ _ (ap (λ (b : Bool). not b && is_empty r.nbrs) e)

  pub reach_late : length l ≤ p → is_empty r.nbrs ≡ false → reach l r p ≡ r
  unfolding reach
  reach_late h e = cond_no _ _ (le-ltb _ _ h) ∙ cond_no (with_point r p) r (and_false (not (member p r.visited)) (is_empty r.nbrs) e)

  pub reach_visits : length l ≤ p → member p r.visited ≡ false → is_empty r.nbrs ≡ true → reach l r p ≡ with_point r p
  unfolding reach
  reach_visits h e g = cond_no _ _ (le-ltb _ _ h) ∙ cond_yes _ _ (ap (λ (b : Bool). not b && is_empty r.nbrs) e ∙ g)
