-- Document 01, "Layout" ("Neighbours are gathered in `build_hull`'s pass order"); source lines 399 to 430.
-- A triplet is told by its three point numbers; point p is real where it is below the length of `out`, the slots of the real points. Assumes nothing.
use Rattle.std.specs.Prelude.{ℕ, zero, suc, true, false, ◌&&◌, ◌||◌, not, cond, eqb, ltb, length, get_or}
use mathlib.Core.List.{List, [], ◌∷◌, ◌++◌, foldl}
use Rattle.lists.specs.Lists.{any, member, is_empty}
use Rattle.vector.specs.Limits.{max_imaginary}

-- the points that were visited, and the slots found
pub record Reach : Type 0 where
  pub visited : List ℕ
  pub nbrs : List ℕ

-- a point of a triplet that holds a visited one: a real point's slot is a neighbour; an imaginary point is visited while there is no neighbour
unfoldable pub reach : List ℕ → Reach → ℕ → Reach
reach out r p =
    let slot = get_or out p 0 in
    cond (ltb p (length out))
    (cond (member slot r.nbrs) r (record { visited = r.visited; nbrs = r.nbrs ++ slot ∷ [] }))
    (cond (not (member p r.visited) && is_empty r.nbrs) (record { visited = r.visited ++ p ∷ []; nbrs = r.nbrs }) r)

-- a triplet, by its point numbers
unfoldable pub across : List ℕ → Reach → List ℕ → Reach
across out r ps = cond (any (λ p. member p r.visited) ps) (foldl (reach out) r ps) r

unfoldable pub pass : List ℕ → List (List ℕ) → Reach → Reach
pass out tris r = foldl (across out) r tris

-- passes until there is a neighbour or nothing more was visited: at most n of them
unfoldable pub passes : List ℕ → List (List ℕ) → ℕ → Reach → Reach
passes out tris zero r = r
passes out tris (suc n) r =
    let s = pass out tris r in
    elim (not (is_empty s.nbrs) || eqb (length s.visited) (length r.visited)) [ true ↦ s | false ↦ passes out tris n s ]

-- Each pass but the last visits one more of the imaginary points.
unfoldable pub neighbours_of : List ℕ → List (List ℕ) → ℕ → List ℕ
neighbours_of out tris p = (passes out tris max_imaginary (record { visited = p ∷ []; nbrs = [] })).nbrs
