-- What the definition of the neighbours amounts to: statements, proved in proofs/Meaning.antt. Document 01, "Layout" ("Neighbours are gathered in `build_hull`'s pass order"); source lines 399 to 430. Assumes nothing.
use Rattle.std.specs.Prelude.{ℕ, ◌+◌, ◌≤◌, ◌<◌, ◌≡◌, Bool, true, ◌&&◌, List, [], ◌∷◌, ltb, length, get_or}
use Rattle.lists.specs.Lists.{Once, any, every, member}
use Rattle.vector.specs.Limits.{max_imaginary}
use Rattle.layout_neighbours.specs.Neighbours.{passes, neighbours_of}

-- some triplet holds both p and q
unfoldable pub share : List (List ℕ) → ℕ → ℕ → Bool
share tris p q = any (λ ps. member p ps && member q ps) tris

-- the points that the search from p may visit: p, and each imaginary point that shares a triplet with one of them
pub data Linked (out : List ℕ) (tris : List (List ℕ)) (p : ℕ) : ℕ → Type 0 where
  here : Linked out tris p p
  next : {q s : ℕ} → Linked out tris p q → share tris q s ≡ true → length out ≤ s → Linked out tris p s

-- s is the slot of a real point that shares a triplet with a linked one
pub record StandsIn (out : List ℕ) (tris : List (List ℕ)) (p s : ℕ) : Type 0 where
  pub point : ℕ
  pub linked : Linked out tris p point
  pub real : ℕ
  pub below : real < length out
  pub shares : share tris point real ≡ true
  pub slot : get_or out real 0 ≡ s

-- Each neighbour is listed once and stands in; the slots of the real points that share a triplet with p itself are all among them.
-- (Where p has such points there can be others besides: an imaginary point that was visited before the first slot was found widens the pass.)
pub record Neighbourhood (out : List ℕ) (tris : List (List ℕ)) (p : ℕ) : Type 0 where
  pub once : Once (neighbours_of out tris p)
  pub stand : (s : ℕ) → member s (neighbours_of out tris p) ≡ true → StandsIn out tris p s
  pub own : (q : ℕ) → q < length out → share tris p q ≡ true → member (get_or out q 0) (neighbours_of out tris p) ≡ true

-- p is the number of an imaginary point, which follow the real ones, and the triplets' points are below their end
pub record Placed (out : List ℕ) (tris : List (List ℕ)) (p : ℕ) : Type 0 where
  pub imaginary : length out ≤ p
  pub few : p < length out + max_imaginary
  pub points : every (every (λ q. ltb q (length out + max_imaginary))) tris ≡ true

-- More passes than there may be imaginary points change nothing; there is no neighbour only where no linked point shares a triplet with a real one.
pub record Complete (out : List ℕ) (tris : List (List ℕ)) (p : ℕ) : Type 0 where
  pub enough : (n : ℕ) → passes out tris (max_imaginary + n) (record { visited = p ∷ []; nbrs = [] }) ≡ passes out tris max_imaginary (record { visited = p ∷ []; nbrs = [] })
  pub none : neighbours_of out tris p ≡ [] → {q : ℕ} → Linked out tris p q → (r : ℕ) → share tris q r ≡ true → length out ≤ r
