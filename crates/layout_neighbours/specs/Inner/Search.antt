-- How the arrays of the search hold its state (document 01, "Forms of vbap.rs that need another": `visited` is an array filled with a start value). Assumes nothing.
use Rattle.std.specs.Prelude.{ℕ, ◌+◌, ◌≤◌, ◌<◌, ◌≡◌, Bool, true, false, List, length, get_or}
use Rattle.lists.specs.Lists.{Once, member, filled}
use Rattle.vector.specs.Limits.{max_imaginary}
use Rattle.layout_neighbours.specs.Neighbours.{Reach}

-- Origin of the bounds: 40 slots and speakers (document 01, refusal 2), 14 imaginary points (vbap.rs line 60), 54 points in all.

-- no element twice, and each is one of the n numbers from a on
abbrev pub Among : ℕ → ℕ → List ℕ → Type 0
Among a n l = Once l × ((p : ℕ) → member p l ≡ true → (a ≤ p) × (p < a + n))

-- the search's arrays and counts at one time, as the code has them: a mark for each point, the slots, and how many of each
pub record Arrays : Type 0 where
  pub visited : List Bool
  pub seen : ℕ
  pub nbrs : List ℕ
  pub found : ℕ

-- the arrays hold the state r of the search
pub record Holds (r : Reach) (a : Arrays) : Type 0 where
  pub points : Among 0 54 r.visited
  pub below : Among 0 40 r.nbrs
  pub long : length a.visited ≡ 54
  pub marks : (p : ℕ) → p < 54 → get_or a.visited p false ≡ member p r.visited
  pub slots : a.nbrs ≡ filled 40 0 r.nbrs
  pub seen : a.seen ≡ length r.visited
  pub found : a.found ≡ length r.nbrs

-- some state is held
abbrev pub Held : Arrays → Type 0
Held a = ∥ ((r : Reach) × Holds r a) ∥₁

-- whatever state was held before, f of it is held after
abbrev pub Leads : (Reach → Reach) → Arrays → Arrays → Type 0
Leads f before after = (r : Reach) → Holds r before → Holds (f r) after

-- the slots of at most 40 real points, below 40
pub record Slots (out : List ℕ) : Type 0 where
  pub few : length out ≤ 40
  pub low : (k : ℕ) → k < length out → get_or out k 0 < 40

-- point numbers that are real or among the imaginary ones after those
abbrev pub Points : List ℕ → ℕ → Type 0
Points idx nreal = (k : ℕ) → k < length idx → get_or idx k 0 < nreal + max_imaginary
