-- Document 01, "Layout" ("A triple i < j < k is kept or skipped by the tests of `hull_triplets`, in their order"): what the list of triplets holds, and in which order. Proved in proofs/Meaning.antt: `KeptMeaning` by `kept_meaning`. Assumes nothing.
use Rattle.std.specs.Prelude.{ℕ, ◌<◌, ◌≡◌, length, get_or}
use mathlib.Core.List.{List, Memᴰ}
use Rattle.vector.specs.Vector.{Points}
use Rattle.layout_hull.specs.Triplets.{Triplet, keep, verdict, triplets_of}

-- t comes before u: by i, then by j, then by k
pub data Before (t u : Triplet) : Type 0 where
  by_i : t.i < u.i → Before t u
  by_j : t.i ≡ u.i → t.j < u.j → Before t u
  by_k : t.i ≡ u.i → t.j ≡ u.j → t.k < u.k → Before t u

-- t is a triple of points i < j < k that its verdict keeps
pub record Keeps (pts : Points) (t : Triplet) : Type 0 where
  pub low : t.i < t.j
  pub high : t.j < t.k
  pub in_list : t.k < length pts
  pub verdict_keeps : verdict pts t.i t.j t.k ≡ keep t

-- l holds those triples and no other, each once since none comes before itself
pub record Kept (pts : Points) (l : List Triplet) : Type 0 where
  pub only : (t : Triplet) → Memᴰ t l → Keeps pts t
  pub all : (t : Triplet) → Keeps pts t → Memᴰ t l
  pub ascending : (p q : ℕ) (d : Triplet) → p < q → q < length l → Before (get_or l p d) (get_or l q d)

abbrev pub KeptMeaning : Type 0
KeptMeaning = (pts : Points) → Kept pts (triplets_of pts)
