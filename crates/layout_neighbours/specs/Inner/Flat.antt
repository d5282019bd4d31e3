-- Document 01, "What to write where" (triplet numbers and neighbours as arrays by value), and "Layout" ("Places and counts of a layout that its kind doesn't reach hold 0"): the neighbours laid flat. Source lines 402 to 430. Assumes nothing.
use Rattle.std.specs.Prelude.{ℕ, ◌+◌, ◌≤◌, ◌<◌, length, get_or}
use mathlib.Core.List.{List, [], ◌∷◌, map, flat_map}
use Rattle.lists.specs.Lists.{from, filled}
use Rattle.vector.specs.Limits.{max_imaginary}
use Rattle.layout_neighbours.specs.Neighbours.{neighbours_of}
use Rattle.layout_neighbours.specs.declared.ImagNbrs.{ImagNbrs}

-- the triplets of a flat array, three point numbers each; one or two numbers behind them are none
unfoldable pub triples_of : List ℕ → List (List ℕ)
triples_of (i ∷ (j ∷ (k ∷ l))) = (i ∷ j ∷ k ∷ []) ∷ triples_of l
triples_of (i ∷ (j ∷ [])) = []
triples_of (i ∷ []) = []
triples_of [] = []

-- the neighbours of the m imaginary points, which follow the real ones: neighbour j of the k-th at k * 40 + j. Origin of 40: document 01, refusal 2, at most 40 speakers.
unfoldable pub neighbours_in : List ℕ → List (List ℕ) → ℕ → ImagNbrs
neighbours_in out tris m =
    let l = map (neighbours_of out tris) (from (length out) m) in
    record {
      num_nbrs = filled max_imaginary 0 (map length l);
      imag_nbrs = flat_map (filled 40 0) (filled max_imaginary [] l);
    }

-- what `neighbours` asks: at most 40 slots, each below 40, and point numbers below the real and the imaginary points together
pub record Numbered (idx slots : List ℕ) (imag : ℕ) : Type 0 where
  pub real : length slots ≤ 40
  pub imaginary : imag ≤ max_imaginary
  pub points : (k : ℕ) → k < length idx → get_or idx k 0 < length slots + imag
  pub low : (k : ℕ) → k < length slots → get_or slots k 0 < 40
