-- Document 01, "A row" (Hull: the triplet whose smallest gain is greatest, the earlier of equals), said of `best_of`; proved in proofs/Meaning.antt. Assumes nothing.
use Rattle.std.specs.Prelude.{ℕ, ◌<◌, ◌≡◌, true, ◌||◌, not, List, ◌∷◌, ◌++◌, get_or}
use Rattle.std.proofs.Math.Option.{none, some}
use Rattle.std.specs.Float.{nan, inf, binary32}
use Rattle.std.specs.Float.Ieee.{is_nan, lt}
use Rattle.lists.specs.Lists.{every, part}
use Rattle.vector.specs.Vector.{Vector, dot_in}
use Rattle.layout_hull.specs.Triplets.{Triplet}
use Rattle.row_hull.specs.HullRow.{Aimed, aimed, least_gain, best_of}

-- no triplet's least gain is above the chosen one's, and every earlier one's is below it or a NaN
pub record Chosen (s : Vector) (tris : List Triplet) (b : Aimed) : Type 0 where
  pub earlier : List Triplet
  pub triplet : Triplet
  pub later : List Triplet
  pub stands : tris ≡ earlier ++ triplet ∷ later
  pub is : b ≡ aimed s triplet
  pub none_above : every (λ t. not (lt b.least (least_gain s t))) tris ≡ true
  pub above_earlier : every (λ t. is_nan (least_gain s t) || lt (least_gain s t) b.least) earlier ≡ true

abbrev pub BestChosen : Type 0
BestChosen = (s : Vector) (tris : List Triplet) (b : Aimed) → best_of s tris ≡ some b → Chosen s tris b

-- none is chosen only where no least gain is above −∞
abbrev pub NoneAbove : Vector → List Triplet → Type 0
NoneAbove s tris = every (λ t. not (lt (inf true) (least_gain s t))) tris ≡ true

abbrev pub NoneChosen : Type 0
NoneChosen = (s : Vector) (tris : List Triplet) → best_of s tris ≡ none → NoneAbove s tris

-- the gains of a triplet are the direction times the inverse, row by row
abbrev pub GainsAreProducts : Type 0
GainsAreProducts = (s : Vector) (t : Triplet) (r : ℕ) → r < 3 → get_or (aimed s t).gains r nan ≡ dot_in binary32 (part 3 t.inv r) s
