-- What the definitions of closing amount to: statements, proved in proofs/Meaning.antt. Document 01, "Layout", the paragraph "Hull". Assumes nothing.
use Rattle.std.specs.Prelude.{ℕ, ◌+◌, ◌≤◌, ◌<◌, ◌≡◌, Bool, true, false, ◌||◌, not, List, [], ◌∷◌, ◌++◌, length}
use Rattle.std.proofs.Math.Option.{none, some}
use Rattle.std.specs.Float.{binary64}
use Rattle.std.specs.Float.Ieee.{sub, div, lt, of_bits}
use Rattle.lists.specs.Lists.{every}
use Rattle.float_order.specs.Values.{1·0}
use Rattle.float_root.specs.Root.{sqrt_of}
use Rattle.vector.specs.Limits.{max_imaginary}
use Rattle.vector.specs.Vector.{Vector, Points}
use Rattle.layout_hull.specs.Triplets.{triplets_of, closed}
use Rattle.layout_closing.specs.Closing.{almost, h, nearest_product, passed_over, candidates, wins, candidate_of, with_poles, stages, final_points}

-- ---- the constants, as the source writes them

pub record Origins : Type 0 where
  -- vbap.rs lines 370 and 385: 1.0 - 1e-6, 1e-6 being 3eb0_c6f7_a0b5_ed8d
  pub there : almost ≡ sub binary64 1·0 (of_bits binary64 0x3eb0_c6f7_a0b5_ed8d)
  -- vbap.rs line 64: 1.0 / 3.0.sqrt(), 3 being 4008_0000_0000_0000
  pub diagonal : h ≡ div binary64 1·0 (sqrt_of binary64 (of_bits binary64 0x4008_0000_0000_0000))

-- ---- the candidate

-- of the candidates l none that is not passed over wins over c
unfoldable pub unbeaten : Points → Points → Vector → Bool
unbeaten pts l c = every (λ d. passed_over pts d || not (wins pts d (some c))) l

-- c is chosen of l by the rule of the source: it is the first that is not passed over, or it wins over the one that is chosen of those before it; and no later one wins over it
pub data Chosen (pts : Points) : Points → Vector → Type 0 where
  first_free : {l : Points} (earlier later : Points) {c : Vector} → l ≡ earlier ++ c ∷ later → every (passed_over pts) earlier ≡ true → passed_over pts c ≡ false → unbeaten pts later c ≡ true → Chosen pts l c
  wins_over : {l : Points} (earlier later : Points) {b c : Vector} → l ≡ earlier ++ c ∷ later → Chosen pts earlier b → passed_over pts c ≡ false → wins pts c (some b) ≡ true → unbeaten pts later c ≡ true → Chosen pts l c

-- so its product is below that of every earlier one, and of all none wins over it (among those that are not passed over).
-- It need not be the first that none wins over: of products p, p − 0.5e-9 and p − 1.2e-9 the third wins over the first, and none wins over the second either.
pub record Least (pts l : Points) (c : Vector) : Type 0 where
  pub earlier : Points
  pub later : Points
  pub place : l ≡ earlier ++ c ∷ later
  pub free : passed_over pts c ≡ false
  pub below_earlier : every (λ d. passed_over pts d || lt (nearest_product pts c) (nearest_product pts d)) earlier ≡ true
  pub of_all : unbeaten pts l c ≡ true

pub record Candidate (pts : Points) : Type 0 where
  pub chosen : (c : Vector) → candidate_of pts ≡ some c → Chosen pts candidates c
  pub only : (c : Vector) → Chosen pts candidates c → candidate_of pts ≡ some c
  pub least : (c : Vector) → candidate_of pts ≡ some c → Least pts candidates c
  -- there is none exactly where every candidate is passed over
  pub none_left : candidate_of pts ≡ none → every (passed_over pts) candidates ≡ true
  pub none_free : every (passed_over pts) candidates ≡ true → candidate_of pts ≡ none

-- ---- the stages

-- b is a with its candidate added, since a is open
pub record Extends (a b : Points) : Type 0 where
  pub candidate : Vector
  pub open_before : closed a ≡ false
  pub choice : candidate_of a ≡ some candidate
  pub added : b ≡ a ++ candidate ∷ []

-- each of a list and the next one
abbrev pub Chain : {A : Type 0} → (A → A → Type 0) → A → List A → Type 0
Chain R a [] = Unit
Chain R a (b ∷ l) = R a b × Chain R b l

-- why q is the last stage, of at most n points: its hull is closed; or it is open and q has all n; or it is open, q has fewer, and every candidate is passed over
pub data Ends (n : ℕ) (q : Points) : Type 0 where
  closes : closed q ≡ true → Ends n q
  full : closed q ≡ false → length q ≡ n → Ends n q
  none_more : closed q ≡ false → length q < n → candidate_of q ≡ none → Ends n q

-- The first stage has the poles, and every later one a candidate more, since the hull of the one before it is open: so a closed stage is the last. At most fourteen points are imaginary.
-- Where no triplet is kept, the hull is open: such a layout ends by one of the other two, and its rows play the nearest speaker (crate row_hull, `row_by`).
pub record Stages (real : Points) : Type 0 where
  pub later : List Points
  pub first : stages real ≡ with_poles real ∷ later
  pub chain : Chain Extends (with_poles real) later
  pub end : Ends (length real + max_imaginary) (final_points real)
  pub no_triplet : triplets_of (final_points real) ≡ [] → closed (final_points real) ≡ false

-- q is the real points with at most n behind them
pub record Behind (real : Points) (n : ℕ) (q : Points) : Type 0 where
  pub points : Points
  pub behind : q ≡ real ++ points
  pub few : length points ≤ n

-- the imaginary points, at most fourteen, stand behind the real ones
abbrev pub Imaginary : Points → Type 0
Imaginary real = Behind real max_imaginary (final_points real)
