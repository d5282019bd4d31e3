-- What `first_greatest` chooses: the number there is above every earlier one, and no other is above it; a NaN is never chosen. Proved in proofs/Meaning.antt. Assumes nothing.
use Rattle.std.specs.Prelude.{ℕ, ◌<◌, ◌≡◌, true, ◌||◌, not, List, ◌⊎◌, length, get_or, take, Float}
use Rattle.std.specs.Float.{nan, inf}
use Rattle.std.specs.Float.Ieee.{is_nan, lt}
use Rattle.lists.specs.Lists.{every}
use Rattle.row_greatest.specs.Greatest.{first_greatest}

pub record Chosen (l : List Float) (i : ℕ) : Type 0 where
  pub within : i < length l
  pub high : lt (inf true) (get_or l i nan) ≡ true
  pub none_above : every (λ x. not (lt (get_or l i nan) x)) l ≡ true
  pub above_earlier : every (λ x. is_nan x || lt x (get_or l i nan)) (take i l) ≡ true

-- no number is above −∞
pub record NoneHigh (d : ℕ) (l : List Float) (i : ℕ) : Type 0 where
  pub is : i ≡ d
  pub none_high : every (λ x. not (lt (inf true) x)) l ≡ true

abbrev pub FirstGreatestChosen : Type 0
FirstGreatestChosen = (d : ℕ) (l : List Float) → Chosen l (first_greatest d l) ⊎ NoneHigh d l (first_greatest d l)
