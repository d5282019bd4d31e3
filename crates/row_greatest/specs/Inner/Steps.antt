-- What the parts of the search promise one another. Origin of 8: two vectors of four 32-bit floats, which the compiler compares at once; the search's result does not depend on it. Assumes nothing.
use Rattle.std.specs.Prelude.{ℕ, ◌%◌, ◌≤◌, ◌<◌, ◌≡◌, Bool, true, false, ◌||◌, cond, List, ◌⊎◌, length, get_or, Float}
use Rattle.std.specs.Float.{nan, inf}
use Rattle.std.specs.Float.Ieee.{is_nan, lt}

-- ---- the greatest number

-- the greater of two; a NaN as b is passed over
unfoldable pub greater_of : Float → Float → Float
greater_of a b = cond (lt a b) b a

-- x stands at one of the places from a to b, and is above −∞
pub record Stands (l : List Float) (a b : ℕ) (x : Float) : Type 0 where
  pub place : ℕ
  pub from : a ≤ place
  pub to : place < b
  pub is : get_or l place nan ≡ x
  pub high : lt (inf true) x ≡ true

abbrev pub Held : List Float → ℕ → ℕ → Float → Type 0
Held l a b x = (x ≡ inf true) ⊎ Stands l a b x

-- no number from a to b is above g, and g is one of them; or −∞
pub record Top (l : List Float) (a b : ℕ) (g : Float) : Type 0 where
  pub none_above : (j : ℕ) → a ≤ j → j < b → lt g (get_or l j nan) ≡ false
  pub held : Held l a b g

-- Eight lanes, and the rest behind the last full eight (here of 19 numbers), which is taken one after the other:
--   place  0 1 2 3 4 5 6 7 | 8 9 10 11 12 13 14 15 | 16 17 18
--   lane   0 1 2 3 4 5 6 7 | 0 1  2  3  4  5  6  7 |  rest
-- of the first n numbers none is above its lane, and each lane is one of them; or −∞
pub record Lanes (l : List Float) (n : ℕ) (lanes : List Float) : Type 0 where
  pub long : length lanes ≡ 8
  pub none_above : (j : ℕ) → j < n → lt (get_or lanes (j % 8) nan) (get_or l j nan) ≡ false
  pub held : (k : ℕ) → k < 8 → Held l 0 n (get_or lanes k nan)

-- ---- its first place

-- below g or a NaN
unfoldable pub passed : Float → Float → Bool
passed g x = lt x g || is_nan x

abbrev pub AllPassed : Float → List Float → ℕ → ℕ → Type 0
AllPassed g l a b = (j : ℕ) → a ≤ j → j < b → passed g (get_or l j nan) ≡ true

pub record FirstKept (g : Float) (l : List Float) (n r : ℕ) : Type 0 where
  pub within : r ≤ n
  pub before : AllPassed g l 0 r
  pub kept : r < n → passed g (get_or l r nan) ≡ false
