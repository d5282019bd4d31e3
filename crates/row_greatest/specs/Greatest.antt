-- Document 01, "A row" (greatest, the earlier of equals), of a list of numbers. Assumes nothing.
use Rattle.std.specs.Prelude.{ℕ, Bool, true, ◌&&◌, not, cond, List, ltb, length, Float}
use Rattle.std.specs.Float.{inf}
use Rattle.std.specs.Float.Ieee.{lt}
use Rattle.lists.specs.Lists.{every, position}

-- above −∞, and no number of l above it; so it is no NaN (`Chosen` of Meaning.antt). Origin of −∞: vbap.rs lines 518 and 535, f32::NEG_INFINITY, where nothing is chosen yet.
unfoldable pub is_greatest : List Float → Float → Bool
is_greatest l x = lt (inf true) x && every (λ y. not (lt x y)) l

-- the place of the greatest number, the earlier of equals; d where none is above −∞
unfoldable pub first_greatest : ℕ → List Float → ℕ
first_greatest d l = let i = position (is_greatest l) l in cond (ltb i (length l)) i d
