-- Document 01, "Number work": "narrowing, whole number to float and square root are as I says, stated over whole numbers".
-- What `sqrt_of` means, over exact whole numbers (IEEE 754-2019, 4.3.1 and 5.4.1). `SqrtNearest` is proved in proofs/Meaning.antt by `sqrt_nearest`. Assumes nothing.
use Rattle.std.specs.Prelude.{◌≡◌, ℕ, ◌+◌, ◌*◌, ◌%◌, ◌^◌, ◌≤◌, ◌<◌, false, T, Float}
use Rattle.std.specs.Float.{Format}
use Rattle.std.specs.Float.Ieee.{low, fits, to_bits}
use Rattle.float_widths.specs.Meaning.{InSmallest}
use Rattle.float_root.specs.Root.{sqrt_of}

-- r is the root of a value, rounded to the nearest value of the format, a tie to the even one. The exact number of smallest values is the root of n, and is seldom whole:
-- it is no nearer to Y than to R by how its double compares with R + Y, and n * 4 with the square of that.
pub record RootRounded (f : Format) (n : ℕ) (r : Float) : Type 0 where
  pub held : T (fits f r)
  pub found : (R : ℕ) × InSmallest f false r R
  pub near : (R Y : ℕ) (y : Float) → InSmallest f false r R → T (fits f y) → InSmallest f false y Y → (R < Y → n * 4 ≤ (R + Y) * (R + Y)) × (Y < R → (R + Y) * (R + Y) ≤ n * 4)
  pub even : (R Y : ℕ) (y : Float) → InSmallest f false r R → T (fits f y) → InSmallest f false y Y → (R ≡ Y → ⊥) → n * 4 ≡ (R + Y) * (R + Y) → to_bits f r % 2 ≡ 0

-- x is X smallest values, above zero: so its root is the root of X * 2 ^ low smallest values. NaN, zeros, infinities and what is below zero are in the definition.
abbrev pub SqrtNearest : Type 0
SqrtNearest = (f : Format) (x : Float) (X : ℕ) → T (fits f x) → InSmallest f false x X → 0 < X → RootRounded f (X * 2 ^ low f) (sqrt_of f x)
