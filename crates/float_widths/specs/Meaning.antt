-- Document 01, "Number work": "rounded once to nearest, ties to even", and "narrowing, whole number to float and square root are as I says, stated over whole numbers" (the square root: crate float_root).
-- What the definitions mean, over exact whole numbers (IEEE 754-2019, 4.3.1 and 5.4.1). Each statement is proved in proofs/Meaning.antt: `NarrowNearest` by `narrow_nearest`, and so on. Assumes nothing.
use Rattle.std.specs.Prelude.{◌≡◌, ℕ, ◌+◌, ◌-◌, ◌*◌, ◌%◌, ◌^◌, ◌<◌, ◌≤◌, Bool, false, T, ℤ, pos, ◌≢◌, to_bits, Float}
use Rattle.std.specs.Float.{inf, fin, Format, binary32}
use Rattle.std.specs.Float.Ieee.{prec, emax, low, up, down, fits, round, of_int}
use Rattle.std.specs.Float.Ieee.Exact.{HasValue}
use Rattle.float_order.specs.Values.{sign_bit, is_finite}
use Rattle.float_widths.specs.Narrow.{narrow_of}

-- x is finite, has the sign s, and is R times the format's smallest value, 2 ^ -low (low is 149 and 1074). Every finite value of the format is such a whole number.
abbrev pub InSmallest : Format → Bool → Float → ℕ → Type 0
InSmallest f s x R = HasValue x s R (2 ^ low f)

-- how far two numbers lie apart
abbrev pub apart : ℕ → ℕ → ℕ
apart a b = (a - b) + (b - a)

-- half way from the largest value to 2 ^ (emax + 1), in smallest values: 2 ^ emax * (2 - 2 ^ -prec) (IEEE 754-2019, 4.3.1)
abbrev pub limit : Format → ℕ
limit f = 2 ^ (low f + emax f + 1) - 2 ^ (low f + emax f - prec f)

-- ---- r is num / den with the sign s, rounded to the nearest value of the format, a tie to the even one.
-- The exact number of smallest values is num * 2 ^ low / den. R is r's number, and Y that of any value y with r's sign; each distance is taken times den, so that all is whole.
pub record Rounded (f : Format) (s : Bool) (num den : ℕ) (r : Float) : Type 0 where
  pub held : T (fits f r)
  -- of a zero and of an infinity too
  pub sign : sign_bit r ≡ s
  -- an infinity from the limit on, and only then
  pub over : limit f * den ≤ num * 2 ^ low f → r ≡ inf s
  pub under : num * 2 ^ low f < limit f * den → T (is_finite r)
  -- no value is nearer
  pub near : (R Y : ℕ) (y : Float) → InSmallest f s r R → T (fits f y) → InSmallest f s y Y → apart (num * 2 ^ low f) (R * den) ≤ apart (num * 2 ^ low f) (Y * den)
  -- where another value is as near, r's last digit is 0
  pub even : (R Y : ℕ) (y : Float) → InSmallest f s r R → T (fits f y) → InSmallest f s y Y → (R ≢ Y) → apart (num * 2 ^ low f) (R * den) ≡ apart (num * 2 ^ low f) (Y * den) → to_bits f r % 2 ≡ 0

-- lib.Ieee's `round`, which every operation's result goes through
abbrev pub RoundNearest : Type 0
RoundNearest = (f : Format) (s : Bool) (num den : ℕ) → 0 < den → Rounded f s num den (round f s num den)

-- the value m * 2 ^ e, a zero too; a NaN and the infinities are in the definition
abbrev pub NarrowNearest : Type 0
NarrowNearest = (s : Bool) (m : ℕ) (e : ℤ) → Rounded binary32 s (m * up e) (down e) (narrow_of (fin s m e))

abbrev pub NarrowSign : Type 0
NarrowSign = (x : Float) → sign_bit (narrow_of x) ≡ sign_bit x

abbrev pub WholeNearest : Type 0
WholeNearest = (f : Format) (n : ℕ) → Rounded f false n 1 (of_int f (pos n))
