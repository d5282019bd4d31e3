-- Document 01, "Number work", the stand-ins: sine and cosine, in 64 bits; a 32-bit call widens, computes, narrows. Assumes nothing.
use Rattle.std.specs.Prelude.{ℕ, zero, suc, ◌+◌, ◌-◌, ◌*◌, ◌/◌, ◌%◌, ◌<◌, ◌≤◌, Bool, true, false, cond, List, ℤ, pos, negsuc, neg_ℤ, Float}
use Rattle.std.specs.Float.{nan, inf, fin, binary64}
use Rattle.std.specs.Float.Ieee.{up, down, sub, neg, mul, div, rem, of_int}
use Rattle.float_widths.specs.Narrow.{narrow_of}
use Rattle.float_sine.specs.Pi.{two_pi, half_pi}
use Rattle.float_sine.specs.Series.{coefficients, sum_of, factorial}

-- ---- S(y) and C(y), i = 0..8

unfoldable pub sine_coefficients : List Float
sine_coefficients = coefficients (λ i. factorial (2 * i + 1)) 0 9

unfoldable pub cosine_coefficients : List Float
cosine_coefficients = coefficients (λ i. factorial (2 * i)) 0 9

unfoldable pub S : Float → Float
S y = mul binary64 y (sum_of (mul binary64 y y) sine_coefficients)

unfoldable pub C : Float → Float
C y = sum_of (mul binary64 y y) cosine_coefficients

-- ---- r, q, k and y of v

-- 4: 4010_0000_0000_0000. Origin: 2·pi ÷ (pi/2), the most that q can be.
abbrev pub 4·0 : Float
4·0 = fin false 1 (pos 2)

-- The remainder has the sign of the dividend; of a NaN and of an infinity it is NaN, and so is all that follows (`SinOfNan`, `SinOfInf` of Meaning.antt). The sign and payload of that NaN are the program's: every choice is a NaN.
unfoldable pub remainder : Float → Float
remainder v = rem binary64 v two_pi

-- q: from −4 to 4
unfoldable pub quotient : Float → Float
quotient v = div binary64 (remainder v) half_pi

-- The whole number k with k − ½ ≤ q < k + ½. Of q = a: the whole part of a + ½; of q = −a: less the least whole number from a − ½ on.
-- `Nearest` below says it by the inequality; that this k, and no other, meets it is `NearestWholeNearest` and `NearestWholeOnly` of Meaning.antt.
unfoldable pub nearest_whole : Float → ℤ
nearest_whole nan = pos 0
nearest_whole (inf s) = pos 0
nearest_whole (fin false m e) = pos ((2 * (m * up e) + down e) / (2 * down e))
nearest_whole (fin true m e) = neg_ℤ (pos ((2 * (m * up e) + down e - 1) / (2 * down e)))

-- n where the sign is clear, and where it is set: a number is the first less the second
abbrev pub above : Bool → ℕ → ℕ
above s n = cond s 0 n

abbrev pub below : Bool → ℕ → ℕ
below s n = cond s n 0

-- 2k − 1 ≤ 2q < 2k + 1, times q's denominator, each part on the side where it is added
unfoldable pub Nearest : ℤ → Float → Type 0
Nearest k nan = ⊥
Nearest k (inf s) = ⊥
Nearest (pos k) (fin s m e) =
    (2 * k * down e + 2 * below s (m * up e) ≤ 2 * above s (m * up e) + down e) × (2 * above s (m * up e) < 2 * k * down e + down e + 2 * below s (m * up e))
Nearest (negsuc k) (fin s m e) =
    (2 * below s (m * up e) ≤ 2 * above s (m * up e) + 2 * suc k * down e + down e) × (2 * above s (m * up e) + 2 * suc k * down e < down e + 2 * below s (m * up e))

unfoldable pub quarter : Float → ℤ
quarter v = nearest_whole (quotient v)

unfoldable pub reduced : Float → Float
reduced v = sub binary64 (remainder v) (mul binary64 (of_int binary64 (quarter v)) half_pi)

-- k mod 4, 0 to 3, also for negative k
unfoldable pub mod4 : ℤ → ℕ
mod4 (pos n) = n % 4
mod4 (negsuc n) = 3 - n % 4

-- ---- by k mod 4

unfoldable pub sine_by : ℕ → Float → Float
sine_by zero y = S y
sine_by (suc zero) y = C y
sine_by (suc (suc zero)) y = neg (S y)
sine_by (suc (suc (suc n))) y = neg (C y)

unfoldable pub cosine_by : ℕ → Float → Float
cosine_by zero y = C y
cosine_by (suc zero) y = neg (S y)
cosine_by (suc (suc zero)) y = neg (C y)
cosine_by (suc (suc (suc n))) y = S y

unfoldable pub sin_of : Float → Float
sin_of v = sine_by (mod4 (quarter v)) (reduced v)

unfoldable pub cos_of : Float → Float
cos_of v = cosine_by (mod4 (quarter v)) (reduced v)

-- ---- 32 bits: to widen changes no value

unfoldable pub sin32_of : Float → Float
sin32_of v = narrow_of (sin_of v)

unfoldable pub cos32_of : Float → Float
cos32_of v = narrow_of (cos_of v)
