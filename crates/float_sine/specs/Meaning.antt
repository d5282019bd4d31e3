-- Document 01, "Number work", the stand-ins: what the definitions of Pi.antt, Series.antt and Sine.antt mean. Each statement is proved in proofs/ by the theorem of its name:
-- `PI64Nearest` by `PI64-nearest`, `Tables` by `tables` (Coefficients.antt), `NearestWholeNearest` by `nearest_whole_nearest` (Whole.antt), `SinOfNan` by `sin_of_nan` (NotNumbers.antt), and so on. Assumes nothing.
use Rattle.std.specs.Prelude.{◌≡◌, ℕ, suc, ◌+◌, ◌*◌, ◌/◌, ◌^◌, ◌<◌, Bool, true, false, T, List, [], ◌∷◌, ℤ, pos, negsuc, from_bits, Float}
use Rattle.std.specs.Float.{nan, inf, binary64}
use Rattle.std.specs.Float.Ieee.{round, add, neg, div, lt, fits}
use Rattle.float_order.specs.Values.{2·0, is_finite}
use Rattle.float_sine.specs.Pi.{PI64, two_pi, half_pi}
use Rattle.float_sine.specs.Sine.{sine_coefficients, cosine_coefficients, remainder, nearest_whole, Nearest, mod4, sin_of, cos_of}

-- ---- pi

-- "the 64-bit float nearest pi": pi lies between these two decimals, its first 20 places cut and raised, and both round to PI64
abbrev pub PI64Nearest : Type 0
PI64Nearest = (round binary64 false 314159265358979323846 (10 ^ 20) ≡ PI64) × (round binary64 false 314159265358979323847 (10 ^ 20) ≡ PI64)

-- "2·pi and pi/2 are its double and half"
abbrev pub TwoPiHalfPi : Type 0
TwoPiHalfPi = (add binary64 PI64 PI64 ≡ two_pi) × (div binary64 PI64 2·0 ≡ half_pi)

-- ---- the coefficients of S and C, "each its quotient rounded once", as bit patterns: the constants of the code

abbrev pub sine_table : List Float
sine_table =
    from_bits binary64 0x3ff0_0000_0000_0000
    ∷ from_bits binary64 0xbfc5_5555_5555_5555
    ∷ from_bits binary64 0x3f81_1111_1111_1111
    ∷ from_bits binary64 0xbf2a_01a0_1a01_a01a
    ∷ from_bits binary64 0x3ec7_1de3_a556_c734
    ∷ from_bits binary64 0xbe5a_e645_67f5_44e4
    ∷ from_bits binary64 0x3de6_1246_13a8_6d09
    ∷ from_bits binary64 0xbd6a_e7f3_e733_b81f
    ∷ from_bits binary64 0x3ce9_52c7_7030_ad4a
    ∷ []

abbrev pub cosine_table : List Float
cosine_table =
    from_bits binary64 0x3ff0_0000_0000_0000
    ∷ from_bits binary64 0xbfe0_0000_0000_0000
    ∷ from_bits binary64 0x3fa5_5555_5555_5555
    ∷ from_bits binary64 0xbf56_c16c_16c1_6c17
    ∷ from_bits binary64 0x3efa_01a0_1a01_a01a
    ∷ from_bits binary64 0xbe92_7e4f_b778_9f5c
    ∷ from_bits binary64 0x3e21_eed8_eff8_d898
    ∷ from_bits binary64 0xbda9_3974_a8c0_7c9d
    ∷ from_bits binary64 0x3d2a_e7f3_e733_b81f
    ∷ []

abbrev pub Tables : Type 0
Tables = (sine_table ≡ sine_coefficients) × (cosine_table ≡ cosine_coefficients)

-- ---- r, k and k mod 4

-- a value between −2·pi and 2·pi is its own remainder
abbrev pub RemainderInside : Type 0
RemainderInside = (v : Float) → T (fits binary64 v) → lt v two_pi ≡ true → lt (neg two_pi) v ≡ true → v ≡ remainder v

-- "k the whole number with k − ½ ≤ q < k + ½", and no other whole number has it
abbrev pub NearestWholeNearest : Type 0
NearestWholeNearest = (q : Float) → T (is_finite q) → Nearest (nearest_whole q) q

abbrev pub NearestWholeOnly : Type 0
NearestWholeOnly = (q : Float) (j k : ℤ) → Nearest j q → Nearest k q → j ≡ k

-- "k mod 4 (0 to 3, also for negative k)": k less its k mod 4 is a multiple of 4; of k = −(n + 1), (n + 1) + (k mod 4) is one
abbrev pub Mod4Pos : Type 0
Mod4Pos = (n : ℕ) → (mod4 (pos n) < 4) × (n ≡ 4 * (n / 4) + mod4 (pos n))

abbrev pub Mod4Negsuc : Type 0
Mod4Negsuc = (n : ℕ) → (mod4 (negsuc n) < 4) × (suc n + mod4 (negsuc n) ≡ 4 * suc (n / 4))

-- ---- "Of a NaN or an infinity both are NaN"

abbrev pub SinOfNan : Type 0
SinOfNan = (sin_of nan ≡ nan) × (cos_of nan ≡ nan)

abbrev pub SinOfInf : Type 0
SinOfInf = (s : Bool) → (sin_of (inf s) ≡ nan) × (cos_of (inf s) ≡ nan)
