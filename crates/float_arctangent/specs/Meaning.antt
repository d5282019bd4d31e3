-- Document 01, "Number work", the stand-ins: what follows from the steps of Arctangent.antt. Each statement is proved in proofs/ by the theorem of its name:
-- `Table` by `table` (Coefficients.antt), `AtanOfNan` by `atan_of_nan`, `Atan2OfNanY` by `atan2_of_nan_y` (NotNumbers.antt), and so on. Assumes nothing.
use Rattle.std.specs.Prelude.{◌≡◌, Bool, List, [], ◌∷◌, Float}
use Rattle.std.specs.Float.{nan, inf, binary64}
use Rattle.std.specs.Float.Ieee.{of_bits}
use Rattle.float_arctangent.specs.Arctangent.{arctangent_coefficients, atan_of, atan2_of}

-- ---- the coefficients of A, "each its quotient rounded once", as bit patterns: the constants of the code

abbrev pub arctangent_table : List Float
arctangent_table =
    of_bits binary64 0x3ff0_0000_0000_0000
    ∷ of_bits binary64 0xbfd5_5555_5555_5555
    ∷ of_bits binary64 0x3fc9_9999_9999_999a
    ∷ of_bits binary64 0xbfc2_4924_9249_2492
    ∷ of_bits binary64 0x3fbc_71c7_1c71_c71c
    ∷ of_bits binary64 0xbfb7_45d1_745d_1746
    ∷ of_bits binary64 0x3fb3_b13b_13b1_3b14
    ∷ of_bits binary64 0xbfb1_1111_1111_1111
    ∷ []

abbrev pub Table : Type 0
Table = arctangent_table ≡ arctangent_coefficients

-- ---- a NaN, and two infinities, have no angle

abbrev pub AtanOfNan : Type 0
AtanOfNan = atan_of nan ≡ nan

abbrev pub Atan2OfNanY : Type 0
Atan2OfNanY = (x : Float) → atan2_of nan x ≡ nan

abbrev pub Atan2OfNanX : Type 0
Atan2OfNanX = (y : Float) → atan2_of y nan ≡ nan

abbrev pub Atan2OfInfinities : Type 0
Atan2OfInfinities = (s t : Bool) → atan2_of (inf s) (inf t) ≡ nan
