-- The two formats' patterns, as generic code sees them. Assumes nothing.
use Rattle.std.specs.Prelude.{◌≡◌, ℕ, T, not, Float, is_nan, to_bits, refl}
use Rattle.std.specs.Float.{Format, binary32, binary64}
use Rattle.std.specs.Float.Ieee.{prec, low, fits, hid, ones, top}

-- the weights of the sign and of the exponent's field, and the highest field
pub record Weights (f : Format) (sign field highest : ℕ) : Type 0 where
  pub sign_is : sign ≡ top f
  pub field_is : field ≡ hid f
  pub highest_is : highest ≡ ones f

pub weights32 : Weights binary32 0x8000_0000 0x80_0000 255
weights32 = record { sign_is = refl; field_is = refl; highest_is = refl }

pub weights64 : Weights binary64 0x8000_0000_0000_0000 0x10_0000_0000_0000 2047
weights64 = record { sign_is = refl; field_is = refl; highest_is = refl }

-- the digits, and the power of two of which the smallest value is one part
pub record Sizes (f : Format) (digits lowest : ℕ) : Type 0 where
  pub digits_is : digits ≡ prec f
  pub lowest_is : lowest ≡ low f

pub sizes32 : Sizes binary32 24 149
sizes32 = record { digits_is = refl; lowest_is = refl }

pub sizes64 : Sizes binary64 53 1074
sizes64 = record { digits_is = refl; lowest_is = refl }

-- n is the bit pattern of x, a value of the format that is no NaN
pub record Patterned (f : Format) (x : Float) (n : ℕ) : Type 0 where
  pub held : T (fits f x)
  pub number : T (not (is_nan x))
  pub pattern : n ≡ to_bits f x
