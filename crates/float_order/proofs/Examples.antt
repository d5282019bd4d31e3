-- The single values of specs/Examples.antt: the definitions give each by computation. Assumes nothing.
use mathlib.Core.Path.{refl}
use lib.Ieee.{of_bits, is_nan, eq, lt, add, mul, rem}
use Rattle.float_order.specs.Order.{max_of, clamp_of, square_of, powi4_of}
use Rattle.float_order.specs.Remainder.{rem_euclid_of}
use Rattle.float_order.specs.Examples.{MaxOfZeros, MaxWithNan, ClampNan, ClampMinusZero, RemMinus90, FourthPowerOf2}

pub max_of_zeros : MaxOfZeros
unfolding max_of is_nan eq of_bits
max_of_zeros = refl

pub max_with_nan : MaxWithNan
unfolding max_of is_nan
max_with_nan = refl

pub clamp_nan : ClampNan
unfolding clamp_of lt
clamp_nan = refl

pub clamp_minus_zero : ClampMinusZero
unfolding clamp_of lt of_bits
clamp_minus_zero = refl

pub rem_minus_90 : RemMinus90
unfolding rem_euclid_of rem add lt
rem_minus_90 = refl

pub fourth_power_of_2 : FourthPowerOf2
unfolding powi4_of square_of mul
fourth_power_of_2 = refl
