-- The values of specs/Examples.antt: the definition gives each by computation. Assumes nothing.
use Rattle.std.proofs.Common.{refl}
use lib.Ieee.{of_bits}
use Rattle.float_widths.specs.Narrow.{narrow_of}
use Rattle.float_widths.specs.Examples.{Narrow16777217, Narrow16777219, NarrowLargest, NarrowTooLarge, NarrowToMinusZero}

pub narrow_16777217 : Narrow16777217
unfolding narrow_of of_bits
narrow_16777217 = refl

pub narrow_16777219 : Narrow16777219
unfolding narrow_of of_bits
narrow_16777219 = refl

pub narrow_largest : NarrowLargest
unfolding narrow_of of_bits
narrow_largest = refl

pub narrow_too_large : NarrowTooLarge
unfolding narrow_of of_bits
narrow_too_large = refl

pub narrow_to_minus_zero : NarrowToMinusZero
unfolding narrow_of of_bits
narrow_to_minus_zero = refl
