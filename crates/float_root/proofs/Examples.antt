-- The roots of specs/Examples.antt: the definition gives each by computation. Assumes nothing.
use mathlib.Core.Path.{refl}
use lib.Ieee.{of_bits}
use Rattle.float_root.specs.Root.{sqrt_of}
use Rattle.float_root.specs.Examples.{RootOf2In32Bits, RootOf2In64Bits, RootOfTheSmallest, RootOfMinusZero}

pub root_of_2_in_32_bits : RootOf2In32Bits
unfolding sqrt_of of_bits
root_of_2_in_32_bits = refl

pub root_of_2_in_64_bits : RootOf2In64Bits
unfolding sqrt_of of_bits
root_of_2_in_64_bits = refl

pub root_of_the_smallest : RootOfTheSmallest
unfolding sqrt_of of_bits
root_of_the_smallest = refl

pub root_of_minus_zero : RootOfMinusZero
unfolding sqrt_of of_bits
root_of_minus_zero = refl
