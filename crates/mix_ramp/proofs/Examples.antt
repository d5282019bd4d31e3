-- The values of specs/Examples.antt: the definitions give each by computation. Assumes nothing.
use mathlib.Core.Path.{refl}
use lib.Ieee.{of_bits, add, sub, mul, div, eq, of_int}
use Rattle.lists.specs.Lists.{range, from}
use Rattle.mix_ramp.specs.Ramp.{ramp_gain, ramp_add_of}
use Rattle.mix_ramp.specs.Examples.{Ramp0To1, RampKeeps, RampZeros}

pub ramp_0_to_1 : Ramp0To1
unfolding ramp_add_of ramp_gain range from of_int of_bits add sub mul div eq
ramp_0_to_1 = refl

pub ramp_keeps : RampKeeps
unfolding ramp_add_of ramp_gain range from of_int add sub mul div eq
ramp_keeps = refl

pub ramp_zeros : RampZeros
unfolding ramp_add_of ramp_gain range from of_int of_bits add sub mul div eq
ramp_zeros = refl
