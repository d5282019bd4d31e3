-- NaN and the infinities follow from the steps: the sine and cosine of neither is a number. Assumes nothing.
use lib.Ieee.{nan, inf, add, sub, rem}
use Rattle.float_sine.specs.Sine.{remainder, quarter, reduced, mod4, sin_of, cos_of}
use Rattle.float_sine.specs.Meaning.{SinOfNan, SinOfInf}
use Rattle.float_sine.proofs.Turns.{sine_by_nan, cosine_by_nan}

pub sin_of_nan : SinOfNan
unfolding sin_of cos_of reduced remainder rem sub add
sin_of_nan = (sine_by_nan (mod4 (quarter nan)), cosine_by_nan (mod4 (quarter nan)))

pub sin_of_inf : SinOfInf
unfolding sin_of cos_of reduced remainder rem sub add
sin_of_inf s = (sine_by_nan (mod4 (quarter (inf s))), cosine_by_nan (mod4 (quarter (inf s))))
