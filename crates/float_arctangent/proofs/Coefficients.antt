-- The constants of the code are the coefficients of document 01, each its quotient rounded once: by computation. Assumes nothing.
use mathlib.Core.Path.{refl}
use lib.Ieee.{round, of_bits}
use Rattle.float_sine.specs.Series.{coefficients}
use Rattle.float_arctangent.specs.Arctangent.{arctangent_coefficients}
use Rattle.float_arctangent.specs.Meaning.{Table}

pub table : Table
unfolding arctangent_coefficients coefficients round of_bits
table = refl
