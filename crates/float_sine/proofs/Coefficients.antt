-- The constants of the code are the coefficients of document 01, each its quotient rounded once, and pi's float, its double and its half: by computation. Assumes nothing.
use Rattle.std.proofs.Common.{refl}
use lib.Ieee.{round, add, div, of_bits}
use Rattle.float_sine.specs.Series.{coefficients, factorial}
use Rattle.float_sine.specs.Sine.{sine_coefficients, cosine_coefficients}
use Rattle.float_sine.specs.Meaning.{PI64Nearest, TwoPiHalfPi, Tables}

pub tables : Tables
unfolding sine_coefficients cosine_coefficients coefficients factorial round of_bits
tables = (refl, refl)

pub PI64-nearest : PI64Nearest
unfolding round of_bits
PI64-nearest = (refl, refl)

pub two_pi_half_pi : TwoPiHalfPi
unfolding add div of_bits
two_pi_half_pi = (refl, refl)
