-- Worked values of the stand-ins, by computation: the ends of the quarters, the zeros of both signs, a large argument. Assumes nothing.
use Rattle.std.proofs.Common.{◌≡◌, ℕ, refl}
use lib.Ieee.{binary64, round, add, sub, neg, mul, div, rem, of_int, of_bits}
use Rattle.float_sine.specs.Series.{coefficients, sum_of, factorial}
use Rattle.float_sine.specs.Sine.{S, C, sine_coefficients, cosine_coefficients, remainder, quotient, nearest_whole, quarter, reduced, mod4, sine_by, cosine_by, sin_of, cos_of}

-- v, its sine and its cosine, as bit patterns
abbrev SineTrial : ℕ → ℕ → ℕ → Type 0
SineTrial v s c = (sin_of (of_bits binary64 v) ≡ of_bits binary64 s) × (cos_of (of_bits binary64 v) ≡ of_bits binary64 c)

-- the float below pi/4, whose q + ½ would round to 1: k is 0
below_the_half : SineTrial 0x3fe9_21fb_5444_2d17 0x3fe6_a09e_667f_3bcc 0x3fe6_a09e_667f_3bce
unfolding sin_of cos_of sine_by cosine_by mod4 reduced quarter nearest_whole quotient remainder S C sine_coefficients cosine_coefficients coefficients factorial sum_of round add sub neg mul div rem of_int of_bits
below_the_half = (refl, refl)

-- −0, −2·pi and 2·pi: k is whole, so that −0 stays; pi
zeros : SineTrial 0x8000_0000_0000_0000 0x8000_0000_0000_0000 0x3ff0_0000_0000_0000 × SineTrial 0xc019_21fb_5444_2d18 0x8000_0000_0000_0000 0x3ff0_0000_0000_0000 × SineTrial 0x4019_21fb_5444_2d18 0 0x3ff0_0000_0000_0000 × SineTrial 0x4009_21fb_5444_2d18 0x8000_0000_0000_0000 0xbff0_0000_0000_0000
unfolding sin_of cos_of sine_by cosine_by mod4 reduced quarter nearest_whole quotient remainder S C sine_coefficients cosine_coefficients coefficients factorial sum_of round add sub neg mul div rem of_int of_bits
zeros = ((refl, refl), (refl, refl), (refl, refl), (refl, refl))

-- q = −2.5: k is −2; 1e22
negative_and_large : SineTrial 0xc00f_6a7a_2955_385e 0x3fe6_a09e_667f_3bcc 0xbfe6_a09e_667f_3bcd × SineTrial 0x4480_f0cf_064d_d592 0x3feb_f809_b254_97f6 0x3fdf_1895_52bf_e9ff
unfolding sin_of cos_of sine_by cosine_by mod4 reduced quarter nearest_whole quotient remainder S C sine_coefficients cosine_coefficients coefficients factorial sum_of round add sub neg mul div rem of_int of_bits
negative_and_large = ((refl, refl), (refl, refl))
