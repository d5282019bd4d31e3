-- Worked values of atan2, by computation. Assumes nothing.
use mathlib.Core.Path.{◌≡◌, refl}
use Prim.Native.Nat.{ℕ}
use lib.Ieee.{binary64, round, add, sub, neg, mul, div, eq, le, of_bits}
use Rattle.float_order.specs.Values.{abs, sign_bit}
use Rattle.float_root.specs.Root.{sqrt_of}
use Rattle.float_sine.specs.Series.{coefficients, sum_of}
use Rattle.float_arctangent.specs.Arctangent.{arctangent_coefficients, halved_of, eightfold_of, atan_of, ratio_of, first_quadrant_of, with_sign_of_x, with_sign_of_y, atan2_of}

-- y, x and the angle
abbrev AngleTrial : ℕ → ℕ → ℕ → Type 0
AngleTrial y x a = atan2_of (of_bits binary64 y) (of_bits binary64 x) ≡ of_bits binary64 a

-- two zeros of each sign; (−3, −0.5)
angles : AngleTrial 0 0 0 × AngleTrial 0x8000_0000_0000_0000 0 0x8000_0000_0000_0000 × AngleTrial 0 0x8000_0000_0000_0000 0x4009_21fb_5444_2d18 × AngleTrial 0x8000_0000_0000_0000 0x8000_0000_0000_0000 0xc009_21fb_5444_2d18 × AngleTrial 0xc008_0000_0000_0000 0xbfe0_0000_0000_0000 0xbffb_c66e_44cb_c074
unfolding atan2_of with_sign_of_x with_sign_of_y first_quadrant_of ratio_of atan_of eightfold_of halved_of arctangent_coefficients coefficients sum_of abs sign_bit sqrt_of round add sub neg mul div eq le of_bits
angles = (refl, refl, refl, refl, refl)
