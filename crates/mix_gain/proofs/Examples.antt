-- The value of specs/Examples.antt: the definition gives it by computation. Assumes nothing.
use mathlib.Core.Path.{refl}
use lib.Ieee.{of_bits, add, sub, mul, div, eq, lt, is_nan}
use Rattle.float_order.specs.Order.{max_of, clamp_of}
use Rattle.float_root.specs.Root.{sqrt_of}
use Rattle.mix_gain.specs.Mixed.{norm_sq_of, normalized_lerp_gain_of}
use Rattle.mix_gain.specs.Examples.{MixedAt0}

pub mixed_at_0 : MixedAt0
unfolding normalized_lerp_gain_of norm_sq_of of_bits add sub mul div lt eq is_nan max_of clamp_of sqrt_of
mixed_at_0 = refl
