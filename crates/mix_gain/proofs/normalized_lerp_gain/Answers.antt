-- `mix_gain::normalized_lerp_gain` meets its contract: the operations are the definition's, in its order, with the clamped t. Assumes nothing.
use mathlib.Core.Path.{ap}
use lib.Ieee.{Float, binary32, add, sub, mul, div}
use Rattle.float_order.specs.Order.{max_of}
use Rattle.float_root.specs.Root.{sqrt_of}
use Rattle.mix_gain.specs.Mixed.{least_mix_norm_sq, norm_sq_of, normalized_lerp_gain_of}
use Rattle.mix_gain.proofs.normalized_lerp_gain.Goals as goal

pub returns : goal.returns
unfolding normalized_lerp_gain_of
returns c =
    let a = c.args in
    rw (c.sqrt32.ensures, c.max.ensures, c.norm_sq.ensures)
    (ap (λ (t : Float). div binary32 (add binary32 a.from (mul binary32 (sub binary32 a.to a.from) t)) (sqrt_of binary32 (max_of (norm_sq_of t a.dot) least_mix_norm_sq))) c.clamp-at.ensures)
