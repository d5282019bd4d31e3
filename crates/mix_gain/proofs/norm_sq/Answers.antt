-- `mix_gain::norm_sq` meets its contract: the operations are the definition's, in its order, with the clamped dot product. Assumes nothing.
use mathlib.Core.Path.{ap}
use lib.Ieee.{Float, binary32, add, sub, mul, of_bits}
use Rattle.float_order.specs.Values.{1·0, 2·0}
use Rattle.mix_gain.specs.Mixed.{norm_sq_of}
use Rattle.mix_gain.proofs.norm_sq.Goals as goal

pub returns : goal.returns
unfolding norm_sq_of of_bits
returns c =
    let u = sub binary32 1·0 c.args.t in
    ap (λ (d : Float). add binary32 (add binary32 (mul binary32 u u) (mul binary32 c.args.t c.args.t)) (mul binary32 (mul binary32 (mul binary32 2·0 c.args.t) u) d)) c.clamp-d.ensures
