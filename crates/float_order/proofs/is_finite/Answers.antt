-- `float_order::is_finite` meets its contract: what lies between the infinities is finite. Assumes nothing.
use Rattle.std.proofs.Common.{◌≡◌, true, false, ◌&&◌, ◌∙◌}
use lib.Ieee.{inf, lt}
use Rattle.float_order.proofs.Values.{finite_between}
use Rattle.float_order.proofs.is_finite.Goals as goal

pub returns : goal.returns
returns g c =
    let x = g.W.Float.float c.args.x in
    let e : (c.is_less.result && c.is_less-2.result) ≡ (lt x (inf false) && lt (inf true) x) = cc (c.is_less.ensures.less, c.is_less-2.ensures.less, c.infinity.ensures, c.neg_infinity.ensures) in
    e ∙ finite_between x
