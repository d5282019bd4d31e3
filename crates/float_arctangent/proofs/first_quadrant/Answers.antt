-- `float_arctangent::first_quadrant` meets its contract: the branch is the definition's test. Assumes nothing.
use mathlib.Core.Path.{sym, ap, ◌∙◌}
use lib.Ieee.{binary64, sub}
use Rattle.lists.proofs.Tests.{cond_yes, cond_no}
use Rattle.float_sine.specs.Pi.{half_pi}
use Rattle.float_arctangent.specs.Arctangent.{atan_of, ratio_of, first_quadrant_of}
use Rattle.float_arctangent.proofs.first_quadrant.Goals as goal

pub returns-then-y-x : goal.returns-then-y-x
unfolding first_quadrant_of
returns-then-y-x c =
    c.atan.ensures
    ∙ ap atan_of c.ratio.ensures
    ∙ sym (cond_yes (atan_of (ratio_of c.args.y c.args.x)) (sub binary64 half_pi (atan_of (ratio_of c.args.x c.args.y))) c.if-y-x.true)

pub returns : goal.returns
unfolding first_quadrant_of
returns c =
    ap (sub binary64 half_pi) (c.atan-2.ensures ∙ ap atan_of c.ratio-2.ensures)
    ∙ sym (cond_no (atan_of (ratio_of c.args.y c.args.x)) (sub binary64 half_pi (atan_of (ratio_of c.args.x c.args.y))) c.if-y-x.false)
