-- `float_sine::sin_cos32` meets its contract: widened, computed, narrowed. Assumes nothing.
use Rattle.std.proofs.Common.{ap, ◌∙◌}
use Rattle.float_widths.specs.Narrow.{narrow_of}
use Rattle.float_sine.specs.Sine.{sin_of, cos_of, sin32_of, cos32_of}
use Rattle.float_sine.proofs.sin_cos32.Goals as goal

pub returns : goal.returns
unfolding sin32_of cos32_of
returns c =
    (c.narrow.ensures ∙ ap narrow_of (c.sin_cos-t.ensures.0 ∙ ap sin_of c.widen.ensures), c.narrow-2.ensures ∙ ap narrow_of (c.sin_cos-t.ensures.1 ∙ ap cos_of c.widen.ensures))
