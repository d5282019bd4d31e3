-- `float_sine::sin32` meets its contract: widened, computed, narrowed. Assumes nothing.
use Rattle.std.proofs.Common.{ap, ◌∙◌}
use Rattle.float_widths.specs.Narrow.{narrow_of}
use Rattle.float_sine.specs.Sine.{sin_of, sin32_of}
use Rattle.float_sine.proofs.sin32.Goals as goal

pub returns : goal.returns
unfolding sin32_of
returns c = c.narrow.ensures ∙ ap narrow_of (c.sin.ensures ∙ ap sin_of c.widen.ensures)
