-- `float_sine::cos32` meets its contract: widened, computed, narrowed. Assumes nothing.
use Rattle.std.proofs.Common.{ap, ◌∙◌}
use Rattle.float_widths.specs.Narrow.{narrow_of}
use Rattle.float_sine.specs.Sine.{cos_of, cos32_of}
use Rattle.float_sine.proofs.cos32.Goals as goal

pub returns : goal.returns
unfolding cos32_of
returns c = c.narrow.ensures ∙ ap narrow_of (c.cos.ensures ∙ ap cos_of c.widen.ensures)
