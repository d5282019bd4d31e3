-- `float_widths::widen` meets its contract: std's cast gives the value of its argument, a NaN for a NaN. Assumes nothing.
use Rattle.float_widths.proofs.widen.Goals as goal

pub returns : goal.returns
returns c = c.f32_to_f64_with_nan.ensures
