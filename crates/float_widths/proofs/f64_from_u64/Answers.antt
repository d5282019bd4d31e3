-- `float_widths::f64_from_u64` meets its contract: std's function rounds its argument once. Assumes nothing.
use Rattle.float_widths.proofs.f64_from_u64.Goals as goal

pub returns : goal.returns
returns c = c.nearest_u64_to_f64.ensures
