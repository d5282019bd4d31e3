-- `float_sine::cos` meets its contract: it is the second of the pair. Assumes nothing.
use Rattle.float_sine.proofs.cos.Goals as goal

pub returns : goal.returns
returns c = c.sin_cos.ensures.1
