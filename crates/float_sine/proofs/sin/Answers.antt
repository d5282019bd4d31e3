-- `float_sine::sin` meets its contract: it is the first of the pair. Assumes nothing.
use Rattle.float_sine.proofs.sin.Goals as goal

pub returns : goal.returns
returns c = c.sin_cos.ensures.0
