-- `float_order::powi4` meets its contract: its two products are the definition's. Assumes nothing.
use mathlib.Core.Path.{refl}
use Rattle.float_order.specs.Order.{square_of, powi4_of}
use Rattle.float_order.proofs.powi4.Goals as goal

pub returns : goal.returns
unfolding square_of powi4_of
returns c = refl
