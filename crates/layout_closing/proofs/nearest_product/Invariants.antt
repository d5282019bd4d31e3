-- The loop's invariant: g is the greatest product with the points so far. Assumes nothing.
use Rattle.std.proofs.Common.{◌≡◌, take}
use Rattle.layout_closing.specs.Closing.{nearest_product}
use Rattle.layout_closing.proofs.nearest_product.Given as goal

abbrev pub invariant-loop-p : goal.invariant-loop-p
invariant-loop-p l = l.g ≡ nearest_product (take l.p-index l.pts) l.c
