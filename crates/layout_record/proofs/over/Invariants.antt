-- `layout_record::over` meets its contract. The loop's invariant: the answer so far is the test of the bytes passed. Assumes nothing.
use Rattle.std.proofs.Common.{◌≡◌, leb, take}
use Rattle.lists.specs.Lists.{any}
use Rattle.layout_record.proofs.over.Given as goal

abbrev pub invariant-loop-x : goal.invariant-loop-x
invariant-loop-x l = l.some ≡ any (λ x. leb l.bound x) (take l.x-index l.xs)
