use native.Mathlib.Omega.{arith}
use mathlib.Core.Path.{◌≡◌, ap}
use mathlib.Core.List.{List}
use lib.Ieee.{Float, nan}
use lib.ListN.{set, get_or}
use Prim.Native.Nat.{◌+◌}
use Rattle.lists.proofs.Ranges.{range_none, range_snoc}
use Rattle.lists.proofs.Collect.{foldl_snoc}
use Rattle.mix_eights.proofs.store.Goals as goal

pub loop-k-init : goal.loop-k-init
loop-k-init c = rw range_none

pub loop-k-preserved : goal.loop-k-preserved
loop-k-preserved c = rw range_snoc (rw foldl_snoc (ap (λ (l : List Float). set l (c.args.i + c.loop-k.k) (get_or c.args.v c.loop-k.k nan)) c.loop-k.invariant))

pub returns : goal.returns
returns c =
    let e : c.loop-k.k ≡ 8 = omega arith in
    rw (← e) c.loop-k.invariant
