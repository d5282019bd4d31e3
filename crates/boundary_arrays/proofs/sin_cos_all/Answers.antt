use mathlib.Core.Path.{◌≡◌}
use Prim.Native.Nat.{min}
use lib.ListN.{length}
use native.Mathlib.Omega.{arith}
use Rattle.boundary_arrays.proofs.Filling.{filled_none, filled_more}
use Rattle.boundary_arrays.proofs.sin_cos_all.Goals as goal
use Rattle.boundary_arrays.proofs.sin_cos_all.Goals.{After-loop-i}

pub loop-i-init : goal.loop-i-init
loop-i-init c = (filled_none _ c.args.sin.now, filled_none _ c.args.cos.now)

pub loop-i-preserved : goal.loop-i-preserved
loop-i-preserved c = (
  filled_more _ c.args.sin.now c.loop-i.sin c.loop-i.i c.sin_cos-r.result.sin (omega arith) c.sin_cos-r.ensures.0 c.loop-i.invariant.0,
  filled_more _ c.args.cos.now c.loop-i.cos c.loop-i.i c.sin_cos-r.result.cos (omega arith) c.sin_cos-r.ensures.1 c.loop-i.invariant.1,
)

all : (c : After-loop-i) → c.loop-i.i ≡ min (length c.args.src.now) (min (length c.args.sin.now) (length c.args.cos.now))
all c = omega arith

pub returns-clause-sines : goal.returns-clause-sines
returns-clause-sines c = rw (← all c) c.loop-i.invariant.0

pub returns-clause-cosines : goal.returns-clause-cosines
returns-clause-cosines c = rw (← all c) c.loop-i.invariant.1
