use Rattle.boundary_arrays.proofs.Filling.{filled_none, filled_more}
use Rattle.boundary_arrays.proofs.fill_by.Goals as goal

pub loop-i-init : goal.loop-i-init
loop-i-init g c = λ h w. filled_none h c.args.dst.now

pub loop-i-preserved : goal.loop-i-preserved
loop-i-preserved g c =
    λ h w. filled_more h c.args.dst.now c.loop-i.dst c.loop-i.i c.f.result c.loop-i-test.true (w c.loop-i.i c.f.result c.loop-i-test.true c.f.ensures) (c.loop-i.invariant h w)
