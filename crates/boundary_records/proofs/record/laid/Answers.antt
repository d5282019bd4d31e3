use mathlib.Core.Path.{refl, ap, ◌∙◌}
use mathlib.Core.List.{List, map}
use Rattle.std.proofs.lemmas.List.{take_all}
use Rattle.lists.specs.Lists.{filled}
use Rattle.layout_planar.specs.declared.PlanarPair.{PlanarPair}
use Rattle.boundary_records.specs.Places.{most_outputs}
use Rattle.boundary_records.proofs.Pairs.{laid_more}
use Rattle.boundary_records.proofs.record.laid.Goals as goal

pub loop-i-init : goal.loop-i-init
unfolding filled
loop-i-init g c = λ h w. refl

pub loop-i-preserved : goal.loop-i-preserved
loop-i-preserved g c =
    λ h w. laid_more most_outputs c.args.blank h c.args.pairs.now _ c.loop-i-test.true c.requires.fits (w _ _ c.entries.ensures) (c.loop-i.invariant h w)

pub returns : goal.returns
returns g c = λ h w. c.loop-i.invariant h w ∙ ap (λ (l : List PlanarPair). filled most_outputs c.args.blank (map h l)) (take_all c.loop-i.i c.args.pairs.now c.loop-i-test.false)
