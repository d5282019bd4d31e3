-- `layout_fan::spots` meets its contract: so far stand there the spots of j, k and the numbers that were passed. Assumes nothing.
use Rattle.std.proofs.Common.{◌≡◌, ◌∷◌, map, take}
use Rattle.layout_faces.specs.Faces.{point}
use Rattle.layout_fan.specs.Inner.Steps.{spot_of}
use Rattle.layout_fan.proofs.spots.Given as goal

abbrev pub invariant-loop-p : goal.invariant-loop-p
invariant-loop-p l =
    let c = l.c in
    l.ring.items ≡ map (λ p. spot_of l.basis l.first p (point c.pts.now p)) (c.t.j ∷ c.t.k ∷ take l.p-index l.numbers)
