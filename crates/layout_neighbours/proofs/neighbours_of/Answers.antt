use Rattle.std.proofs.Common.{arith}
use Rattle.layout_neighbours.proofs.Left.{held_first, left_start, left_nbrs, left_found, left_less, left_on}
use Rattle.layout_neighbours.proofs.neighbours_of.Goals as goal

pub invariant_of-s : goal.invariant_of-s
invariant_of-s c = record { held = held_first c.args.p (omega (arith, c.requires.1, c.args.g.few)) }

pub loop-s-init : goal.loop-s-init
loop-s-init c = left_start _ _ c.args.p c.requires.0 c.requires.1 (omega (arith, c.args.g.few))

pub returns-then-s-seen-clause-nbrs : goal.returns-then-s-seen-clause-nbrs
returns-then-s-seen-clause-nbrs c = left_nbrs _ _ c.args.g.points c.loop-s.invariant c.pass.ensures c.if-s-seen.true

pub returns-then-s-seen-clause-found : goal.returns-then-s-seen-clause-found
returns-then-s-seen-clause-found c = left_found _ _ c.args.g.points c.loop-s.invariant c.pass.ensures c.if-s-seen.true

pub loop-s-smaller : goal.loop-s-smaller
loop-s-smaller c =
    omega (arith, left_less _ _ c.args.g.points c.loop-s.invariant c.pass.ensures c.if-s-seen.false)

pub loop-s-preserved : goal.loop-s-preserved
loop-s-preserved c =
    left_on _ _ c.args.g.points c.loop-s.invariant c.pass.ensures c.if-s-seen.false
