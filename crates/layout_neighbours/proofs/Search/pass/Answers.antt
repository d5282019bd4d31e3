use Rattle.layout_neighbours.proofs.Chunks.{walked_start, walked_all, walked_on, next_low}
use Rattle.layout_neighbours.proofs.Search.pass.Goals as goal

pub loop-t-init : goal.loop-t-init
loop-t-init c = rw c.into_iter-t-iterator.ensures.into_iter_gives (walked_start c.args.g.points c.chunks_exact-t-items.ensures.size c.chunks_exact-t-items.ensures.rest)

pub across-requires : goal.across-requires
across-requires c = next_low c.loop-t.invariant _ _ c.in-Some.ensures.steps.1.0 c.in-Some.ensures.steps.1.1

pub loop-t-preserved : goal.loop-t-preserved
loop-t-preserved c =
    walked_on c.loop-t.invariant _ _ c.in-Some.ensures.steps.1.0 c.in-Some.ensures.steps.1.1 c.in-Some.ensures.steps.0 c.across.ensures

pub returns : goal.returns
returns c = walked_all c.loop-t.invariant c.in-None.ensures.steps.1.0
