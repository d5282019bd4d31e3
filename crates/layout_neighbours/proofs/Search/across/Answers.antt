use Rattle.std.proofs.Common.{sym, ◌∙◌}
use Rattle.layout_neighbours.proofs.Holds.{slots}
use Rattle.layout_neighbours.proofs.Triplet.{across_meets, across_misses, reached_more, reached_all}
use Rattle.layout_neighbours.proofs.Search.across.Goals as goal

pub loop-p-preserved : goal.loop-p-preserved
loop-p-preserved c = reached_more c.args.g.slots.now c.args.t.now c.loop-p.p-index c.loop-p.invariant c.loop-p-test.true c.reach.ensures

pub returns-after-loop-p : goal.returns-after-loop-p
returns-after-loop-p c r h =
    rw (across_meets (slots c.args.g.few c.args.g.low) h c.args.t.now c.requires (sym c.is_met.ensures ∙ c.if-is_met.true)) (reached_all c.args.g.slots.now c.args.t.now c.loop-p.p-index c.loop-p.invariant c.loop-p-test.false r h)

pub returns-else-is_met : goal.returns-else-is_met
returns-else-is_met c r h = rw (across_misses (slots c.args.g.few c.args.g.low) h c.args.t.now c.requires (sym c.is_met.ensures ∙ c.if-is_met.false)) h
