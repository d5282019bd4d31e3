use Rattle.row_greatest.proofs.Eights.{skipped_on}
use Rattle.row_greatest.proofs.skipped.Goals as goal

pub loop-i-preserved : goal.loop-i-preserved
loop-i-preserved c =
    let h = c.in-Some.ensures.steps in skipped_on c.loop-i.invariant _ _ h.0.1.0 h.0.1.1 h.0.0 h.2 (c.all_passed.ensures c.if-not-all_passed.false)
