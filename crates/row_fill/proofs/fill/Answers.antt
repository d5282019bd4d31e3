-- `row_fill::fill` meets its contract: the callees' promises, one after the other; a triplet of real points has nothing to share. Assumes nothing.
use Rattle.std.proofs.Common.{length, sym, ◌∙◌}
use borrow.Author.Tests.{not-false}
use Rattle.row_fill.proofs.Places.{real_shares, placed_told}
use Rattle.row_fill.proofs.fill.Goals as goal

pub returns-then-not-is_real : goal.returns-then-not-is_real
returns-then-not-is_real c =
    let a = c.args in
    let row = rw (c.corners-points.ensures, c.zero.ensures) at c.real_points.ensures in
    c.share_out.ensures ∙ rw (c.imag_points.ensures, c.corners-points.ensures) (placed_told a.slots.now a.panner.now a.t a.g (length a.out.now) row)

pub returns-else-not-is_real : goal.returns-else-not-is_real
returns-else-not-is_real c =
    let a = c.args in
    let v = a.panner.now in
    let row = rw (c.corners-points.ensures, c.zero.ensures) at c.real_points.ensures in
    let e = rw c.corners-points.ensures at (sym c.is_real.ensures ∙ not-false _ c.if-not-is_real.false-raw) in
    real_shares _ _ a.g e v.num_nbrs v.imag_nbrs v.num_imag _ ∙ placed_told a.slots.now v a.t a.g (length a.out.now) row
