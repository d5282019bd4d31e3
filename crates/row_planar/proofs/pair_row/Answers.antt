-- `row_planar::pair_row` meets its contract: a silent norm leaves the zeros, and otherwise the stores are the definition's. Assumes nothing.
use Rattle.std.proofs.Common.{length, ◌∙◌}
use Rattle.row_planar.proofs.Branches.{row_silent, row_sounds, row_made}
use Rattle.row_planar.proofs.pair_row.Goals as goal

pub returns-then-norm : goal.returns-then-norm
returns-then-norm c =
    let a = c.args in
    row_made (length a.row.now) a.el a.p.now a.g a.slots.now c.sqrt32-norm.result c.requires c.put.ensures c.add_at.ensures c.planar_spread.ensures c.spread_over.ensures
    ∙ row_sounds (length a.row.now) a.el a.p.now a.g a.slots.now c.sqrt32-norm.ensures c.if-norm.true

pub returns-else-norm : goal.returns-else-norm
returns-else-norm c =
    let a = c.args in
    c.requires ∙ row_silent (length a.row.now) a.el a.p.now a.g a.slots.now c.sqrt32-norm.ensures c.if-norm.false
