-- `row_gains::gains` meets its contract: a refusal leaves the buffer as it was, and the row fills the part that is lent. Assumes nothing.
use Rattle.std.proofs.Common.{sym, ◌∙◌}
use Rattle.row_gains.proofs.Rows.{refused, counts_in, accepted}
use Rattle.row_gains.proofs.gains.Goals as goal

pub returns-then-malformed : goal.returns-then-malformed
returns-then-malformed c =
    let a = c.args in
    let r = refused a.panner.now a.az a.el a.out.now (sym c.malformed.ensures ∙ c.if-malformed.true) in
    record { value = r.0; out_after = r.1 }

pub row-requires : goal.row-requires
row-requires c = let a = c.args in counts_in a.panner.now a.az a.el a.out.now (sym c.malformed.ensures ∙ c.if-malformed.false)

pub returns : goal.returns
returns c =
    let a = c.args in
    let r = accepted a.panner.now a.az a.el a.out.now _ c.min-n.ensures (sym c.malformed.ensures ∙ c.if-malformed.false) c.finite_or_0.ensures c.finite_or_0-2.ensures c.row.ensures in
    record { value = r.0; out_after = r.1 }
