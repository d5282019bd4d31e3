-- `row_greatest::top` meets its contract: the greater of the lanes' greatest and the rest's. Assumes nothing.
use Rattle.std.proofs.Common.{◌*◌, ◌/◌, length, arith}
use Rattle.std.proofs.lemmas.List.{take_rest}
use Rattle.row_greatest.proofs.Tops.{top_drop, top_join, lanes_top}
use Rattle.row_greatest.proofs.top.Goals as goal

pub returns : goal.returns
returns c =
    let l = c.args.l.now in
    let n = length l / 8 * 8 in
    rw c.greater.ensures
    (top_join l 0 n (length l) c.greatest.result c.greatest-2.result (omega arith) (omega arith)
    (lanes_top l n c.lanes.result c.greatest.result c.lanes.ensures c.greatest.ensures)
    (top_drop l n c.greatest-2.result (omega arith) (rw (take_rest l n) at c.greatest-2.ensures)))
