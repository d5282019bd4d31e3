-- `layout_record::counts_over` meets its contract: the tests in their order. Assumes nothing.
use Rattle.std.proofs.Common.{Bool, ◌||◌, ltb, ap}
use Rattle.layout_record.specs.Malformed.{counts_over}
use Rattle.layout_record.proofs.counts_over.Goals as goal

pub returns : goal.returns
unfolding counts_over
returns c =
    let v = c.args.p.now in
    ap (λ (b : Bool). ltb 40 v.num_outputs || ltb 40 v.num_real || ltb 40 v.num_pairs || ltb 40 v.num_slots || ltb 80 v.num_tris || ltb 14 v.num_imag || b) c.over.ensures
