-- `session_standing::keep_last` meets its contract: two numbers stored, and the part behind them filled. Assumes nothing.
use Prim.Native.Nat.{◌+◌, ◌-◌, ◌*◌}
use mathlib.Core.Path.{◌≡◌, ap, ◌∙◌}
use mathlib.Core.List.{List}
use native.Mathlib.Omega.{arith}
use borrow.Rule.Slice.PartMut.{put_mid}
use lib.Ieee.{Float, nan, of_bits}
use lib.ListN.{length, get_or, set, replicate}
use Rattle.std.proofs.Common.{rules}
use Rattle.float_order.specs.Values.{+0}
use Rattle.mix_block.specs.Limits.{most_sources}
use Rattle.session_history.specs.History.{depth}
use Rattle.session_standing.proofs.Stores.{part_two}
use Rattle.session_standing.proofs.keep_last.Goals as goal

pub returns : goal.returns
unfolding of_bits
returns c =
    let a = c.args in
    let long : length a.standing.now ≡ most_sources * (depth * 2) = omega arith in
    let filled : c.fill.new.self ≡ replicate (depth * 2 - 2) +0 = search rules in
    let r = set (set a.standing.now a.first (get_or a.standing.now a.last nan)) (a.first + 1) (get_or a.standing.now (a.last + 1) nan) in
    ap (λ (x : List Float). put_mid (a.first + 2) (a.first + depth * 2 - (a.first + 2)) r x) filled
    ∙ part_two a.standing.now a.first (a.first + depth * 2) a.last nan (replicate (depth * 2 - 2) +0) (omega arith) (omega arith) (omega arith)
