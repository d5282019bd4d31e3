-- `session_render::target` meets its contract: `gains` on as many places as there are outputs leaves the row. Assumes nothing.
use Prim.Native.Nat.{ℕ, ◌≤◌}
use mathlib.Core.Path.{ap, ◌∙◌}
use native.Mathlib.Omega.{arith}
use lib.ListN.{get_or, replicate}
use Rattle.float_order.specs.Values.{+0}
use Rattle.session_history.specs.History.{depth}
use Rattle.session_calls.proofs.Refusals.{formed, none_at}
use Rattle.session_render.proofs.Rows.{whole_row, target_none, target_last}
use Rattle.session_render.proofs.target.Goals as goal
use Rattle.session_render.proofs.target.Goals.{Start}

few : (c : Start) → get_or c.args.s.now.counts c.args.i 0 ≤ depth
few c = none_at depth _ c.args.i (formed _ c.requires.0).counts

pub bounds-s-last : goal.bounds-s-last
bounds-s-last c = omega (arith, few (goal.at.bounds-s-last c).Start, c.requires.1, c.in-Some.ensures)

pub bounds-s-last-in-Some : goal.bounds-s-last-in-Some
bounds-s-last-in-Some c = omega (arith, few (goal.at.bounds-s-last-in-Some c).Start, c.requires.1, c.in-Some.ensures)

pub returns-in-None : goal.returns-in-None
returns-in-None c =
    c.zero.ensures ∙ ap (λ (k : ℕ). replicate k +0) c.requires.2 ∙ target_none c.args.s.now c.args.i (omega (arith, c.in-None.ensures))

pub returns-in-Some : goal.returns-in-Some
returns-in-Some c =
    c.gains.ensures.out_after
    ∙ whole_row c.args.s.now.panner _ _ _ (formed _ c.requires.0).panner c.requires.2
    ∙ target_last c.args.s.now c.args.i c.in-Some.j (omega (arith, c.in-Some.ensures))
