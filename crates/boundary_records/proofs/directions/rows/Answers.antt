use mathlib.Core.Path.{sym, ◌∙◌}
use native.Mathlib.Omega.{arith}
use Rattle.std.proofs.lemmas.Slice.Zip.{either_empty_from_Zip}
use Rattle.boundary_records.proofs.Rows.{rows_full, rows_more, rows_end}
use Rattle.boundary_records.proofs.directions.rows.Goals as goal

pub returns-then-out-from : goal.returns-then-out-from
returns-then-out-from c =
    let s = c.args in
    sym (rows_full s.p.now s.width c.loop-a.out c.loop-a.from c.in-Some.ensures.steps c.if-out-from.true) ∙ c.loop-a.invariant.3

pub loop-a-preserved : goal.loop-a-preserved
loop-a-preserved c =
    let s = c.args in (
      (tt, tt),
      tt,
      omega arith,
      rows_more s.p.now s.width c.loop-a.out c.loop-a.from c.in-Some.ensures.steps c.gains.new.out (omega arith) c.gains.ensures.out_after c.gains.auto.out ∙ c.loop-a.invariant.3,
    )

pub returns : goal.returns
returns c =
    let s = c.args in
    sym (rows_end s.p.now s.width _ _ c.loop-a.out c.loop-a.from (either_empty_from_Zip c.loop-a.a-iterator c.next.new.self _ c.in-None.is c.next.ensures.steps)) ∙ c.loop-a.invariant.3
