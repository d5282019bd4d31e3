use Prim.Native.Nat.{ℕ, ◌+◌, ◌-◌, ◌*◌, ◌≤◌, ◌<◌}
use mathlib.Core.Path.{◌≡◌, sym, ap, ◌∙◌}
use mathlib.Core.Bool.{false}
use mathlib.Core.List.{List, flat_map}
use borrow.Rule.Slice.PartMut.{same_len_mid}
use lib.ListN.{length, get_or}
use lib.Ieee.{Float, nan}
use Rattle.lists.specs.Lists.{range}
use Rattle.mix_block.specs.Limits.{most_sources, row_places}
use Rattle.session_history.specs.History.{depth}
use Rattle.session_calls.specs.Session.{malformed_session, target, new_start}
use Rattle.session_calls.specs.declared.Session.{Session}
use Rattle.session_calls.proofs.Refusals.{formed, none_at}
use Rattle.session_render.proofs.Numbers.{outputs_low}
use Rattle.session_render.proofs.Rows.{renewed_none, part_long, row_made, rows_made, below_more, get_d_new}
use native.Mathlib.Nat.{not-suc-le-zero}
use native.Mathlib.Omega.{arith}
use Rattle.session_render.proofs.new_starts.Goals as goal
use Rattle.session_render.proofs.new_starts.Goals.{In-loop-i, Start, After-loop-i}

record Low (s : Session) (i : ℕ) : Type 0 where
  source : i < most_sources
  outputs : s.panner.num_outputs ≤ row_places
  few : get_or s.counts i 0 ≤ depth

low_at : (s : Session) (i : ℕ) → malformed_session s ≡ false → i < s.sources → Low s i
low_at s i m h =
    let f = formed s m in
    record {
      source = omega (arith, f.few, h);
      outputs = outputs_low s m;
      few = none_at depth s.counts i f.counts;
    }

low : (c : In-loop-i) → Low c.args.s.now c.loop-i.i
low c = low_at c.args.s.now c.loop-i.i c.requires c.loop-i-test.true

whole : (c : Start) → length c.args.s.now.starts ≡ most_sources * row_places
whole c = omega arith

pub loop-i-init : goal.loop-i-init
loop-i-init c =
    (whole (goal.at.loop-i-init c).Start, renewed_none row_places _ (new_start c.args.s.now), λ j h. absurd (not-suc-le-zero h))

pub slice_bounds-next-end : goal.slice_bounds-next-end
slice_bounds-next-end c =
    let l = low (goal.at.slice_bounds-next-end c).In-loop-i in
    omega (arith, l.source, l.outputs, c.loop-i.invariant.0)

pub target-requires : goal.target-requires
target-requires c =
    let l = low (goal.at.target-requires c).In-loop-i in
    (c.requires, l.source, part_long c.loop-i.next (c.loop-i.i * row_places) c.args.s.now.panner.num_outputs (omega (arith, l.source, l.outputs, c.loop-i.invariant.0)))

pub loop-i-preserved : goal.loop-i-preserved
loop-i-preserved c =
    let s = c.args.s.now in
    let i = c.loop-i.i in
    let l = low (goal.at.loop-i-preserved c).In-loop-i in
    let is : c.target.new.row ≡ target s i = c.target.ensures in
    let long = c.target.auto.row ∙ part_long c.loop-i.next (i * row_places) s.panner.num_outputs (omega (arith, l.source, l.outputs, c.loop-i.invariant.0)) in (
      same_len_mid (i * row_places) (i * row_places + s.panner.num_outputs - i * row_places) c.loop-i.next c.target.new.row c.target.auto.row ∙ c.loop-i.invariant.0,
      row_made s (whole (goal.at.loop-i-preserved c).Start) i c.target.new.row l.outputs l.source c.loop-i-test.true is long c.loop-i.invariant.1,
      below_more i c.loop-i.invariant.2 (ap length (sym is) ∙ long),
    )

made : (c : After-loop-i) → c.loop-i.next ≡ flat_map (new_start c.args.s.now) (range most_sources)
made c =
    let few = (formed c.args.s.now c.requires).few in
    rows_made c.args.s.now (whole (goal.at.returns-clause-made c).Start) c.loop-i.i c.loop-i-test.false (omega arith) c.loop-i.invariant.1

pub returns-clause-made : goal.returns-clause-made
returns-clause-made c = made c

pub returns-clause-gains : goal.returns-clause-gains
returns-clause-gains c = λ i o g h.
    let s = c.args.s.now in
    let few = (formed s c.requires).few in
    ap (λ (l : List Float). get_or l (i * row_places + o) nan) (made c)
    ∙ get_d_new s (outputs_low s c.requires) (whole (goal.at.returns-clause-gains c).Start) (λ j k. c.loop-i.invariant.2 j (omega arith)) i o (omega arith) g h
