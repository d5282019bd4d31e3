-- `mix_ramp::ramp_add` meets its contract: equal gains are `steady_taken`; else the turns of `by_eights`, then those of `one_by_one`, are all turns, `ramp_taken`. Assumes nothing.
use mathlib.Core.Path.{◌∙◌, ap}
use Prim.Native.Nat.{ℕ}
use mathlib.Core.List.{List, ◌++◌, foldl}
use lib.Ieee.{Float, binary32, sub, div}
use lib.ListN.{length, take, drop}
use Rattle.float_order.specs.Values.{count32}
use Rattle.lists.specs.Lists.{between}
use Rattle.mix_ramp.specs.Inner.Turns.{ramp_turn}
use Rattle.mix_ramp.proofs.Turns.{turns_after, steady_taken, ramp_taken}
use Rattle.mix_ramp.proofs.ramp_add.Goals as goal

pub returns-then-g0-g1 : goal.returns-then-g0-g1
returns-then-g0-g1 c =
    let s = c.args in
    let n = c.min-n.result in
    ap (λ (l : List Float). l ++ drop n s.dst.now) c.steady.ensures
    ∙ steady_taken s.src.now s.dst.now s.g0 s.g1 n c.min-n.ensures c.if-g0-g1.true

pub returns : goal.returns
returns c =
    let s = c.args in
    let n = c.min-n.result in
    let turn = ramp_turn (take n s.src.now) s.g0 (div binary32 (sub binary32 s.g1 s.g0) c.f32_from_u64.result) in
    let first = c.by_eights-done in
    ap (λ (l : List Float). l ++ drop n s.dst.now)
    (c.one_by_one.ensures
    ∙ ap (λ (k : ℕ). foldl turn first.new.dst (between first.result k)) first.auto.dst
    ∙ turns_after turn (take n s.dst.now) first.result (length (take n s.dst.now)) first.ensures.within first.ensures.mixed)
    ∙ ramp_taken s.src.now s.dst.now s.g0 s.g1 n c.min-n.ensures (c.f32_from_u64.ensures ∙ ap count32 c.max.ensures) c.if-g0-g1.false
