use Prim.Native.Nat.{◌+◌, ◌*◌}
use mathlib.Core.Path.{◌≡◌, sym, ◌∙◌}
use native.Mathlib.Omega.{arith}
use Rattle.mix_ramp.specs.Inner.Turns.{ramp_turn}
use Rattle.mix_ramp.proofs.Counts.{first_counts, counts_onward}
use Rattle.mix_ramp.proofs.Turns.{turns_none, turns_after, eight_turns}
use Rattle.mix_ramp.proofs.by_eights.Goals as goal

pub loop-k-init : goal.loop-k-init
loop-k-init c =
    let s = c.args in
    (first_counts, sym (turns_none (ramp_turn s.src.now s.ramp.g0 s.ramp.step) s.dst.now))

pub loop-k-preserved : goal.loop-k-preserved
loop-k-preserved c =
    let s = c.args in
    let i = c.loop-k.k * 8 in
    let e : i + 8 ≡ (c.loop-k.k + 1) * 8 = omega arith in (
      rw (← e) (c.onward-next.ensures ∙ counts_onward i (omega arith) c.loop-k.invariant.0),
      rw (← e)
          (c.store.ensures
          ∙ eight_turns s.src.now c.loop-k.dst s.ramp.g0 s.ramp.step i c.load-s.ensures c.load-d.ensures c.loop-k.invariant.0 c.mixed.ensures
          ∙ turns_after (ramp_turn s.src.now s.ramp.g0 s.ramp.step) s.dst.now i (i + 8) (omega arith) c.loop-k.invariant.1),
    )
