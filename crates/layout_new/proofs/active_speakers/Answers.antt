use Rattle.std.proofs.Common.{◌≡◌, ℕ, ◌/◌, length, sym, ap, ◌∙◌, arith}
use mathlib.Core.Option.{Option}
use mathlib.Core.List.{List, [], ◌∷◌, ◌++◌, append-nil}
use Rattle.lists.specs.Lists.{from, range, collect, joined}
use Rattle.vector.specs.declared.Speaker.{Speaker}
use Rattle.lists.proofs.Collect.{length_collect}
use Rattle.lists.proofs.Ranges.{length_range}
use Rattle.layout_new.specs.Layout.{speaker_at, outputs_of, active}
use Rattle.layout_new.proofs.Speakers.{collect_range}
use Rattle.layout_new.proofs.active_speakers.Goals as goal
use Rattle.layout_new.proofs.active_speakers.Goals.{in-Some, in_default}

pub loop-i-init : goal.loop-i-init
unfolding range from collect
loop-i-init c = c.none-found.ensures

pub overflow_cast-i : goal.overflow_cast-i
unfolding outputs_of
overflow_cast-i c = omega arith

pub push-requires : goal.push-requires
unfolding outputs_of
push-requires c =
    let f = speaker_at c.args.positions.now c.args.lfe.now in
    (omega (arith, ap length c.loop-i.invariant, length_collect f (range c.loop-i.i), length_range c.loop-i.i), omega arith)

pub loop-i-preserved : goal.loop-i-preserved
loop-i-preserved c =
    let f = speaker_at c.args.positions.now c.args.lfe.now in
    let grown = λ (o : Option Speaker). collect f (range c.loop-i.i) ++ joined o [] in
    elim c.match-direction.branch [
      | in-Some w ↦
          w.found-is ∙ w.push.ensures ∙ ap (λ (l : List Speaker). l ++ record { slot = c.loop-i.i; dir = w.in-Some.u } ∷ []) c.loop-i.invariant
          ∙ ap grown w.in-Some.ensures ∙ sym (collect_range f c.loop-i.i)
      | in_default w ↦
          w.found-is ∙ c.loop-i.invariant ∙ sym (append-nil (collect f (range c.loop-i.i)))
          ∙ ap grown w.in_default.ensures ∙ sym (collect_range f c.loop-i.i)
    ]

pub returns : goal.returns
unfolding active outputs_of
returns c =
    let a = c.args in
    let e : c.loop-i.i ≡ length a.positions.now / 3 = omega arith in
    c.loop-i.invariant ∙ ap (λ (k : ℕ). collect (speaker_at a.positions.now a.lfe.now) (range k)) e
