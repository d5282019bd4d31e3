-- `session_render::render_on` meets its contract: a refusal leaves session and buffer, and else the new start rows and the mix are the definition's. Assumes nothing.
use mathlib.Core.Path.{refl, sym, ◌∙◌}
use Rattle.session_calls.proofs.Refusals.{formed, refused}
use Rattle.session_calls.proofs.Answers.{left_refused}
use Rattle.session_render.proofs.Numbers.{Admitted, admitted, outputs_low}
use Rattle.session_render.proofs.Mixing.{mix_same}
use Rattle.session_render.proofs.Answers.{buffer_refused, render_done, buffer_done}
use Rattle.session_render.proofs.render_on.Goals as goal
use Rattle.session_render.proofs.render_on.Goals.{In_ok-refusal}

passed : (c : In_ok-refusal)
    → let s = c.args in
    Admitted s.s.now s.block s.samples.now s.outputs.now
passed c = admitted _ _ _ _ (sym c.in_ok-refusal.ensures)

pub returns-in_err-refusal-clause-value : goal.returns-in_err-refusal-clause-value
returns-in_err-refusal-clause-value c = left_refused _ _ _ _ c.from_residual.ensures.1 c.in_err-refusal.ensures

pub returns-in_err-refusal-clause-outputs_after : goal.returns-in_err-refusal-clause-outputs_after
returns-in_err-refusal-clause-outputs_after c =
    let s = c.args in
    buffer_refused s.s.now s.block s.samples.now s.outputs.now c.in_err-refusal.ensures (refused _)

pub new_starts-to-requires : goal.new_starts-to-requires
new_starts-to-requires c = (passed (goal.at.new_starts-to-requires c).In_ok-refusal).formed

pub invariant_of-mixed : goal.invariant_of-mixed
invariant_of-mixed c =
    let p = passed (goal.at.invariant_of-mixed c).In_ok-refusal in
    record { row = outputs_low c.args.s.now p.formed; few = (formed c.args.s.now p.formed).few; sampled = p.sampled }

pub mix-requires : goal.mix-requires
mix-requires c = (passed (goal.at.mix-requires c).In_ok-refusal).lent

pub returns-clause-value : goal.returns-clause-value
returns-clause-value c =
    let s = c.args in
    render_done s.s.now s.block s.samples.now s.outputs.now c.in_ok-refusal.ensures refl c.new_starts-to.ensures.made refl

pub returns-clause-outputs_after : goal.returns-clause-outputs_after
returns-clause-outputs_after c =
    let s = c.args in
    c.mix.ensures
    ∙ mix_same s.s.now _ refl refl refl c.new_starts-to.ensures.gains s.outputs.now
    ∙ buffer_done s.s.now s.block s.samples.now s.outputs.now c.in_ok-refusal.ensures refl
