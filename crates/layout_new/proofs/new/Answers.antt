-- `layout_new::new` meets its contract: refusals 1 and 2 by the length; the kind is told by how many speakers are active and whether all are level, as in the definition. Assumes nothing.
use Rattle.std.proofs.Common.{◌≡◌, ◌≤◌, List, [], length, get_or, sym, ap, ◌∙◌, arith}
use Rattle.lists.specs.Lists.{every}
use Rattle.vector.specs.declared.Speaker.{Speaker}
use Rattle.vector.specs.Speakers.{slots_of}
use Rattle.layout_planar.specs.Planar.{pairs_of}
use Rattle.layout_record.specs.Shape.{mono, planar}
use Rattle.layout_new.specs.Layout.{outputs_of, active, level}
use Rattle.layout_new.specs.Inner.Answers.{accepted, refused_by, hull_built_of}
use Rattle.layout_new.proofs.Answers.{new_uneven, new_many, new_silent, new_mono, new_level, new_hull}
use Rattle.layout_new.proofs.new.Goals as goal
use Rattle.layout_new.proofs.new.Goals.{After-used-used, Else-used-eq1}

pub returns-then-positions-ne0 : goal.returns-then-positions-ne0
unfolding refused_by
returns-then-positions-ne0 c = sym (new_uneven c.args.positions.now c.args.lfe.now c.if-positions-ne0.true)

pub returns-then-positions-gt-MOST_OUTPUTS : goal.returns-then-positions-gt-MOST_OUTPUTS
unfolding refused_by outputs_of
returns-then-positions-gt-MOST_OUTPUTS c = sym (new_many c.args.positions.now c.args.lfe.now c.if-positions-ne0.false c.if-positions-gt-MOST_OUTPUTS.true)

pub active_speakers-found-requires : goal.active_speakers-found-requires
unfolding outputs_of
active_speakers-found-requires c = omega arith

-- those that are used are the active ones
found : (c : After-used-used) → c.used-used.result.now ≡ active c.args.positions.now c.args.lfe.now
found c = c.used-used.ensures.are ∙ c.active_speakers-found.ensures

pub returns-then-used-eq0 : goal.returns-then-used-eq0
unfolding outputs_of
returns-then-used-eq0 c =
    let a = c.args in
    c.without_points.ensures
    ∙ new_silent a.positions.now a.lfe.now c.if-positions-ne0.false (omega arith) (ap length (sym (found (goal.at.returns-then-used-eq0 c).After-used-used)) ∙ c.if-used-eq0.true)

pub returns-then-used-eq1 : goal.returns-then-used-eq1
unfolding outputs_of
returns-then-used-eq1 c =
    let a = c.args in
    let v = found (goal.at.returns-then-used-eq1 c).After-used-used in
    c.without_points-then-used-eq1.ensures
    ∙ ap (λ (l : List Speaker). accepted (record { outputs = outputs_of a.positions.now; shape = mono (get_or l 0 (record { slot = 0; dir = [] })).slot })) v
    ∙ new_mono a.positions.now a.lfe.now c.if-positions-ne0.false (omega arith) (ap length (sym v) ∙ c.if-used-eq1.true)

-- two or more are active
two : (c : Else-used-eq1) → 2 ≤ length (active c.args.positions.now c.args.lfe.now)
two c = omega (arith, ap length (c.used-used.ensures.are ∙ c.active_speakers-found.ensures), c.if-used-eq0.false, c.if-used-eq1.false)

pub returns-then-all_level : goal.returns-then-all_level
unfolding outputs_of
returns-then-all_level c =
    let a = c.args in
    let n = outputs_of a.positions.now in
    let e = c.active_speakers-found.ensures in
    c.planar.ensures
    ∙ ap (λ (l : List Speaker). accepted (record { outputs = n; shape = planar (pairs_of l) (slots_of l) })) e
    ∙ new_level a.positions.now a.lfe.now c.if-positions-ne0.false (omega arith) (two (goal.at.returns-then-all_level c).Else-used-eq1)
    (ap (every level) (sym e) ∙ sym c.all_level.ensures ∙ c.if-all_level.true)

pub returns : goal.returns
unfolding outputs_of
returns c =
    let a = c.args in
    let e = c.active_speakers-found.ensures in
    c.build_hull.ensures ∙ ap (hull_built_of (outputs_of a.positions.now)) e
    ∙ new_hull a.positions.now a.lfe.now c.if-positions-ne0.false (omega arith) (two (goal.at.returns c).Else-used-eq1)
    (ap (every level) (sym e) ∙ sym c.all_level.ensures ∙ c.if-all_level.false)
