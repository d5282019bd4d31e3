-- `layout_new::build_hull` meets its contract: refused where `close` says that a list was too long; else the hull's parts, each as the definition has it. Assumes nothing.
use Rattle.std.proofs.Common.{List, map, sym, ap, ◌∙◌, arith, length-take-le}
use mathlib.Core.List.{flat_map}
use Rattle.lists.specs.Lists.{filled}
use Rattle.float_order.specs.Values.{+0}
use Rattle.float_widths.specs.Narrow.{narrow_of}
use Rattle.vector.specs.declared.Speaker.{Speaker}
use Rattle.vector.specs.Speakers.{slots_of, dirs_of}
use Rattle.vector.proofs.Speakers.{slots_count}
use Rattle.layout_new.specs.Layout.{build_hull_of}
use Rattle.layout_new.specs.Inner.Answers.{refused_by, hull_built_of}
use Rattle.layout_new.proofs.Building.{Made, over_is, made, imag_few, numbers_long, numbers_lent, slots_lent, numbered, num_nbrs_are, imag_nbrs_are, imag_length, hull_refused, hull_accepted}
use Rattle.layout_new.proofs.Laid.{laid_hull}
use Rattle.layout_new.proofs.build_hull.Goals as goal
use Rattle.layout_new.proofs.build_hull.Goals.{Else-ended}

-- what `close` made where no list was too long
made-here : (c : Else-ended) → Made c.used-used.result.now c.close-ended.result
made-here c = made _ c.close-ended.result c.close-ended.ensures c.if-ended.false

pub returns-then-ended : goal.returns-then-ended
unfolding refused_by
returns-then-ended c =
    hull_refused c.args.outputs _ (sym (over_is _ c.close-ended.result c.close-ended.ensures) ∙ c.if-ended.true) ∙ ap (hull_built_of c.args.outputs) c.used-used.ensures.are

pub overflow_mul-idx : goal.overflow_mul-idx
overflow_mul-idx c = omega (arith, (numbers_long _ _ (made-here (goal.at.overflow_mul-idx c).Else-ended)).0)

pub slice_bounds-idx-end : goal.slice_bounds-idx-end
slice_bounds-idx-end c = let l = numbers_long _ _ (made-here (goal.at.slice_bounds-idx-end c).Else-ended) in omega (arith, l.0, l.1)

pub slice_bounds-neighbours-end : goal.slice_bounds-neighbours-end
slice_bounds-neighbours-end c = let l = numbers_long _ _ (made-here (goal.at.slice_bounds-neighbours-end c).Else-ended) in sym (length-take-le _ _ (omega (arith, l.0, l.1)))

pub neighbours-nbrs-requires : goal.neighbours-nbrs-requires
neighbours-nbrs-requires c =
    let m = made-here (goal.at.neighbours-nbrs-requires c).Else-ended in
    let slots = c.slots-pt_out.ensures ∙ ap (λ (l : List Speaker). filled 40 0 (slots_of l)) (sym c.used-used.ensures.are) in
    rw (numbers_lent _ _ m, slots_lent _ _ m slots) (numbered _ _ m c.used-used.ensures.few c.used-used.ensures.low)

pub overflow_cast-result-2 : goal.overflow_cast-result-2
overflow_cast-result-2 c = let m = made-here (goal.at.overflow_cast-result-2 c).Else-ended in omega (arith, m.few, m.count)

pub overflow_cast-result-3 : goal.overflow_cast-result-3
overflow_cast-result-3 c = omega (arith, imag_few _ _ (made-here (goal.at.overflow_cast-result-3 c).Else-ended))

pub returns : goal.returns
unfolding build_hull_of
returns c =
    let act = c.used-used.result.now in
    let m = made-here (goal.at.returns c).Else-ended in
    let back = sym c.used-used.ensures.are in
    let slots = c.slots-pt_out.ensures ∙ ap (λ (l : List Speaker). filled 40 0 (slots_of l)) back in
    let nbrs = rw (numbers_lent _ _ m, slots_lent _ _ m slots) at c.neighbours-nbrs.ensures in
    let imag = imag_length _ _ m in
    hull_accepted c.args.outputs act m.fits
    (laid_hull c.args.outputs (build_hull_of act) c.no_pairs-pairs.ensures (sym (slots_count act)) slots
    (c.narrowed-pt_dir.ensures ∙ ap (λ (l : List Speaker). filled 120 +0 (flat_map (λ d. d) (map (map narrow_of) (dirs_of l)))) back) m.count m.idx m.inv imag
    (num_nbrs_are _ _ m _ nbrs) (imag_nbrs_are _ _ m _ nbrs))
    imag
    ∙ ap (hull_built_of c.args.outputs) c.used-used.ensures.are
