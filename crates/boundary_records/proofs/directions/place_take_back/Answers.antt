use mathlib.Core.Path.{refl, sym, ◌∙◌}
use Rattle.std.proofs.lemmas.Result.{err_from_is_err_and}
use Rattle.std.proofs.lemmas.Slice.Zip.{either_empty_from_Zip}
use Rattle.session_calls.proofs.Refusals.{refused}
use Rattle.boundary_records.proofs.Left.{place_refused, take_refused, both_accepted, none_left}
use Rattle.boundary_records.proofs.directions.place_take_back.Goals as goal

pub returns-in_err-place_on : goal.returns-in_err-place_on
returns-in_err-place_on c =
    let next = c.in-Some.ensures.steps in
    let p = err_from_is_err_and c.from_residual.result c.from_residual.ensures.1 in
    rw (p.1, p.2)
    (sym (place_refused c.loop-a.s c.args.source next _ c.in_err-place_on.ensures (refused _)) ∙ c.loop-a.invariant.2)

pub returns-in_err-take_back_on : goal.returns-in_err-take_back_on
returns-in_err-take_back_on c =
    let next = c.in-Some.ensures.steps in
    let p = err_from_is_err_and c.from_residual-in_err-take_back_on.result c.from_residual-in_err-take_back_on.ensures.1 in
    rw (p.1, p.2)
    (sym (take_refused c.loop-a.s c.args.source next _ c.in_ok-place_on.ensures _ c.in_err-take_back_on.ensures refl (refused _)) ∙ c.loop-a.invariant.2)

pub loop-a-preserved : goal.loop-a-preserved
loop-a-preserved c =
    let next = c.in-Some.ensures.steps in (
      (tt, tt),
      tt,
      sym (both_accepted c.loop-a.s c.args.source next _ c.in_ok-place_on.ensures _ c.in_ok-take_back_on.ensures refl refl) ∙ c.loop-a.invariant.2,
    )

pub returns : goal.returns
returns c =
    none_left c.loop-a.s c.args.source _ _ (either_empty_from_Zip c.loop-a.a-iterator c.next.new.self _ c.in-None.is c.next.ensures.steps) ∙ c.loop-a.invariant.2
