-- `session_open::open` meets its contract: 1 and 2 of the layout first, then 3, then 4. Assumes nothing.
use mathlib.Core.Path.{◌≡◌, refl, sym, ap, ◌∙◌}
use mathlib.Core.Bool.{false}
use Rattle.std.proofs.Common.{rules, Result}
use Rattle.refusals.specs.declared.Refusal.{Refusal}
use Rattle.layout_new.specs.declared.NewPanner.{NewPanner}
use Rattle.layout_new.specs.Layout.{new_answer}
use Rattle.session_calls.specs.declared.Session.{Session}
use Rattle.session_open.specs.Open.{early}
use Rattle.session_open.proofs.Opening.{counted_is, uncounted_is, not_both, opened_first, opened_uncounted, opened_refused, opened_done}
use Rattle.session_open.proofs.open.Goals as goal
use Rattle.session_open.proofs.open.Goals.{in_default-via-in-Err+else-refused_first, in_default-via-in-Ok}

-- what stands in the way of 3 and of what comes after it: neither 1 nor 2
late : {r s : Result NewPanner Refusal} → r ≡ s → early (new_answer s).number ≡ false → early (new_answer r).number ≡ false
late e l = ap (λ (x : Result NewPanner Refusal). early (new_answer x).number) e ∙ l

pub returns-in-Err : goal.returns-in-Err
returns-in-Err c = opened_first _ _ _ _ c.new-made.ensures c.in-Err.is (sym c.refused_first.ensures ∙ c.if-refused_first.true)

pub returns-in_default : goal.returns-in_default
returns-in_default c =
    let d = uncounted_is c.args.sources (search rules) in
    elim c.in_default.branch [
      | in_default-via-in-Err+else-refused_first w ↦ opened_uncounted _ _ _ _ c.new-made.ensures (late w.in-Err.is (sym w.refused_first.ensures ∙ w.if-refused_first.false)) d
      | in_default-via-in-Ok w ↦ opened_uncounted _ _ _ _ c.new-made.ensures (late w.in_default.is refl) d
    ]

pub returns-in-Err-2 : goal.returns-in-Err-2
returns-in-Err-2 c =
    let d = counted_is c.args.sources (search rules) (search rules) in
    elim c.in_default.branch [
      | in_default-via-in-Err+else-refused_first w ↦
          opened_refused _ _ _ _ c.new-made.ensures (w.in-Err.is ∙ sym w.made-is ∙ c.in-Err-2.is) (late w.in-Err.is (sym w.refused_first.ensures ∙ w.if-refused_first.false)) d
      | in_default-via-in-Ok w ↦ absurd (not_both (sym c.in-Err-2.is ∙ w.made-is ∙ w.in_default.is))
    ]

pub returns-in-Ok : goal.returns-in-Ok
returns-in-Ok c =
    let d = counted_is c.args.sources (search rules) (search rules) in
    ap (λ (s : Session). record { number = 0; imaginary = c.in-Ok.made.imaginary; session = s }) c.fresh.ensures
    ∙ elim c.in_default.branch [
      | in_default-via-in-Err+else-refused_first w ↦ absurd (not_both (sym w.made-is ∙ c.in-Ok.is))
      | in_default-via-in-Ok w ↦ opened_done _ _ _ _ c.new-made.ensures (sym w.made-is ∙ c.in-Ok.is) d
    ]
