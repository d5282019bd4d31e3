-- `layout_new::direction` meets its contract: an LFE slot has no speaker, any other what `unit` makes of its position. Assumes nothing.
use Rattle.std.proofs.Common.{◌≡◌, true, false, eqb, sym, ap, ◌∙◌}
use Rattle.lists.specs.Lists.{member}
use Rattle.lists.proofs.Tests.{any_is}
use Rattle.vector.specs.Vector.{unit_of}
use Rattle.layout_new.specs.Layout.{in_slot}
use Rattle.layout_new.proofs.Speakers.{lfe_none, not_lfe}
use Rattle.layout_new.proofs.direction.Goals as goal

pub returns-then-contains : goal.returns-then-contains
returns-then-contains c =
    let a = c.args in
    let e : member a.i a.lfe.now ≡ true = sym (any_is (λ q. eqb q a.i) a.lfe.now) ∙ sym c.contains.ensures.value ∙ c.if-contains.true in
    sym (lfe_none a.positions.now a.lfe.now a.i e)

pub returns : goal.returns
returns c =
    let a = c.args in
    let e : member a.i a.lfe.now ≡ false = sym (any_is (λ q. eqb q a.i) a.lfe.now) ∙ sym c.contains.ensures.value ∙ c.if-contains.false in
    ap (in_slot a.i) (c.unit.ensures ∙ ap unit_of c.point.ensures.part) ∙ sym (not_lfe a.positions.now a.lfe.now a.i e)
