use Rattle.std.proofs.Common.{◌≡◌, ◌<◌, List, map, length, take, refl, sym, ap, ◌∙◌, arith, length-take-le}
use Rattle.std.proofs.lemmas.List.{take_more, take_all}
use lib.ListN.{length-map}
use Rattle.lists.specs.Lists.{filled}
use Rattle.lists.proofs.Collect.{map_snoc}
use Rattle.lists.proofs.Filled.{set_filled_at}
use Rattle.vector.specs.declared.Speaker.{Speaker}
use Rattle.vector.specs.Speakers.{slots_of}
use Rattle.layout_new.proofs.active.ActiveSpeakers.slots.Goals as goal

pub loop-i-init : goal.loop-i-init
unfolding filled
loop-i-init c = refl

pub loop-i-preserved : goal.loop-i-preserved
loop-i-preserved c =
    let l = c.used-s-items.result.now in
    let i = c.loop-i.i in
    let h : i < length l = c.loop-i-test.true in
    let passed = map (λ (s : Speaker). s.slot) (take i l) in
    let long : length passed ≡ i = length-map (take i l) (λ s. s.slot) ∙ length-take-le i l (omega (arith, h)) in
    set_filled_at 40 0 passed _ (omega (arith, long, h, c.used-s-items.ensures.few)) c.loop-i.invariant (sym long)
    ∙ ap (filled 40 0) (sym (ap (map (λ s. s.slot)) (take_more l i _ h) ∙ map_snoc (λ s. s.slot) (take i l) _))

pub returns : goal.returns
unfolding slots_of
returns c =
    c.loop-i.invariant ∙ ap (λ (l : List Speaker). filled 40 0 (slots_of l)) (take_all c.loop-i.i c.used-s-items.result.now c.loop-i-test.false ∙ c.used-s-items.ensures.are)
