-- `ActiveSpeakers::push` meets its contract: one speaker more, with a slot below 40. Assumes nothing.
use Rattle.std.proofs.Common.{◌<◌, length, take, refl, ap, ◌∙◌, arith, ltb, lt-ltb, length-take-le}
use Rattle.std.proofs.lemmas.List.{take_more_set}
use Rattle.lists.specs.Lists.{every}
use Rattle.lists.proofs.Tests.{every_snoc}
use Rattle.vector.specs.declared.Speaker.{Speaker}
use Rattle.layout_new.proofs.active.ActiveSpeakers.push.Goals as goal

pub invariant_of-self : goal.invariant_of-self
invariant_of-self c =
    let i = c.self.inside in
    let s = c.args.s in
    let low = λ (s : Speaker). ltb s.slot 40 in
    let few : i.count < 40 = omega (arith, ap length c.self.view_is, length-take-le i.count i.all (omega (arith, c.self.invariant.0))) in
    (omega (arith, few), ap (every low) (take_more_set i.all i.count s (omega (arith, few))) ∙ every_snoc low (take i.count i.all) s ∙ rw (c.self.invariant.1, lt-ltb s.slot 40 c.requires.1) refl)
