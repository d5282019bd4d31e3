-- `layout_record::pairs_over` meets its contract: a pair passes where one of its two slots does. Assumes nothing.
use Rattle.std.proofs.Common.{◌≡◌, ◌||◌, leb, sym, ◌∙◌, rules}
use borrow.Author.Tests.{tests}
use mathlib.Core.List.{[], ◌∷◌}
use Rattle.std.proofs.lemmas.Iterator.{YieldsList-from_slice}
use Rattle.std.proofs.lemmas.Iterator.Search.{any_from_yields_List}
use Rattle.lists.specs.Lists.{any}
use Rattle.lists.proofs.Tests.{or_false, any_is, any_flat_map}
use Rattle.layout_planar.specs.declared.PlanarPair.{PlanarPair}
use Rattle.layout_record.proofs.pairs_over.Goals as goal

pub returns : goal.returns
unfolding any
returns c =
    let ps = c.args.pairs.now in
    let b = c.args.bound in
    let f = λ (p : PlanarPair). leb b p.a || leb b p.b in
    let e : any f ps ≡ any (λ p. any (λ x. leb b x) (p.a ∷ p.b ∷ [])) ps = simp or_false in
    any_from_yields_List f _ _ _ c.any.ensures.ran (YieldsList-from_slice ps cc) (λ x r q k. search (rules, tests))
    ∙ any_is f ps ∙ e ∙ sym (any_flat_map (λ x. leb b x) (λ p. p.a ∷ p.b ∷ []) ps)
