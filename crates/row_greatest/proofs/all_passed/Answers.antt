-- `row_greatest::all_passed` meets its contract: where the fold ends true, every test was. Assumes nothing.
use Rattle.std.proofs.Common.{ℕ, zero, suc, ◌≡◌, ◌<◌, Bool, true, ◌&&◌, length, get_or, List, [], ◌∷◌, sym, ◌∙◌, arith, rules}
use borrow.Author.Tests.{tests}
use lib.Ieee.{Float, nan}
use Rattle.std.specs.List.{fold}
use Rattle.std.proofs.lemmas.Iterator.{YieldsList-from_slice}
use Rattle.std.proofs.lemmas.Iterator.Consumers.{fold_from_yields_List}
use Rattle.lists.proofs.Tests.{and_left, and_right}
use Rattle.row_greatest.specs.Inner.Steps.{passed}
use Rattle.row_greatest.proofs.all_passed.Goals as goal

all_true : (g : Float) (b : Bool) (l : List Float) → fold (λ a x. a && passed g x) b l ≡ true → (b ≡ true) × ((j : ℕ) → j < length l → passed g (get_or l j nan) ≡ true)
all_true g b [] e = (e, λ j h. absurd (omega arith))
all_true g b (x ∷ l) e = let r = all_true g (b && passed g x) l e in (and_left b (passed g x) r.0, at r.0 r.1)
  where
    at : b && passed g x ≡ true → ((j : ℕ) → j < length l → passed g (get_or l j nan) ≡ true) → (j : ℕ) → j < suc (length l) → passed g (get_or (x ∷ l) j nan) ≡ true
    at h f zero k = and_right b (passed g x) h
    at h f (suc j) k = f j (omega arith)

pub returns : goal.returns
returns c e j _ h =
    let f = fold_from_yields_List _ (λ a x. a && passed c.args.g x) true c.fold.result c.fold.ensures.ran (YieldsList-from_slice c.args.l.now c.iter.ensures.rest) (λ a x b q k. search (rules, tests)) in
    (all_true c.args.g true c.args.l.now (sym f ∙ e)).1 j h
