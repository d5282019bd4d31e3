-- Laws of lists without repetition whose numbers are among the n from a on: none, one more, and that there are at most n. Assumes nothing.
use Prim.Native.Nat.{ℕ, ◌+◌, ◌≤◌, ◌<◌}
use mathlib.Core.Path.{◌≡◌, sym, ◌∙◌}
use mathlib.Core.Logic.{⊎_elim}
use mathlib.Core.Bool.{false, false≢true}
use mathlib.Core.List.{List, [], ◌∷◌, ◌++◌}
use native.Mathlib.Omega.{arith}
use borrow.Author.Tests.{eqb-true}
use lib.Dec.{eqb}
use lib.ListN.{length}
use Rattle.lists.specs.Lists.{any, member}
use Rattle.lists.proofs.Tests.{either}
use Rattle.lists.proofs.Once.{not_member, member_snoc, once_snoc, pigeonhole}
use Rattle.layout_neighbours.specs.Inner.Search.{Among}

pub among_none : (a n : ℕ) → Among a n []
unfolding any
among_none a n = (tt, λ p e. absurd (false≢true e))

pub among_snoc : (a n : ℕ) (l : List ℕ) (x : ℕ) → Among a n l → member x l ≡ false → a ≤ x → x < a + n → Among a n (l ++ x ∷ [])
among_snoc a n l x m e h g = (
  once_snoc l x m.0 (not_member x l e),
  λ p f. ⊎_elim (m.1 p) (λ q. let r : x ≡ p = eqb-true x p q in (omega arith, omega arith)) (either (member p l) (eqb x p) (sym (member_snoc p l x) ∙ f)),
)

pub among_few : (n a : ℕ) (l : List ℕ) → Among a n l → length l ≤ n
among_few n a l m = pigeonhole n a l m.0 m.1
