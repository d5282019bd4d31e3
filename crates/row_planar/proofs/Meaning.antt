-- What the definitions mean: each by the list of pairs, or by computation. Assumes nothing.
use Rattle.std.proofs.Common.{◌≡◌, ℕ, zero, suc, ◌<◌, Bool, true, false, List, [], ◌∷◌, length, get_or, refl, ◌∙◌, not-suc-le-zero, arith}
use Rattle.lists.specs.Lists.{first_that, last}
use Rattle.layout_planar.specs.Planar.{no_pair}
use Rattle.row_planar.specs.PlanarRow.{contains, chosen, by_inverse}
use Rattle.row_planar.specs.Meaning.{ChosenFirst, ChosenLast, InverseGains}
use Rattle.lists.proofs.Ends.{last_at}

module _ {A : Type 0} (f : A → Bool) (d : A) where
  first_is : (l : List A) (r : A) (i : ℕ) → i < length l → f (get_or l i d) ≡ true → ((j : ℕ) → j < i → f (get_or l j d) ≡ false) → first_that f l r ≡ get_or l i d
  unfolding first_that
  first_is [] r i h hit miss = absurd (not-suc-le-zero h)
  first_is (a ∷ l) r zero h hit miss = rw hit
  first_is (a ∷ l) r (suc i) h hit miss = rw (miss zero (omega arith)) (first_is l r i (omega arith) hit (λ j g. miss (suc j) (omega arith)))

  first_none : (l : List A) (r : A) → ((j : ℕ) → j < length l → f (get_or l j d) ≡ false) → first_that f l r ≡ r
  unfolding first_that
  first_none [] r miss = refl
  first_none (a ∷ l) r miss = rw (miss zero (omega arith)) (first_none l r (λ j g. miss (suc j) (omega arith)))

pub chosen_first : ChosenFirst
unfolding chosen
chosen_first az pairs i h hit miss = first_is (contains az) no_pair pairs (last pairs no_pair) i h hit miss

pub chosen_last : ChosenLast
unfolding chosen
chosen_last az pairs h miss = first_none (contains az) no_pair pairs (last pairs no_pair) miss ∙ last_at pairs no_pair no_pair h

pub inverse_gains : InverseGains
unfolding by_inverse
inverse_gains az m0 m1 m2 m3 = (refl, refl)
