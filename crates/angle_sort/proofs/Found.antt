-- std's `position` beside the definitions' own: an index where one passes, and the length where none does. Assumes nothing.
use Rattle.std.proofs.Common.{◌≡◌, ℕ, suc, ◌+◌, ◌≤◌, Bool, true, false, cond, List, length, refl, sym, arith, nat_lt, Some, None}
use Rattle.std.specs.List.{position, position_or_len}
use Rattle.std.specs.Option.{unwrap_or}
use Rattle.std.proofs.lemmas.List.Recursion.{is_position_or_len}
use Rattle.std.proofs.lemmas.Bool.Decides.{nat_tests}
use Rattle.lists.specs.Lists.{position as before}
use Rattle.lists.proofs.Search.{position_le}

module _ {A : Type 0} (f : A → Bool) where
  before_or_len : (l : List A) → before f l ≡ position_or_len f l
  unfolding before
  before_or_len l = is_position_or_len (before f) f refl (λ x xs. by (f x) (before f xs)) l
    where
      by : (b : Bool) (n : ℕ) → cond b 0 (suc n) ≡ cond b 0 (1 + n)
      by true n = refl
      by false n = omega arith

  -- where none passes, all stand before
  pub found_or_all : (l : List A) → unwrap_or (position f l) (length l) ≡ before f l
  found_or_all l = rw (sym (before_or_len l)) (by (nat_lt (before f l) (length l)) refl)
    where
      by : (b : Bool) → nat_lt (before f l) (length l) ≡ b → unwrap_or (cond b (Some (before f l)) None) (length l) ≡ before f l
      by true e = refl
      by false e = let h : before f l ≤ length l = position_le f l in grind (arith, nat_tests)
