-- Numbers passed one after the other. Each goes by the places. Assumes nothing.
use Prim.Native.Nat.{ℕ, ◌+◌, ◌≤◌}
use mathlib.Core.Path.{◌≡◌, refl}
use mathlib.Core.Bool.{Bool, true, false}
use mathlib.Core.List.{List}
use native.Mathlib.Omega.{arith}
use borrow.Author.Count.{below_more}
use borrow.Author.Tests.{ltb-true, ltb-false}
use lib.Dec.{ltb}
use lib.ListN.{get_or}
use lib.Ieee.{Float, nan}
use Rattle.row_greatest.specs.Inner.Steps.{passed, AllPassed}

module _ (g : Float) (l : List Float) (a b : ℕ) where
  pub passed_none : b ≤ a → AllPassed g l a b
  passed_none e j h k = absurd (omega arith)

  pub passed_more : AllPassed g l a b → passed g (get_or l b nan) ≡ true → AllPassed g l a (b + 1)
  passed_more p q j h k = below_more (λ j. a ≤ j → passed g (get_or l j nan) ≡ true) b (λ j k h. p j h k) (λ h. q) j k h

  pub passed_join : (c : ℕ) → AllPassed g l a b → AllPassed g l b c → AllPassed g l a c
  passed_join c p q j h k = by (ltb j b) refl
    where
      by : (d : Bool) → ltb j b ≡ d → passed g (get_or l j nan) ≡ true
      by true e = p j h (ltb-true j b e)
      by false e = q j (ltb-false j b e) k
