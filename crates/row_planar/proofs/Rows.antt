-- Laws of the spread: a slot's gain, and all slots. Assumes nothing.
use Rattle.std.proofs.Common.{◌≡◌, ℕ, Bool, true, false, ◌&&◌, not, eqb, List, length, get_or, set, sym, ap, ◌∙◌}
use mathlib.Core.List.{foldl}
use lib.Ieee.{Float, nan, binary32, div, lt}
use Rattle.lists.specs.Lists.{is_empty}
use Rattle.lists.proofs.Tests.{empty_length}
use Rattle.float_order.specs.Values.{+0, count32}
use Rattle.row_planar.specs.PlanarRow.{spread_gain, spread_at, spread}

pub spread_by : (row : List Float) (i : ℕ) (w d2 : Float) {v : Float} → v ≡ spread_gain w d2 (get_or row i nan) → set row i v ≡ spread_at w d2 row i
unfolding spread_at
spread_by row i w d2 e = ap (set row i) e

-- whether there is something to spread, and a slot
module _ (w : Float) (slots : List ℕ) (row : List Float) {none : Bool} (is : none ≡ eqb (length slots) 0) where
  told : (lt +0 w && not (is_empty slots)) ≡ (lt +0 w && not none)
  told = ap (λ (b : Bool). lt +0 w && not b) (empty_length slots ∙ sym is)

  pub spread_each : {count : Float} → count ≡ count32 (length slots) → lt +0 w && not none ≡ true → foldl (spread_at w (div binary32 w count)) row slots ≡ spread w slots row
  unfolding spread
  spread_each e h = rw (told ∙ h, e)

  pub spread_not : lt +0 w && not none ≡ false → row ≡ spread w slots row
  unfolding spread
  spread_not h = rw (told ∙ h)
