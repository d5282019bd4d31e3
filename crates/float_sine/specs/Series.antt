-- Document 01, "Number work": the sums of the stand-ins, in 64 bits. Assumes nothing.
use Rattle.std.specs.Prelude.{ℕ, zero, suc, ◌*◌, ◌%◌, List, [], ◌∷◌, ◌==◌, Float}
use Rattle.std.specs.Float.{binary64}
use Rattle.std.specs.Float.Ieee.{round, add, mul}
use Rattle.float_order.specs.Values.{+0}

-- The coefficients (−1)^i ÷ n i, each its quotient rounded once, from i on, as many as the last argument says.
unfoldable pub coefficients : (ℕ → ℕ) → ℕ → ℕ → List Float
coefficients n i zero = []
coefficients n i (suc more) = round binary64 (i % 2 == 1) 1 (n i) ∷ coefficients n (suc i) more

-- The sum starts from the highest coefficient: sum ← coefficient + z·sum. The lowest stands first.
unfoldable pub sum_of : Float → List Float → Float
sum_of z [] = +0
sum_of z (c ∷ []) = c
sum_of z (c ∷ (d ∷ ds)) = add binary64 c (mul binary64 z (sum_of z (d ∷ ds)))

unfoldable pub factorial : ℕ → ℕ
factorial zero = 1
factorial (suc n) = suc n * factorial n
