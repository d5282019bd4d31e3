-- The sum of coefficients, one step from the highest. Assumes nothing.
use Rattle.std.proofs.Common.{◌≡◌, List, [], ◌∷◌, ◌++◌, refl, ap}
use lib.Ieee.{Float, binary64, add, mul}
use Rattle.float_sine.specs.Series.{sum_of}

-- the two highest coefficients, as one
pub sum_step : (z c s : Float) (r : List Float) → sum_of z ((r ++ (c ∷ [])) ++ (s ∷ [])) ≡ sum_of z (r ++ (add binary64 c (mul binary64 z s) ∷ []))
unfolding sum_of
sum_step z c s [] = refl
sum_step z c s (a ∷ []) = refl
sum_step z c s (a ∷ (b ∷ r)) = ap (λ (x : Float). add binary64 a (mul binary64 z x)) (sum_step z c s (b ∷ r))
