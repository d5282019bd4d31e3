-- The quarter of the turn by k mod 4. Assumes nothing.
use Rattle.std.specs.Prelude.{ℕ}
use Rattle.float_sine.specs.declared.Quarter.{Quarter}
use Rattle.float_sine.specs.declared.Quarter.TheVariants.{First, Second, Third, Fourth}

abbrev pub number_of : Quarter → ℕ
number_of First = 0
number_of Second = 1
number_of Third = 2
number_of Fourth = 3
