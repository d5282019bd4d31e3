-- Document 01, "A row" (Planar); source lines 463 to 489: which pair carries an azimuth, and what its inverse gives. Each statement is proved in proofs/Meaning.antt: `ChosenFirst` by `chosen_first`, and so on. Assumes nothing.
use Rattle.std.specs.Prelude.{◌≡◌, ℕ, ◌-◌, ◌<◌, true, false, List, length, slice_index_or, Float}
use Rattle.std.specs.Float.{binary32}
use Rattle.std.specs.Float.Ieee.{add, neg, mul}
use Rattle.float_order.specs.Values.{+0}
use Rattle.float_order.specs.Order.{max_of}
use Rattle.float_sine.specs.Sine.{sin32_of, cos32_of}
use Rattle.layout_planar.specs.declared.PlanarPair.{PlanarPair}
use Rattle.layout_planar.specs.Planar.{no_pair}
use Rattle.row_planar.specs.PlanarRow.{contains, chosen, by_inverse}

abbrev pub pair_at : List PlanarPair → ℕ → PlanarPair
pair_at pairs i = slice_index_or pairs i no_pair

-- the pair at place i contains the azimuth, and none before it does: it is chosen
abbrev pub ChosenFirst : Type 0
ChosenFirst = (az : Float) (pairs : List PlanarPair) (i : ℕ) → i < length pairs → contains az (pair_at pairs i) ≡ true → ((j : ℕ) → j < i → contains az (pair_at pairs j) ≡ false) → chosen az pairs ≡ pair_at pairs i

-- no pair contains it: the last is chosen
abbrev pub ChosenLast : Type 0
ChosenLast = (az : Float) (pairs : List PlanarPair) → 0 < length pairs → ((j : ℕ) → j < length pairs → contains az (pair_at pairs j) ≡ false) → chosen az pairs ≡ pair_at pairs (length pairs - 1)

-- P's equation, g = p·L⁻¹: the direction (sin az, −cos az) times the inverse, each product and sum rounded once, what is below +0 raised to it
abbrev pub InverseGains : Type 0
InverseGains = (az m0 m1 m2 m3 : Float)
    → ((by_inverse az m0 m1 m2 m3).ga ≡ max_of (add binary32 (mul binary32 m0 (sin32_of az)) (mul binary32 m1 (neg (cos32_of az)))) +0)
    × ((by_inverse az m0 m1 m2 m3).gb ≡ max_of (add binary32 (mul binary32 m2 (sin32_of az)) (mul binary32 m3 (neg (cos32_of az)))) +0)
