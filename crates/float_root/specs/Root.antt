-- Document 01, "Number work": the square root of IEEE 754-2019 (5.4.1): the value of the format that is nearest to the exact root, a tie to the even one. Over whole numbers. What it means is `SqrtNearest` of Meaning.antt. Assumes nothing.
use Prim.Native.Nat.{ℕ, zero, suc, ◌+◌, ◌-◌, ◌*◌, ◌/◌, ◌^◌, compare}
use Rattle.std.specs.Prelude.{true, false, cond, leb, Float}
use Rattle.std.specs.Float.{nan, inf, fin, Format}
use Rattle.std.specs.Float.Ieee.{prec, low, up, down, size, nearest, units}

-- ---- the whole part of the square root of n, by its digits to the base 4

-- r or r + 1: the larger one whose square is not above n
unfoldable pub grow : ℕ → ℕ → ℕ
grow n r = cond (leb (suc r * suc r) n) (suc r) r

unfoldable pub root_by : ℕ → ℕ → ℕ
unfolding grow
root_by zero n = zero
root_by (suc d) n = grow n (2 * root_by d (n / 4))

-- n has no more digits to the base 4 than to the base 2
unfoldable pub whole_root : ℕ → ℕ
unfolding root_by size
whole_root n = root_by (size n) n

-- ---- the root of n / 4 ^ low, rounded. In units of the format's smallest value, 2 ^ -low, it is the root of n.
-- Of the root's whole part the format keeps the `prec` leading digits, q, and drops k. The root is compared with (q + 1/2) * 2 ^ k by their squares, each times 4.
-- This is `round`'s own text, with the root of n in the place of the fraction n / den.
unfoldable pub round_root : Format → ℕ → Float
unfolding size units whole_root
round_root f n =
    let k = size (whole_root n) - prec f in
    let q = whole_root n / 2 ^ k in
    let h = (2 * q + 1) * 2 ^ k in
    units f false (nearest q (compare (n * 4) (h * h))) k

-- A NaN, and what is below zero, has no root: the result is a NaN, whose sign and payload are the program's; every choice is a NaN, the only one that the logic has. Each zero is its own root, with its sign. Every finite value of the format is a whole number of its smallest values, so x * 4 ^ low is whole.
unfoldable pub sqrt_of : Format → Float → Float
unfolding round_root
sqrt_of f nan = nan
sqrt_of f (inf true) = nan
sqrt_of f (inf false) = inf false
sqrt_of f (fin s zero e) = fin s zero e
sqrt_of f (fin true (suc m) e) = nan
sqrt_of f (fin false (suc m) e) = round_root f (suc m * up e * 4 ^ low f / down e)
