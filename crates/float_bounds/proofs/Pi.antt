-- Pi, 2·pi and pi/2 in 64 bits, as whole numbers of the smallest value. Assumes nothing.
use mathlib.Core.Path.{refl}
use Prim.Native.Nat.{ℕ, ◌*◌, ◌^◌}
use mathlib.Core.Bool.{false}
use lib.Dec.{lit≤}
use lib.Ieee.{binary64, of_bits}
use Rattle.float_sine.specs.Pi.{PI64, two_pi, half_pi}
use Rattle.float_bounds.proofs.Units.{Val}
use Rattle.float_bounds.proofs.Held.{Held, held}

-- pi/2: 884279719003555 · 2 ^ -49
abbrev pub H : ℕ
H = 884279719003555 * 2 ^ 1025

pub half_val : Val binary64 half_pi false H
unfolding of_bits
half_val = record { has = (refl, refl) }

pub pi_val : Val binary64 PI64 false (2 * H)
unfolding of_bits
pi_val = record { has = (refl, refl) }

pub two_val : Val binary64 two_pi false (4 * H)
unfolding of_bits
two_val = record { has = (refl, refl) }

pub half_held : Held binary64 H
half_held = held binary64 884279719003555 1025 (lit≤ tt)

pub pi_held : Held binary64 (2 * H)
pi_held = held binary64 884279719003555 1026 (lit≤ tt)

pub two_held : Held binary64 (4 * H)
two_held = held binary64 884279719003555 1027 (lit≤ tt)
