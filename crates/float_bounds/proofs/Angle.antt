-- rem_euclid by 2·pi, in 64 bits and in 32: from 0 to the rounded 2·pi, of any finite value. Assumes nothing.
use mathlib.Core.Path.{refl}
use Prim.Native.Nat.{ℕ, ◌*◌, ◌^◌}
use mathlib.Core.Bool.{false}
use lib.Dec.{lit≤, lit<}
use lib.Ieee.{Float, binary32, binary64, of_bits}
use Rattle.float_order.specs.Remainder.{rem_euclid_of}
use Rattle.float_sine.specs.Pi.{two_pi, tau32}
use Rattle.float_bounds.proofs.Units.{Val}
use Rattle.float_bounds.proofs.Held.{held}
use Rattle.float_bounds.proofs.Size.{Mag}
use Rattle.float_bounds.proofs.Compare.{FromZero}
use Rattle.float_bounds.proofs.Remainder.{rem_euclid}
use Rattle.float_bounds.proofs.Pi.{H, two_val, two_held}

pub rem_two_pi : {x : Float} {A : ℕ} → Mag binary64 x A → FromZero binary64 (rem_euclid_of binary64 x two_pi) (4 * H)
rem_two_pi h = rem_euclid h.val two_val (lit< tt) two_held (lit< tt)

-- 2·pi in 32 bits: 13176795 · 2 ^ -21
abbrev pub tau : ℕ
tau = 13176795 * 2 ^ 128

pub tau_val : Val binary32 tau32 false tau
unfolding of_bits
tau_val = record { has = (refl, refl) }

pub rem_tau : {x : Float} {A : ℕ} → Mag binary32 x A → FromZero binary32 (rem_euclid_of binary32 x tau32) tau
rem_tau h = rem_euclid h.val tau_val (lit< tt) (held binary32 13176795 128 (lit≤ tt)) (lit< tt)
