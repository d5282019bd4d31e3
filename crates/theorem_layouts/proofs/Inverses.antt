-- An entry of an inverse: a number of at most 2 over a determinant of at least 1e-9 is at most 2 ^ 31 in 32 bits. Assumes nothing.
use Rattle.std.proofs.Common.{ℕ, ◌*◌, ◌^◌, ◌<◌, ◌≤◌, Bool, false, not, T, refl, lit<, lit≤}
use lib.Ieee.{Float, binary32, binary64, mul, div, lt, fits, of_bits}
use lib.Ieee.Scale.{overflow}
use Rattle.float_order.specs.Values.{abs}
use Rattle.float_widths.specs.Narrow.{narrow_of}
use Rattle.vector.specs.Vector.{minor}
use Rattle.layout_faces.specs.Faces.{least_normal}
use Rattle.layout_faces.proofs.Apart.{normal_val}
use Rattle.float_bounds.proofs.Units.{Val, units_of, narrow_fits}
use Rattle.float_bounds.proofs.Held.{held, fits_held}
use Rattle.float_bounds.proofs.Size.{Mag, mag_mul, mag_sub, mag_div, mag_narrow}
use Rattle.float_bounds.proofs.Compare.{abs_val, not_lt_val, mag_test}
use Rattle.theorem_layouts.specs.Sound.{Within, largest_inverse}
use Rattle.theorem_layouts.proofs.Directions.{L}

-- a bound that 32 bits hold passes a narrowing
pub narrow_within : (v b : Float) {A : ℕ} → Mag binary64 v A → T (fits binary32 b) → Val binary32 b false (units_of binary32 b) → units_of binary32 b < overflow binary32 → A * 2 ^ 149 ≤ units_of binary32 b * 2 ^ 1074 → Within b (narrow_of v)
narrow_within v b h f w l k = record { held = narrow_fits v; most = mag_test (mag_narrow (units_of binary32 b) h (fits_held binary32 b f w) l k) w }

pub minor_mag : {a b c d : Float} → Mag binary64 a L → Mag binary64 b L → Mag binary64 c L → Mag binary64 d L → Mag binary64 (minor a b c d) (2 * L)
unfolding minor
minor_mag a b c d = mag_sub (2 * L) (product a b) (product c d) (held binary64 2 1074 (lit≤ tt)) (lit< tt) (lit≤ tt)
  where
    product : {u v : Float} → Mag binary64 u L → Mag binary64 v L → Mag binary64 (mul binary64 u v) L
    product u v = mag_mul L u v (held binary64 1 1074 (lit≤ tt)) (lit< tt) (lit≤ tt)

pub entry_within : {c d : Float} {t : Bool} {D : ℕ} → Mag binary64 c (2 * L) → Val binary64 d t D → T (not (lt (abs d) least_normal)) → Within largest_inverse (narrow_of (div binary64 c d))
unfolding of_bits fits
entry_within {c} {d} h v n =
    narrow_within (div binary64 c d) largest_inverse
    (mag_div (2 ^ 31 * L) (units_of binary64 least_normal) h v (not_lt_val (abs_val v) normal_val n) (lit< tt) (held binary64 1 1105 (lit≤ tt)) (lit< tt) (lit≤ tt))
    tt (record { has = (refl, refl) }) (lit< tt) (lit≤ tt)
