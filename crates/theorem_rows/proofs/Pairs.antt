-- The gains of a planar pair, before they are scaled, are at most 2 ^ 32: by the inverse, whose numbers are at most 2 ^ 31; or sines and cosines. Of any finite azimuth. Assumes nothing.
use mathlib.Core.Path.{refl}
use Prim.Native.Nat.{ℕ, ◌*◌, ◌^◌}
use mathlib.Core.Bool.{false}
use mathlib.Core.List.{List}
use lib.Dec.{T, lit≤, lit<}
use lib.Ieee.{Float, binary32, add, neg, mul, div, fits, of_bits}
use lib.Ieee.Fits.{add-fits}
use lib.Ieee.Scale.{finite}
use Rattle.float_order.specs.Values.{+0}
use Rattle.float_order.specs.Order.{max_of, clamp_of}
use Rattle.float_sine.specs.Sine.{sin_of, cos_of, sin32_of, cos32_of}
use Rattle.layout_planar.specs.declared.Law.{Law}
use Rattle.layout_planar.specs.declared.Law.TheVariants.{Inverse, Crossfade}
use Rattle.layout_planar.specs.declared.PlanarPair.{PlanarPair}
use Rattle.row_planar.specs.PlanarRow.{half_pi32, rel, Two, by_inverse, shaped, by_crossfade, by_law}
use Rattle.float_bounds.proofs.Units.{units_of, narrow_fits}
use Rattle.float_bounds.proofs.Held.{held}
use Rattle.float_bounds.proofs.Size.{Mag, Most, mag_more, mag_neg, mag_add, mag_mul, mag_div, val_mag}
use Rattle.float_bounds.proofs.Compare.{FromZero, from_zero_mag, test_mag, above_least}
use Rattle.float_bounds.proofs.Angle.{tau, rem_tau}
use Rattle.float_bounds.proofs.Sine.{sin32_mag, cos32_mag}
use Rattle.float_bounds.proofs.Top.{mag_top, mag_sub_top}
use Rattle.float_bounds.proofs.Order.{max_zero_most, max_fits, clamp_unit}
use Rattle.theorem_layouts.specs.Sound.{Within, SoundLaw, SoundPair, pi32, least_gap, largest_inverse}
use Rattle.theorem_rows.proofs.Crossfade.{shaped_mag}

abbrev pub L : ℕ
L = 2 ^ 149

-- a bound of the layout, in smallest values
pub inverse_mag : {v : Float} → Within largest_inverse v → Mag binary32 v (2 ^ 31 * L)
inverse_mag h = test_mag h.held h.most (record { has = (refl, refl) })

start_mag : {v : Float} → Within pi32 v → Mag binary32 v (2 ^ 100 * L)
unfolding of_bits
start_mag h = mag_more (lit≤ tt) (test_mag {B = 13176795 * 2 ^ 127} h.held h.most (record { has = (refl, refl) }))

pub half_mag : Mag binary32 half_pi32 (2 * L)
unfolding of_bits
half_mag = val_mag {X = units_of binary32 half_pi32} (2 * L) (record { has = (refl, refl) }) (lit≤ tt)

-- ---- the place of an azimuth in a gap

module _ (az : Float) (ok : T (finite az)) (fit : T (fits binary32 az)) {slots : List ℕ} {p : PlanarPair} (h : SoundPair slots p) where
  pub rel_from_zero : FromZero binary32 (rel az p) tau
  unfolding rel
  rel_from_zero = rem_tau (mag_sub_top (mag_top az ok fit) (start_mag h.start))

  place_unit : FromZero binary32 (clamp_of (div binary32 (rel az p) p.gap)) L
  unfolding of_bits
  place_unit =
      let m : Mag binary32 p.gap tau = test_mag h.gap.held h.gap.most (record { has = (refl, refl) }) in
      let g = above_least {Y = units_of binary32 least_gap} m (record { has = (refl, refl) }) (lit< tt) h.gap_least in
      clamp_unit (mag_div (2 ^ 25 * L) (units_of binary32 least_gap) (from_zero_mag rel_from_zero) g.val g.least (lit< tt) (held binary32 1 174 (lit≤ tt)) (lit< tt) (lit≤ tt))

-- ---- both gains

-- a 32-bit value from 0 to 2 ^ 32
pub record Gain (g : Float) : Type 0 where
  pub fit : T (fits binary32 g)
  pub most : Most binary32 g false (2 ^ 32 * L)

pub record Gains (t : Two) : Type 0 where
  pub a : Gain t.ga
  pub b : Gain t.gb

not_below_lem : {g : Float} → T (fits binary32 g) → Mag binary32 g (2 ^ 32 * L) → Gain (max_of g +0)
unfolding fits
not_below_lem {g} f m = record { fit = max_fits binary32 g +0 f tt tt; most = max_zero_most m }

module _ (az : Float) (ok : T (finite az)) (fit : T (fits binary32 az)) where
  inverse_gains : {m0 m1 m2 m3 : Float} → Within largest_inverse m0 → Within largest_inverse m1 → Within largest_inverse m2 → Within largest_inverse m3 → Gains (by_inverse az m0 m1 m2 m3)
  unfolding by_inverse
  inverse_gains {m0} {m1} {m2} {m3} a b c d = record { a = gain a b; b = gain c d }
    where
      x : Mag binary32 (sin32_of az) L
      x = sin32_mag (mag_top az ok fit)

      z : Mag binary32 (neg (cos32_of az)) L
      z = mag_neg (cos32_mag (mag_top az ok fit))

      product : {m v : Float} → Within largest_inverse m → Mag binary32 v L → Mag binary32 (mul binary32 m v) (2 ^ 31 * L)
      product m v = mag_mul (2 ^ 31 * L) (inverse_mag m) v (held binary32 1 180 (lit≤ tt)) (lit< tt) (lit≤ tt)

      gain : {m n : Float} → Within largest_inverse m → Within largest_inverse n → Gain (max_of (add binary32 (mul binary32 m (sin32_of az)) (mul binary32 n (neg (cos32_of az)))) +0)
      gain {m} {n} p q = not_below_lem (add-fits binary32 (mul binary32 m (sin32_of az)) (mul binary32 n (neg (cos32_of az)))) (mag_add (2 ^ 32 * L) (product p x) (product q z) (held binary32 1 181 (lit≤ tt)) (lit< tt) (lit≤ tt))

sin32_fits : (v : Float) → T (fits binary32 (sin32_of v))
unfolding sin32_of
sin32_fits v = narrow_fits (sin_of v)

cos32_fits : (v : Float) → T (fits binary32 (cos32_of v))
unfolding cos32_of
cos32_fits v = narrow_fits (cos_of v)

crossfade_gains : (r g : Float) → FromZero binary32 (clamp_of (div binary32 r g)) L → Gains (by_crossfade r g)
unfolding by_crossfade
crossfade_gains r g h =
    let e = mul binary32 (shaped (clamp_of (div binary32 r g))) half_pi32 in
    let a : Mag binary32 e (32 * L) =
    mag_mul (32 * L) (shaped_mag h) half_mag (held binary32 32 149 (lit≤ tt)) (lit< tt) (lit≤ tt) in
    record { a = not_below_lem (cos32_fits e) (mag_more (lit≤ tt) (cos32_mag a)); b = not_below_lem (sin32_fits e) (mag_more (lit≤ tt) (sin32_mag a)) }

pub pair_gains : (az : Float) → T (finite az) → T (fits binary32 az) → {slots : List ℕ} (p : PlanarPair) → SoundPair slots p → Gains (by_law az p p.law)
unfolding by_law SoundLaw
pair_gains az ok fit p h = by p.law h.law
  where
    by : (l : Law) → SoundLaw l → Gains (by_law az p l)
    by (Inverse m0 m1 m2 m3) k = inverse_gains az ok fit k.0 k.1.0 k.1.1.0 k.1.1.1.0
    by Crossfade k = crossfade_gains (rel az p) p.gap (place_unit az ok fit h)
