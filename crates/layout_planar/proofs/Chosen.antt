-- The branches of the planar definitions. Assumes nothing.
use Rattle.std.proofs.Common.{◌≡◌, ℕ, ◌<◌, true, false, ◌&&◌, eqb, sym, refl, ap₂, ltb-true, None, Some}
use lib.Ieee.{Float, binary64, sub, neg, div, lt}
use Rattle.lists.proofs.Tests.{cond_yes, cond_no}
use Rattle.float_order.specs.Values.{abs}
use Rattle.float_widths.specs.Narrow.{narrow_of}
use Rattle.float_order.specs.Remainder.{rem_euclid_of}
use Rattle.float_sine.specs.Pi.{two_pi}
use Rattle.float_sine.specs.Sine.{sin_of, cos_of}
use Rattle.float_sine.specs.declared.SinCos.{SinCos}
use Rattle.vector.specs.Vector.{minor}
use Rattle.angle_sort.specs.declared.Spot.{Spot}
use Rattle.layout_planar.specs.declared.Law.{Law}
use Rattle.layout_planar.specs.declared.Law.TheVariants.{Inverse, Crossfade}
use Rattle.layout_planar.specs.Planar.{least_second_gap, least_pair_determinant, coincident, max_vbap_gap, gap_at, inverse_law, law_of, pair_of}
use Rattle.layout_planar.specs.Inner.Arrays.{slot_fits, sin_cos_of, law_by, told_of}

module _ (m i : ℕ) (azA azB : Float) where
  abbrev plain_gap : Float
  plain_gap = rem_euclid_of binary64 (sub binary64 azB azA) two_pi

  pub gap_round : eqb m 2 && eqb i 1 && lt plain_gap least_second_gap ≡ true → two_pi ≡ gap_at m i azA azB
  unfolding gap_at
  gap_round h = sym (cond_yes two_pi plain_gap h)

  pub gap_plain : eqb m 2 && eqb i 1 && lt plain_gap least_second_gap ≡ false → plain_gap ≡ gap_at m i azA azB
  unfolding gap_at
  gap_plain h = sym (cond_no two_pi plain_gap h)

module _ (ax az bx bz : Float) where
  -- an entry of the inverse
  abbrev entry : Float → Float
  entry n = narrow_of (div binary64 n (minor ax bz bx az))

  abbrev inverse : Law
  inverse = Inverse (entry bz) (entry (neg bx)) (entry (neg az)) (entry ax)

  pub law_flat : lt (abs (minor ax bz bx az)) least_pair_determinant ≡ true → Crossfade ≡ inverse_law ax az bx bz
  unfolding inverse_law minor
  law_flat h = sym (cond_yes Crossfade inverse h)

  pub law_inverse : lt (abs (minor ax bz bx az)) least_pair_determinant ≡ false → inverse ≡ inverse_law ax az bx bz
  unfolding inverse_law minor
  law_inverse h = sym (cond_no Crossfade inverse h)

module _ (a b : SinCos Float) (gap : Float) where
  abbrev by_inverse : Law
  by_inverse = inverse_law a.sin (neg a.cos) b.sin (neg b.cos)

  pub law_near : lt (narrow_of gap) max_vbap_gap ≡ true → by_inverse ≡ law_by a b gap
  unfolding law_by
  law_near h = sym (cond_yes by_inverse Crossfade h)

  pub law_far : lt (narrow_of gap) max_vbap_gap ≡ false → Crossfade ≡ law_by a b gap
  unfolding law_by
  law_far h = sym (cond_no by_inverse Crossfade h)

-- by the sines and cosines of two azimuths it is their law
pub law_told : (azA azB gap : Float) {a b : SinCos Float} → a ≡ sin_cos_of azA → b ≡ sin_cos_of azB → law_by a b gap ≡ law_of azA azB gap
unfolding law_by law_of
law_told azA azB gap ea eb = rw (ea, eb) refl

-- a record of a sine and a cosine
pub both_told : (az : Float) {t : SinCos Float} → (t.sin ≡ sin_of az) × (t.cos ≡ cos_of az) → t ≡ sin_cos_of az
both_told az e = ap₂ (λ (s c : Float). record { sin = s; cos = c }) e.0 e.1

module _ (g : Float) (s t : Spot) where
  pub pair_none : lt g coincident ≡ true → None ≡ told_of (pair_of g s t)
  unfolding pair_of told_of
  pair_none h = rw h

  pub pair_some : lt g coincident ≡ false
      → Some (record { start = narrow_of s.angle; gap = narrow_of g; a = s.number; b = t.number; law = law_of s.angle t.angle g })
      ≡ told_of (pair_of g s t)
  unfolding pair_of told_of
  pair_some h = rw h

pub slot_fits_lem : (s : Spot) → slot_fits s ≡ true → s.number < 256
unfolding slot_fits
slot_fits_lem s h = ltb-true s.number 256 h
