-- A planar pair is sound: its azimuths are at most pi in size, so its gap lies from 0 to 2·pi; a gap below 1e-6 makes none; and two places of the ring have different slots. Assumes nothing.
use Rattle.std.proofs.Common.{◌≡◌, ℕ, ◌+◌, ◌*◌, ◌%◌, ◌^◌, ◌<◌, ◌≤◌, Bool, true, false, cond, not, ◌&&◌, T, eqb, ◌⊎◌, List, [], ◌∷◌, map, length, get_or, sym, refl, ap, ◌∙◌, subst, inl, inr, le_trans, le_refl, mul-le-mul_right, mod-eq_of_lt, arith, lit<, lit≤, pow_pos}
use mathlib.Core.Option.{none, some}
use native.Mathlib.Nat.{mod_self}
use lib.ListN.{length-map, get_or-map}
use lib.Ieee.{Float, nan, binary32, binary64, sub, neg, div, lt, fits, of_bits}
use Rattle.lists.specs.Lists.{range, member, Each, Once}
use Rattle.float_order.specs.Values.{abs}
use Rattle.float_widths.specs.Narrow.{narrow_of}
use Rattle.float_order.specs.Remainder.{rem_euclid_of}
use Rattle.float_widths.proofs.Grid.{le_or_lt}
use Rattle.float_sine.specs.Pi.{two_pi, tau32}
use Rattle.float_sine.specs.Sine.{sin_of, cos_of}
use Rattle.vector.specs.Vector.{minor}
use Rattle.vector.specs.declared.Speaker.{Speaker}
use Rattle.vector.specs.Speakers.{slots_of}
use Rattle.angle_sort.specs.declared.Spot.{Spot}
use Rattle.angle_sort.proofs.Insertion.{length_sorted}
use Rattle.layout_planar.specs.declared.Law.TheVariants.{Inverse, Crossfade}
use Rattle.layout_planar.specs.Planar.{least_second_gap, least_pair_determinant, coincident, max_vbap_gap, spot_of, ring, gap_at, inverse_law, law_of, pair_of, spot_at, pair_at, pairs_of}
use Rattle.float_bounds.proofs.Units.{Val, units_of, narrow_round}
use Rattle.float_bounds.proofs.Held.{held, fits_held}
use Rattle.float_bounds.proofs.Size.{Mag, val_mag, Between, mag_more, mag_neg, mag_sub, round_between}
use Rattle.float_bounds.proofs.Compare.{FromZero, from_zero_least, val_le}
use Rattle.float_bounds.proofs.Pi.{H, two_val, two_held}
use Rattle.float_bounds.proofs.Angle.{rem_two_pi}
use Rattle.float_bounds.proofs.Sine.{sin_mag, cos_mag}
use Rattle.float_bounds.proofs.Arctangent.{atan2_mag}
use Rattle.theorem_layouts.specs.Sound.{Within, SoundLaw, SoundPair, pi32, least_gap, largest_inverse}
use Rattle.lists.proofs.Each.{Some, each_map, each_unmap, each_both, each_get_d, each_collect, each_range}
use Rattle.lists.proofs.Once.{member_self, once_apart}
use Rattle.theorem_layouts.proofs.Sorted.{each_sorted, sorted_once, numbers_of}
use Rattle.theorem_layouts.proofs.Directions.{L, Direction, x_mag, z_mag}
use Rattle.theorem_layouts.proofs.Inverses.{narrow_within, minor_mag, entry_within}

-- ---- the law

law_by_lem : {ax az bx bz : Float} → Mag binary64 ax L → Mag binary64 az L → Mag binary64 bx L → Mag binary64 bz L → SoundLaw (inverse_law ax az bx bz)
unfolding inverse_law minor SoundLaw
law_by_lem {ax} {az} {bx} {bz} a b c d = by (lt (abs (minor ax bz bx az)) least_pair_determinant) (λ n. n)
  where
    entry : {e : Float} → Mag binary64 e L → T (not (lt (abs (minor ax bz bx az)) least_pair_determinant)) → Within largest_inverse (narrow_of (div binary64 e (minor ax bz bx az)))
    entry h n = entry_within (mag_more (lit≤ tt) h) (minor_mag a d c b).val n

    by : (t : Bool) → (T (not t) → T (not (lt (abs (minor ax bz bx az)) least_pair_determinant))) → SoundLaw (cond t Crossfade
        (Inverse (narrow_of (div binary64 bz (minor ax bz bx az))) (narrow_of (div binary64 (neg bx) (minor ax bz bx az))) (narrow_of (div binary64 (neg az) (minor ax bz bx az))) (narrow_of (div binary64 ax (minor ax bz bx az)))))
    by true k = tt
    by false k = (entry d (k tt), (entry (mag_neg c) (k tt), (entry (mag_neg b) (k tt), (entry a (k tt), tt))))

pub law_sound : {azA azB : Float} {A B : ℕ} (gap : Float) → Mag binary64 azA A → Mag binary64 azB B → SoundLaw (law_of azA azB gap)
unfolding law_of SoundLaw
law_sound {azA} {azB} gap a b = by (lt (narrow_of gap) max_vbap_gap)
  where
    by : (t : Bool) → SoundLaw (cond t (inverse_law (sin_of azA) (neg (cos_of azA)) (sin_of azB) (neg (cos_of azB))) Crossfade)
    by true = law_by_lem (sin_mag a) (mag_neg (cos_mag a)) (sin_mag b) (mag_neg (cos_mag b))
    by false = tt

-- ---- the gap

pub gap_from_zero : {azA azB : Float} (m i : ℕ) → Mag binary64 azA (2 * H) → Mag binary64 azB (2 * H) → FromZero binary64 (gap_at m i azA azB) (4 * H)
unfolding gap_at
gap_from_zero {azA} {azB} m i a b = by (eqb m 2 && eqb i 1 && lt (rem_euclid_of binary64 (sub binary64 azB azA) two_pi) least_second_gap)
  where
    by : (t : Bool) → FromZero binary64 (cond t two_pi (rem_euclid_of binary64 (sub binary64 azB azA) two_pi)) (4 * H)
    by true = inl (record { X = 4 * H; val = two_val; most = le_refl (4 * H) })
    by false = rem_two_pi (mag_sub (4 * H) b a two_held (lit< tt) (lit≤ tt))

coincident_val : Val binary64 coincident false (units_of binary64 coincident)
unfolding of_bits
coincident_val = record { has = (refl, refl) }

least_val : Val binary32 least_gap false (units_of binary32 least_gap)
unfolding of_bits
least_val = record { has = (refl, refl) }

gap_narrow : {g : Float} → Between binary64 g false (units_of binary64 coincident) (4 * H) → Between binary32 (narrow_of g) false (units_of binary32 least_gap) (2 ^ 152)
unfolding of_bits fits
gap_narrow b =
    round_between false b.X (2 ^ 1074) (units_of binary32 least_gap) (2 ^ 152) (narrow_round b.val) (pow_pos 1074) (fits_held binary32 least_gap tt least_val) (held binary32 1 152 (lit≤ tt)) (lit< tt)
    (le_trans (lit≤ tt) (mul-le-mul_right (2 ^ 149) b.least)) (le_trans (mul-le-mul_right (2 ^ 149) b.most) (lit≤ tt))

start_within : {v : Float} → Mag binary64 v (2 * H) → Within pi32 (narrow_of v)
unfolding of_bits fits
start_within {v} h = narrow_within v pi32 h tt (record { has = (refl, refl) }) (lit< tt) (lit≤ tt)

gap_within : {v : Float} → Mag binary64 v (4 * H) → Within tau32 (narrow_of v)
unfolding of_bits fits
gap_within {v} h = narrow_within v tau32 h tt (record { has = (refl, refl) }) (lit< tt) (lit≤ tt)

-- ---- a pair from spot s to spot t

-- a spot of the ring: an azimuth of at most pi in size, and a slot of the layout
pub record SpotIn (slots : List ℕ) (s : Spot) : Type 0 where
  pub azimuth : Mag binary64 s.angle (2 * H)
  pub slot : member s.number slots ≡ true

pair_sound : {slots : List ℕ} {g : Float} {s t : Spot} → SpotIn slots s → SpotIn slots t → (s.number ≡ t.number → ⊥) → FromZero binary64 g (4 * H) → Some (SoundPair slots) (pair_of g s t)
unfolding pair_of of_bits
pair_sound {slots} {g} {s} {t} a b ne h = by (lt g coincident) (λ n. from_zero_least h coincident_val (lit< tt) n)
  where
    by : (c : Bool) → (T (not c) → Between binary64 g false (units_of binary64 coincident) (4 * H))
        → Some (SoundPair slots) (cond c none (some (record { start = narrow_of s.angle; gap = narrow_of g; a = s.number; b = t.number; law = law_of s.angle t.angle g })))
    by true k = tt
    by false k =
        let n = gap_narrow (k tt) in record {
          start = start_within a.azimuth;
          gap = gap_within (val_mag (4 * H) (k tt).val (k tt).most);
          gap_least = val_le least_val n.val n.least;
          first = a.slot;
          second = b.slot;
          differ = ne;
          law = law_sound g a.azimuth b.azimuth;
        }

-- ---- round the ring

-- the next place is another one
next_place : (n i : ℕ) → 2 ≤ n → i < n → ((i < (i + 1) % n) × ((i + 1) % n < n)) ⊎ ((i + 1) % n < i)
next_place n i h k = elim (le_or_lt n (i + 1)) [
  | inl l ↦
      let e : i + 1 ≡ n = omega arith in
      let z : (i + 1) % n ≡ 0 = ap (λ (m : ℕ). m % n) e ∙ mod_self n in
      inr (omega arith)
  | inr l ↦ let z : (i + 1) % n ≡ i + 1 = mod-eq_of_lt l in inl (omega arith, omega arith)
]

number_at : (l : List Spot) (i : ℕ) → get_or (numbers_of l) i 0 ≡ (spot_at l i).number
number_at l i = get_or-map (λ (s : Spot). s.number) l i (record { angle = nan; number = 0 })

pair_at_lem : (slots : List ℕ) (l : List Spot) (i : ℕ) → Each (SpotIn slots) l → Once (numbers_of l) → 2 ≤ length l → i < length l → Some (SoundPair slots) (pair_at l i)
unfolding pair_at
pair_at_lem slots l i e d two h =
    let j = (i + 1) % length l in
    let n = next_place (length l) i two h in
    let k : j < length l = elim n [ inl g ↦ g.1 | inr g ↦ omega arith ] in
    let s : SpotIn slots (spot_at l i) = each_get_d (SpotIn slots) l i (record { angle = nan; number = 0 }) h e in
    let t : SpotIn slots (spot_at l j) = each_get_d (SpotIn slots) l j (record { angle = nan; number = 0 }) k e in
    let long : length (numbers_of l) ≡ length l = length-map l (λ (s : Spot). s.number) in
    pair_sound s t
    (λ q. let r : get_or (numbers_of l) i 0 ≡ get_or (numbers_of l) j 0 = number_at l i ∙ q ∙ sym (number_at l j) in
    elim n [
      | inl g ↦ once_apart (numbers_of l) i j 0 d g.0 (omega arith) r
      | inr g ↦ once_apart (numbers_of l) j i 0 d g (omega arith) (sym r)
    ])
    (gap_from_zero (length l) i s.azimuth t.azimuth)

-- ---- the pairs of speakers with directions

numbers_spots : (act : List Speaker) → numbers_of (map spot_of act) ≡ slots_of act
unfolding slots_of spot_of
numbers_spots [] = refl
numbers_spots (s ∷ l) = ap (λ (r : List ℕ). s.slot ∷ r) (numbers_spots l)

spot_in : (slots : List ℕ) (s : Speaker) → Direction s.dir → member s.slot slots ≡ true → SpotIn slots (spot_of s)
unfolding spot_of
spot_in slots s d h = record { azimuth = atan2_mag (x_mag d) (mag_neg (z_mag d)); slot = h }

pub pairs_sound : (act : List Speaker) → Each (λ s. Direction s.dir) act → Once (slots_of act) → 2 ≤ length act → Each (SoundPair (slots_of act)) (pairs_of act)
unfolding pairs_of ring slots_of
pairs_sound act e d two =
    let slots = slots_of act in
    let spots : Each (SpotIn slots) (map spot_of act) =
    each_map (SpotIn slots) spot_of act
    (each_both (λ s. Direction s.dir) (λ s. member s.slot slots ≡ true) (λ s. SpotIn slots (spot_of s)) (λ s p q. spot_in slots s p q) act e
    (each_unmap (λ o. member o slots ≡ true) (λ s. s.slot) act (member_self slots))) in
    let long : length (ring act) ≡ length act = length_sorted (map spot_of act) ∙ length-map act spot_of in
    each_collect (SoundPair slots) (pair_at (ring act)) (range (length act))
    (each_range (λ i. Some (SoundPair slots) (pair_at (ring act) i)) (length act)
    (λ i h. pair_at_lem slots (ring act) i (each_sorted (SpotIn slots) (map spot_of act) spots)
    (sorted_once (map spot_of act) (subst Once (sym (numbers_spots act)) d)) (omega arith) (omega arith)))
