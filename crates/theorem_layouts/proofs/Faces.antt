-- A kept triplet is sound: its points are directions, so a number of a cross product is at most 2 and the determinant, which passed its test, at least 1e-9. Assumes nothing.
use Rattle.std.proofs.Common.{◌≡◌, ℕ, suc, ◌*◌, ◌<◌, Bool, true, false, cond, not, ◌||◌, T, [], ◌++◌, map, length, refl, arith, lit<, lit≤}
use mathlib.Core.List.{flat_map}
use lib.Ieee.{Float, binary64, mul, div, lt}
use Rattle.lists.specs.Lists.{range, between, Each}
use Rattle.float_order.specs.Values.{abs}
use Rattle.float_widths.specs.Narrow.{narrow_of}
use Rattle.vector.specs.Vector.{Vector, Points, dot_of, dot_in, minor, cross_of, determinant_of, inverse_rows_of, length_of}
use Rattle.layout_faces.specs.Faces.{least_normal, least_distance, Plane, point, others, raw_normal, plane_through, all_below, all_above, outward}
use Rattle.layout_fan.specs.Fan.{coplanar, in_fan}
use Rattle.layout_hull.specs.Triplets.{Verdict, skip, open_hull, keep, least_determinant, inverse_of, verdict_by, verdict, verdicts, kept, triplets_of, inverse_by}
use Rattle.float_bounds.proofs.Held.{held}
use Rattle.float_bounds.proofs.Size.{Mag, mag_mul, mag_add}
use Rattle.theorem_layouts.specs.Sound.{Within, SoundTriplet, largest_inverse}
use Rattle.lists.proofs.Each.{Some, each_append, each_imply, each_get_d, each_map, each_flat_map, each_collect, each_range, each_between}
use Rattle.theorem_layouts.proofs.Directions.{L, Direction, x_mag, y_mag, z_mag}
use Rattle.theorem_layouts.proofs.Inverses.{minor_mag, entry_within}

module _ {a b : Vector} (p : Direction a) (q : Direction b) where
  cross_mag : Each (λ v. Mag binary64 v (2 * L)) (cross_of a b)
  unfolding cross_of minor
  cross_mag =
      (minor_mag (y_mag p) (z_mag q) (z_mag p) (y_mag q), (minor_mag (z_mag p) (x_mag q) (x_mag p) (z_mag q), (minor_mag (x_mag p) (y_mag q) (y_mag p) (x_mag q), tt)))

module _ {a b c : Vector} (p : Direction a) (q : Direction b) (r : Direction c) where
  determinant_mag : Mag binary64 (determinant_of a b c) (8 * L)
  unfolding determinant_of dot_of dot_in cross_of
  determinant_mag =
      let m = cross_mag q r in
      mag_add (8 * L) (mag_add (4 * L) (product (x_mag p) m.0) (product (y_mag p) m.1.0) (held binary64 4 1074 (lit≤ tt)) (lit< tt) (lit≤ tt)) (product (z_mag p) m.1.1.0) (held binary64 8 1074 (lit≤ tt)) (lit< tt) (lit≤ tt)
    where
      product : {u v : Float} → Mag binary64 u L → Mag binary64 v (2 * L) → Mag binary64 (mul binary64 u v) (2 * L)
      product u v = mag_mul (2 * L) u v (held binary64 2 1074 (lit≤ tt)) (lit< tt) (lit≤ tt)

  inverse_within : T (not (lt (abs (determinant_of a b c)) least_determinant)) → Each (Within largest_inverse) (inverse_of a b c)
  unfolding inverse_by inverse_rows_of cross_of
  inverse_within n =
      let P : Float → Type 0 = λ v. Mag binary64 v (2 * L) in
      each_map (Within largest_inverse) (λ e. narrow_of (div binary64 e (determinant_of a b c))) (cross_of b c ++ cross_of c a ++ cross_of a b)
      (each_imply P (λ e. Within largest_inverse (narrow_of (div binary64 e (determinant_of a b c)))) (λ e h. entry_within h determinant_mag.val n) (cross_of b c ++ cross_of c a ++ cross_of a b)
      (each_append P (cross_of b c ++ cross_of c a) (cross_of a b) (each_append P (cross_of b c) (cross_of c a) (cross_mag q r) (cross_mag r p)) (cross_mag p q)))

inverse_nine : (a b c : Vector) → length (inverse_of a b c) ≡ 9
unfolding inverse_by inverse_rows_of
inverse_nine a b c = refl

-- ---- what becomes of a triple

abbrev Kept : ℕ → Verdict → Type 0
Kept n skip = Unit
Kept n open_hull = Unit
Kept n (keep t) = SoundTriplet n t

module _ (pts : Points) (e : Each Direction pts) (i j k : ℕ) (g : i < j) (h : j < k) (l : k < length pts) where
  by_kept : (f : Plane) → Kept (length pts) (verdict_by pts i j k f)
  unfolding verdict_by
  by_kept f = by (lt f.d least_distance) (not (in_fan pts f.nrm i j k (coplanar pts f (others (length pts) i j k)))) (lt (abs (determinant_of (point pts i) (point pts j) (point pts k))) least_determinant) (λ n. n)
    where
      at : (m : ℕ) → m < length pts → Direction (point pts m)
      at m q = each_get_d Direction pts m [] q e

      by : (x y z : Bool) → (T (not z) → T (not (lt (abs (determinant_of (point pts i) (point pts j) (point pts k))) least_determinant)))
          → Kept (length pts) (cond x open_hull (cond y skip (cond z skip (keep (record { i = i; j = j; k = k; inv = inverse_of (point pts i) (point pts j) (point pts k) })))))
      by true y z n = tt
      by false true z n = tt
      by false false true n = tt
      by false false false n =
          record {
            rises = g;
            rises' = h;
            low = l;
            nine = inverse_nine (point pts i) (point pts j) (point pts k);
            inverse = inverse_within (at i (omega arith)) (at j (omega arith)) (at k l) (n tt);
          }

  verdict_kept : Kept (length pts) (verdict pts i j k)
  unfolding verdict
  verdict_kept =
      let f = plane_through (point pts i) (point pts j) (point pts k) in
      let ps = others (length pts) i j k in
      by (lt (length_of (raw_normal (point pts i) (point pts j) (point pts k))) least_normal) (not (all_below pts f ps || all_above pts f ps))
      (verdict_by pts i j k (outward (all_below pts f ps) f)) (by_kept (outward (all_below pts f ps) f))
    where
      by : (x y : Bool) (v : Verdict) → Kept (length pts) v → Kept (length pts) (cond x skip (cond y skip v))
      by true y v r = tt
      by false true v r = tt
      by false false v r = r

-- ---- the triplets of directions

pub triplets_sound : (pts : Points) → Each Direction pts → Each (SoundTriplet (length pts)) (triplets_of pts)
unfolding triplets_of verdicts kept
triplets_sound pts e =
    let n = length pts in
    each_collect (SoundTriplet n) kept (verdicts pts)
    (each_imply (Kept n) (λ v. Some (SoundTriplet n) (kept v)) some_kept (verdicts pts)
    (each_flat_map (Kept n) (λ i. flat_map (λ j. map (λ k. verdict pts i j k) (between (suc j) n)) (between (suc i) n)) (range n)
    (each_range (λ i. Each (Kept n) (flat_map (λ j. map (λ k. verdict pts i j k) (between (suc j) n)) (between (suc i) n))) n
    (λ i a. each_flat_map (Kept n) (λ j. map (λ k. verdict pts i j k) (between (suc j) n)) (between (suc i) n)
    (each_between (λ j. Each (Kept n) (map (λ k. verdict pts i j k) (between (suc j) n))) (suc i) n
    (λ j b c. each_map (Kept n) (λ k. verdict pts i j k) (between (suc j) n)
    (each_between (λ k. Kept n (verdict pts i j k)) (suc j) n (λ k d f. verdict_kept pts e i j k b d f))))))))
  where
    some_kept : (v : Verdict) → Kept (length pts) v → Some (SoundTriplet (length pts)) (kept v)
    some_kept skip h = tt
    some_kept open_hull h = tt
    some_kept (keep t) h = h
