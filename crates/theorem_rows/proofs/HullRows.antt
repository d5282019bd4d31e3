-- A hull row is finite: a triplet's gain is at most 2 ^ 33, three of them at most 2 ^ 35 in a place, and shares of imaginary points take no gain above 2 ^ 60; then the row is scaled. Assumes nothing.
use mathlib.Core.Path.{◌≡◌, refl, sym, subst}
use mathlib.Core.Logic.{◌⊎◌, inl, inr}
use Prim.Native.Nat.{ℕ, zero, suc, ◌+◌, ◌-◌, ◌*◌, ◌^◌, ◌≤◌, ◌<◌, min, zero-le}
use native.Mathlib.Nat.{le_refl, le_trans, le_of_eq, mul-le-mul_right, one-mul, lt_of_lt_of_le}
use native.Mathlib.Omega.{arith}
use mathlib.Core.Bool.{Bool, true, false, not, ◌&&◌, cond}
use mathlib.Core.List.{List, [], ◌∷◌, map, foldl}
use mathlib.Core.Option.{Option, none, some}
use lib.IntN.{pos}
use lib.Dec.{T, lit≤, lit<, ltb}
use lib.ListN.{length, get_or, replicate}
use lib.Ieee.{Float, nan, binary32, size, add, mul, div, lt, fits}
use lib.Ieee.Fits.{of_int-fits}
use lib.Ieee.Scale.{overflow, finite}
use Rattle.lists.specs.Lists.{range, is_empty, part, Each}
use Rattle.lists.proofs.Parts.{length_part}
use Rattle.float_order.specs.Values.{+0, 1·0, count32}
use Rattle.float_order.specs.Order.{max_of}
use Rattle.float_root.specs.Root.{sqrt_of}
use Rattle.vector.specs.Vector.{Vector, dot_in, dir_vec_of}
use Rattle.layout_hull.specs.Triplets.{Triplet}
use Rattle.layout_record.specs.Shape.{HullShape}
use Rattle.row_places.specs.Places.{add_at}
use Rattle.vector.specs.Limits.{max_imaginary}
use Rattle.row_hull.specs.HullRow.{Aimed, aimed, best_of, nearest_point, nearest_row, Filling, give, filling, shared, triplet_row, row_by, hull_row}
use Rattle.float_bounds.proofs.Units.{Val}
use Rattle.float_bounds.proofs.Held.{Held, held}
use Rattle.float_bounds.proofs.Size.{Mag, mag_neg, mag_add, mag_mul, mag_div, mag_absorb, val_mag}
use Rattle.float_bounds.proofs.Root.{sqrt_val}
use Rattle.float_bounds.proofs.Sine.{sin32_mag, cos32_mag}
use Rattle.float_bounds.proofs.Top.{mag_top}
use Rattle.float_bounds.proofs.Order.{zero_mag, max_mag, count_val}
use Rattle.theorem_layouts.specs.Sound.{Within, SoundTriplet, largest_inverse}
use Rattle.lists.proofs.Each.{Some, each_imply, each_get_d, each_or, each_part, foldl_always, each_set}
use Rattle.theorem_rows.proofs.Places.{Row, zeros, add_at_lem, row_more}
use Rattle.theorem_rows.proofs.Pairs.{L, inverse_mag}
use Rattle.theorem_rows.proofs.Powers.{B60, scaled_row}

-- ---- three numbers and their product

-- three numbers of at most B
pub record Three (B : ℕ) (v : Vector) : Type 0 where
  pub long : length v ≡ 3
  pub each : Each (λ e. Mag binary32 e B) v

three_at : {B : ℕ} {v : Vector} → Three B v → (i : ℕ) → i < 3 → Mag binary32 (get_or v i nan) B
three_at {B} {v} h i l = let e = h.long in each_get_d (λ e. Mag binary32 e B) v i nan (omega arith) h.each

abbrev pub G : ℕ
G = 2 ^ 33 * L

dot_mag : {a b : Vector} → Three (2 ^ 31 * L) a → Three L b → Mag binary32 (dot_in binary32 a b) G
unfolding dot_in
dot_mag {a} {b} p q =
    mag_add G (mag_add (2 ^ 32 * L) (product 0 (lit< tt)) (product 1 (lit< tt)) (held binary32 1 181 (lit≤ tt)) (lit< tt) (lit≤ tt)) (product 2 (lit< tt)) (held binary32 1 182 (lit≤ tt)) (lit< tt) (lit≤ tt)
  where
    product : (i : ℕ) → i < 3 → Mag binary32 (mul binary32 (get_or a i nan) (get_or b i nan)) (2 ^ 31 * L)
    product i l = mag_mul (2 ^ 31 * L) (three_at p i l) (three_at q i l) (held binary32 1 180 (lit≤ tt)) (lit< tt) (lit≤ tt)

pub direction_three : (az el : Float) → T (finite az) → T (fits binary32 az) → T (finite el) → T (fits binary32 el) → Three L (dir_vec_of az el)
unfolding dir_vec_of
direction_three az el a b c d =
    let m = mag_top az a b in
    let n = mag_top el c d in
    record { long = refl; each = (product (sin32_mag m) (cos32_mag n), (sin32_mag n, (product (mag_neg (cos32_mag m)) (cos32_mag n), tt))) }
  where
    product : {u v : Float} → Mag binary32 u L → Mag binary32 v L → Mag binary32 (mul binary32 u v) L
    product u v = mag_mul L u v (held binary32 1 149 (lit≤ tt)) (lit< tt) (lit≤ tt)

-- ---- the triplet that is aimed at

abbrev pub Aim : Aimed → Type 0
Aim a = Three G a.gains

module _ (s : Vector) (q : Three L s) where
  aimed_three : {n : ℕ} (t : Triplet) → SoundTriplet n t → Aim (aimed s t)
  unfolding aimed
  aimed_three t h = record { long = refl; each = (dot_mag (row 0 (lit≤ tt)) q, (dot_mag (row 1 (lit≤ tt)) q, (dot_mag (row 2 (lit≤ tt)) q, tt))) }
    where
      row : (i : ℕ) → i * 3 + 3 ≤ 9 → Three (2 ^ 31 * L) (part 3 t.inv i)
      row i l =
          let e = h.nine in
          record {
            long = length_part 3 t.inv i (omega arith);
            each = each_part (λ e. Mag binary32 e (2 ^ 31 * L)) 3 t.inv i (each_imply (Within largest_inverse) (λ e. Mag binary32 e (2 ^ 31 * L)) (λ e w. inverse_mag w) t.inv h.inverse);
          }

  pub best_three : (n : ℕ) (tris : List Triplet) → Each (SoundTriplet n) tris → Some Aim (best_of s tris)
  unfolding best_of
  best_three n tris h = at tris _ (each_imply (SoundTriplet n) (λ t. Aim (aimed s t)) aimed_three tris h)
    where
      at : (l : List Triplet) (i : ℕ) → Each (λ t. Aim (aimed s t)) l → Some Aim (get_or (map (λ t. some (aimed s t)) l) i none)
      at [] i e = tt
      at (t ∷ l) zero e = e.0
      at (t ∷ l) (suc i) e = at l i e.1

-- ---- a triplet's gains into the row

record Filled (B : ℕ) (r : Filling) : Type 0 where
  pub row : Row B r.row
  pub imag : Row B r.imag

give_filled : (A C : ℕ) (h : HullShape) (r : Filling) (p : ℕ) (g : Float) → A ≤ C → A + G ≤ C → Held binary32 C → C < overflow binary32 → Filled A r → Mag binary32 g G → Filled C (give h r p g)
unfolding give
give_filled A C h r p g l k c o f m = by (ltb p (length h.out))
  where
    add_gain : (u : Float) → Mag binary32 u A → Mag binary32 (add binary32 u (max_of g +0)) C
    add_gain u n = mag_add C n (max_mag m zero_mag) c o k

    by : (b : Bool) → Filled C (cond b (record { row = add_at r.row (get_or h.out p 0) (max_of g +0); imag = r.imag }) (record { row = r.row; imag = add_at r.imag (min (p - length h.out) (max_imaginary - 1)) (max_of g +0) }))
    by true = record { row = add_at_lem A C r.row (get_or h.out p 0) (max_of g +0) l f.row add_gain; imag = row_more A C l r.imag f.imag }
    by false = record { row = row_more A C l r.row f.row; imag = add_at_lem A C r.imag (min (p - length h.out) (max_imaginary - 1)) (max_of g +0) l f.imag add_gain }

abbrev B35 : ℕ
B35 = 2 ^ 35 * L

filling_filled : (n : ℕ) (h : HullShape) (t : Triplet) (g : List Float) → Three G g → Filled B35 (filling n h t g)
unfolding filling
filling_filled n h t g m =
    give_filled (2 ^ 34 * L) B35 h _ t.k (get_or g 2 nan) (lit≤ tt) (lit≤ tt) (held binary32 1 184 (lit≤ tt)) (lit< tt)
    (give_filled G (2 ^ 34 * L) h _ t.j (get_or g 1 nan) (lit≤ tt) (lit≤ tt) (held binary32 1 183 (lit≤ tt)) (lit< tt)
    (give_filled 0 G h _ t.i (get_or g 0 nan) zero-le (lit≤ tt) (held binary32 1 182 (lit≤ tt)) (lit< tt) (record { row = zeros 0 n; imag = zeros 0 max_imaginary }) (three_at m 0 (lit< tt)))
    (three_at m 1 (lit< tt)))
    (three_at m 2 (lit< tt))

-- ---- the shares of imaginary points

-- at most 40 neighbours
abbrev pub Few : List ℕ → Type 0
Few ns = length ns ≤ 40

root_count : (n : ℕ) → 1 ≤ n → n ≤ 40 → (R : ℕ) × Val binary32 (sqrt_of binary32 (count32 n)) false R × (L ≤ R)
root_count n p few =
    let c = count_val n (le_trans few (lit≤ tt)) in
    let big : L ≤ n * L = le_trans (le_of_eq (sym (one-mul L))) (mul-le-mul_right L p) in
    let r = sqrt_val (of_int-fits binary32 (pos n)) c (lt_of_lt_of_le (lit< tt) big) in
    (r.R, r.val, r.least L (held binary32 1 149 (lit≤ tt)) (lit< tt) (mul-le-mul_right L big))

add_shares : (w : Float) → Mag binary32 w B35 → (l : List ℕ) (row : List Float) → Row B60 row → Row B60 (foldl (λ r o. add_at r o w) row l)
unfolding size
add_shares w m l row h = foldl_always (Row B60) (λ r o. add_at r o w) (λ r o k. add_at_lem B60 B60 r o w (le_refl B60) k (λ u n. mag_absorb n m (lit≤ tt) (lit< tt))) l row h

share_row : (g : Float) (ns : List ℕ) (row : List Float) → Mag binary32 g B35 ⊎ (g ≡ nan) → Few ns → Row B60 row
    → Row B60 (cond (lt +0 g && not (is_empty ns)) (foldl (λ r o. add_at r o (div binary32 g (sqrt_of binary32 (count32 (length ns))))) row ns) row)
unfolding is_empty lt
share_row g ns row (inr e) few h = subst (λ (v : Float). Row B60 (cond (lt +0 v && not (is_empty ns)) (foldl (λ r o. add_at r o (div binary32 v (sqrt_of binary32 (count32 (length ns))))) row ns) row)) (sym e) h
share_row g [] row (inl m) few h = by (lt +0 g)
  where
    by : (b : Bool) → Row B60 (cond (b && false) row row)
    by true = h
    by false = h
share_row g (o ∷ l) row (inl m) few h = by (lt +0 g)
  where
    w_mag : Mag binary32 (div binary32 g (sqrt_of binary32 (count32 (suc (length l))))) B35
    w_mag = let c = root_count (suc (length l)) (omega arith) few in mag_div B35 L m c.1 c.2 (lit< tt) (held binary32 1 184 (lit≤ tt)) (lit< tt) (lit≤ tt)

    by : (b : Bool) → Row B60 (cond (b && true) (foldl (λ r o. add_at r o (div binary32 g (sqrt_of binary32 (count32 (suc (length l)))))) row (o ∷ l)) row)
    by true = add_shares (div binary32 g (sqrt_of binary32 (count32 (suc (length l))))) w_mag (o ∷ l) row h
    by false = h

shared_rows : (h : HullShape) (imag : List Float) → Row B35 imag → Each Few h.imag → (ks : List ℕ) (row : List Float) → Row B60 row → Row B60 (foldl (shared h imag) row ks)
unfolding shared
shared_rows h imag m few ks row r =
    let P : Float → Type 0 = λ g. Mag binary32 g B35 ⊎ (g ≡ nan) in
    let gains : Each P imag = each_imply (λ g. Mag binary32 g B35) P (λ g k. inl k) imag m in
    foldl_always (Row B60) (shared h imag)
    (λ r k n. share_row (get_or imag k nan) (get_or h.imag k []) r (each_or P imag k nan gains (inr refl)) (each_or Few h.imag k [] few zero-le) n) ks row r

-- ---- the row

-- of a triplet, before it is scaled: `triplet_row` without its last step
unscaled : ℕ → HullShape → Triplet → List Float → List Float
unscaled n h t g = let f = filling n h t g in foldl (shared h f.imag) f.row (range (min (length h.imag) max_imaginary))

unscaled_row : (n : ℕ) (h : HullShape) (t : Triplet) (g : List Float) → Three G g → Each Few h.imag → Row B60 (unscaled n h t g)
unfolding unscaled
unscaled_row n h t g k few =
    let f = filling_filled n h t g k in
    let r = filling n h t g in
    shared_rows h r.imag f.imag few (range (min (length h.imag) max_imaginary)) r.row (row_more B35 B60 (lit≤ tt) r.row f.row)

pub hull_row_lem : (n : ℕ) (az el : Float) (h : HullShape) (points : ℕ) → T (finite az) → T (fits binary32 az) → T (finite el) → T (fits binary32 el) → Each (SoundTriplet points) h.tris → Each Few h.imag → Row (2 ^ 82 * L) (hull_row n az el h)
unfolding hull_row nearest_row triplet_row unscaled
hull_row_lem n az el h points a b c d tris few =
    let s = dir_vec_of az el in
    let q = direction_three az el a b c d in
    by (best_of s h.tris) (best_three s q points h.tris tris)
  where
    by : (o : Option Aimed) → Some Aim o → Row (2 ^ 82 * L) (row_by n (dir_vec_of az el) h o)
    by none k = each_set (λ g. Mag binary32 g (2 ^ 82 * L)) (replicate n +0) (get_or h.out (nearest_point (dir_vec_of az el) h.dirs) n) 1·0 (zeros (2 ^ 82 * L) n) (λ _. val_mag {X = L} (2 ^ 82 * L) (record { has = (refl, refl) }) (lit≤ tt))
    by (some m) k = scaled_row (unscaled n h m.triplet m.gains) (unscaled_row n h m.triplet m.gains k few)
