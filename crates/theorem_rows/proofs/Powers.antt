-- A row is scaled by a power that is above 1e-12 or infinite: one over its root is from 0 to 2 ^ 21, so gains stay finite, and +0 stays +0. Assumes nothing.
use mathlib.Core.Path.{◌≡◌, refl, ap, ◌∙◌}
use Prim.Native.Nat.{ℕ, zero, suc, ◌*◌, ◌^◌, ◌≤◌, zero-le}
use native.Mathlib.Nat.{le_refl, le_trans, lt_of_lt_of_le, mul-le-mul_right, zero-mul}
use mathlib.Core.Bool.{Bool, true, false, cond, ◌||◌}
use mathlib.Core.List.{List, [], ◌∷◌, map, foldl}
use lib.Dec.{T, lit≤, lit<}
use lib.ListN.{length, get_or, length-map}
use lib.Ieee.{Float, nan, inf, fin, binary32, span, climb, size, odd, units, round, add, mul, div, lt, eq, le, fits, of_bits}
use lib.Ieee.Fits.{add-fits}
use lib.Ieee.Scale.{finite}
use Rattle.float_order.specs.Values.{+0, 1·0}
use Rattle.float_order.specs.Order.{square_of}
use Rattle.float_root.specs.Root.{sqrt_of}
use Rattle.row_hull.specs.HullRow.{least_row_power}
use Rattle.row_hull.specs.HullRow.{scaled}
use Rattle.float_bounds.proofs.Units.{units_of, mul_round}
use Rattle.float_bounds.proofs.Held.{held}
use Rattle.float_bounds.proofs.Size.{Mag, Most, mag_of, mag_max, mag_mul, div_most}
use Rattle.float_bounds.proofs.Compare.{above_least}
use Rattle.float_bounds.proofs.Root.{sqrt_val}
use Rattle.float_bounds.proofs.Order.{zero_val}
use Rattle.lists.proofs.Each.{each_imply, each_map, foldl_always}
use Rattle.theorem_rows.proofs.Places.{Row, row_more}
use Rattle.theorem_rows.proofs.Pairs.{L}

-- the gains of a hull row, before they are scaled
abbrev pub B60 : ℕ
B60 = 2 ^ 60 * L

-- the sum of squares is a value of 32 bits
power_fits : (p : Float) (row : List Float) → T (fits binary32 p) → T (fits binary32 (foldl (λ q g. add binary32 q (square_of g)) p row))
power_fits p row h = foldl_always (λ q. T (fits binary32 q)) (λ q g. add binary32 q (square_of g)) (λ q g k. add-fits binary32 q (square_of g)) row p h

-- ---- one over the root

or_left : (a b : Bool) → T a → T (a || b)
or_left true b h = tt
or_left false b h = absurd h

finite_root : (p : Float) → T (finite p) → T (fits binary32 p) → T (lt least_row_power p) → Most binary32 (div binary32 1·0 (sqrt_of binary32 p)) false (2 ^ 21 * L)
unfolding of_bits le
finite_root p ok fit above =
    let b = above_least {y = least_row_power} {Y = units_of binary32 least_row_power} (mag_max binary32 p ok fit) (record { has = (refl, refl) }) (lit< tt) (or_left (lt least_row_power p) (eq least_row_power p) above) in
    let r = sqrt_val fit b.val (lt_of_lt_of_le (lit< tt) b.least) in
    let R-ge : 2 ^ 129 ≤ r.R = r.least (2 ^ 129) (held binary32 1 129 (lit≤ tt)) (lit< tt) (le_trans (lit≤ tt) (mul-le-mul_right L b.least)) in
    let one : Most binary32 1·0 false L = record { X = L; val = record { has = (refl, refl) }; most = le_refl L } in
    div_most (2 ^ 21 * L) (2 ^ 129) one r.val R-ge (lit< tt) (held binary32 1 170 (lit≤ tt)) (lit< tt) (lit≤ tt)

inverse_root : (p : Float) → T (fits binary32 p) → T (lt least_row_power p) → Most binary32 (div binary32 1·0 (sqrt_of binary32 p)) false (2 ^ 21 * L)
unfolding of_bits lt
inverse_root nan fit above = absurd above
inverse_root (inf true) fit above = absurd above
inverse_root (inf false) fit above = unfold div sqrt_of in record { X = 0; val = zero_val; most = zero-le }
inverse_root (fin s m e) fit above = finite_root (fin s m e) tt fit above

-- ---- a scaled row is the row, or the row times a number from 0 to 2 ^ 21

pub scaled_by : (P : List Float → Type 0) (row : List Float) → P row → ((x : Float) → Most binary32 x false (2 ^ 21 * L) → P (map (λ g. mul binary32 g x) row)) → P (scaled row)
unfolding scaled fits
scaled_by P row h k = by (lt least_row_power power) (inverse_root power (power_fits +0 row tt))
  where
    power : Float
    power = foldl (λ p g. add binary32 p (square_of g)) +0 row

    inv : Float
    inv = div binary32 1·0 (sqrt_of binary32 power)

    by : (b : Bool) → (T b → Most binary32 inv false (2 ^ 21 * L)) → P (cond b (map (λ g. mul binary32 g inv) row) row)
    by true m = k inv (m tt)
    by false m = h

-- finite throughout
pub scaled_row : (row : List Float) → Row B60 row → Row (2 ^ 82 * L) (scaled row)
scaled_row row h =
    scaled_by (Row (2 ^ 82 * L)) row (row_more B60 (2 ^ 82 * L) (lit≤ tt) row h)
    (λ x k. each_map (λ g. Mag binary32 g (2 ^ 82 * L)) (λ g. mul binary32 g x) row
    (each_imply (λ g. Mag binary32 g B60) (λ g. Mag binary32 (mul binary32 g x) (2 ^ 82 * L)) (λ g m. mag_mul (2 ^ 82 * L) m (mag_of k) (held binary32 1 231 (lit≤ tt)) (lit< tt) (lit≤ tt)) row h))

-- as long as it was
pub scaled_length : (n : ℕ) (row : List Float) → length row ≡ n → length (scaled row) ≡ n
scaled_length n row e = scaled_by (λ r. length r ≡ n) row e (λ x _. length-map row (λ g. mul binary32 g x) ∙ e)

-- ---- +0 stays +0

none_rounded : round binary32 false 0 (2 ^ 149 * 2 ^ 149) ≡ +0
none_rounded = unfold round units odd size span climb in refl

zero_times : {x : Float} {B : ℕ} → Most binary32 x false B → mul binary32 +0 x ≡ +0
zero_times m = mul_round zero_val m.val ∙ ap (λ (n : ℕ). round binary32 false n (2 ^ 149 * 2 ^ 149)) (zero-mul m.X) ∙ none_rounded

map_zero : (f : Float → Float) → f +0 ≡ +0 → (l : List Float) (o : ℕ) → get_or l o nan ≡ +0 → get_or (map f l) o nan ≡ +0
map_zero f k [] o e = e
map_zero f k (a ∷ l) zero e = ap f e ∙ k
map_zero f k (a ∷ l) (suc o) e = map_zero f k l o e

pub scaled_zero : (o : ℕ) (row : List Float) → get_or row o nan ≡ +0 → get_or (scaled row) o nan ≡ +0
scaled_zero o row e = scaled_by (λ r. get_or r o nan ≡ +0) row e (λ x k. map_zero (λ g. mul binary32 g x) (zero_times k) row o e)
