-- Document 01, "A row" (Planar); source lines 80 to 93 (planar_spread) and 460 to 511 (the planar branch of gains).
-- A row is a gain for each of n places, n = min(outputs, buffer length). `set` beyond the end of a list changes nothing: the source's `if slot < n`.
-- Where a gain is a NaN, which only a layout made by hand has (crate theorem_rows), its sign and payload are the program's: every choice is a NaN, the only one that the logic has. Assumes nothing.
use Rattle.std.specs.Prelude.{ℕ, Bool, cond, not, ◌&&◌, List, length, replicate, from_bits, slice_index_or, slice_set, Float}
use mathlib.Core.List.{foldl}
use Rattle.std.specs.Float.{nan, binary32}
use Rattle.std.specs.Float.Ieee.{add, sub, neg, mul, div, lt, le}
use Rattle.lists.specs.Lists.{is_empty, first_that, last}
use Rattle.float_order.specs.Values.{+0, 1·0, abs, count32}
use Rattle.float_order.specs.Order.{max_of, clamp_of, square_of, powi4_of}
use Rattle.float_order.specs.Remainder.{rem_euclid_of}
use Rattle.float_root.specs.Root.{sqrt_of}
use Rattle.float_sine.specs.Pi.{tau32}
use Rattle.float_sine.specs.Sine.{sin32_of, cos32_of}
use Rattle.vector.specs.Operations.{Two as Pair, pair_dot_by}
use Rattle.vector.specs.Vector.{floats}
use Rattle.layout_planar.specs.declared.Law.{Law}
use Rattle.layout_planar.specs.declared.Law.TheVariants.{Inverse, Crossfade}
use Rattle.layout_planar.specs.declared.PlanarPair.{PlanarPair}
use Rattle.layout_planar.specs.Planar.{no_pair}
use Rattle.row_places.specs.Places.{add_at}
use Rattle.row_planar.specs.declared.PairGains.{PairGains}

-- ---- constants in 32 bits

-- PLANAR_MAX_ELEVATION, 0.0873. Origin: vbap.rs line 52.
abbrev pub planar_max_elevation : Float
planar_max_elevation = from_bits binary32 0x3db2_ca58

-- FRAC_PI_2, 1.5707964. Origin: std::f32::consts::FRAC_PI_2, vbap.rs lines 90, 91 and 488.
abbrev pub half_pi32 : Float
half_pi32 = from_bits binary32 0x3fc9_0fdb

-- INSIDE_EPS, 1e-6. Origin: vbap.rs line 57; how far past a pair's gap an azimuth is still inside it.
abbrev pub inside_eps : Float
inside_eps = from_bits binary32 0x3586_37bd

-- LEAST_PAIR_NORM, 1e-12. Origin: vbap.rs line 493; the norm of a pair's two gains has to be above it: else the row stays silent, and nothing is divided by it.
abbrev pub least_pair_norm : Float
least_pair_norm = from_bits binary32 0x2b8c_bccc

-- ---- planar: the first pair that contains the azimuth, else the last

unfoldable pub rel : Float → PlanarPair → Float
rel az p = rem_euclid_of binary32 (sub binary32 az p.start) tau32

unfoldable pub contains : Float → PlanarPair → Bool
contains az p = le (rel az p) (add binary32 p.gap inside_eps)

unfoldable pub chosen : Float → List PlanarPair → PlanarPair
chosen az pairs = first_that (contains az) pairs (last pairs no_pair)

-- the gains of a and b, before they are scaled
abbrev pub Two : Type 0
Two = PairGains

-- the direction times the inverse; nothing below +0
unfoldable pub by_inverse : Float → Float → Float → Float → Float → Two
by_inverse az m0 m1 m2 m3 =
    let p : Pair Float = record { x = sin32_of az; z = neg (cos32_of az) } in
    record {
      ga = max_of (pair_dot_by (floats binary32) (record { x = m0; z = m1 }) p) +0;
      gb = max_of (pair_dot_by (floats binary32) (record { x = m2; z = m3 }) p) +0;
    }

-- the fraction t of the gap, shaped: t⁴ ÷ (t⁴ + (1 − t)⁴)
unfoldable pub shaped : Float → Float
shaped t = let t4 = powi4_of t in div binary32 t4 (add binary32 t4 (powi4_of (sub binary32 1·0 t)))

-- cosine and sine of that part of a quarter turn; nothing below +0
unfoldable pub by_crossfade : Float → Float → Two
by_crossfade r g =
    let a = mul binary32 (shaped (clamp_of (div binary32 r g))) half_pi32 in
    record { ga = max_of (cos32_of a) +0; gb = max_of (sin32_of a) +0 }

unfoldable pub by_law : Float → PlanarPair → Law → Two
by_law az p (Inverse m0 m1 m2 m3) = by_inverse az m0 m1 m2 m3
by_law az p Crossfade = by_crossfade (rel az p) p.gap

-- the part of the power that goes to all speakers alike
unfoldable pub planar_spread : Float → Float
planar_spread el =
    let lo = planar_max_elevation in
    let t = clamp_of (div binary32 (sub binary32 (abs el) lo) (sub binary32 half_pi32 lo)) in
    square_of (sin32_of (mul binary32 t half_pi32))

-- √((1 − w)·g·g + d2), in one slot; with d2 = w ÷ slots in each of the slots
unfoldable pub spread_gain : Float → Float → Float → Float
spread_gain w d2 g = sqrt_of binary32 (add binary32 (mul binary32 (mul binary32 (sub binary32 1·0 w) g) g) d2)

unfoldable pub spread_at : Float → Float → List Float → ℕ → List Float
spread_at w d2 row s = slice_set row s (spread_gain w d2 (slice_index_or row s nan))

unfoldable pub spread : Float → List ℕ → List Float → List Float
spread w slots row =
    let d2 = div binary32 w (count32 (length slots)) in
    cond (lt +0 w && not (is_empty slots)) (foldl (spread_at w d2) row slots) row

-- a's gain, then b's added, over their root sum of squares; a norm of 1e-12 or less stays silent
unfoldable pub pair_row : ℕ → Float → PlanarPair → Two → List ℕ → List Float
pair_row n el p g slots =
    let norm = sqrt_of binary32 (add binary32 (square_of g.ga) (square_of g.gb)) in
    let row = add_at (slice_set (replicate n +0) p.a (div binary32 g.ga norm)) p.b (div binary32 g.gb norm) in
    cond (lt least_pair_norm norm) (spread (planar_spread el) slots row) (replicate n +0)

unfoldable pub planar_row : ℕ → Float → Float → List PlanarPair → List ℕ → List Float
planar_row n az el pairs slots =
    let p = chosen az pairs in
    let row = pair_row n el p (by_law az p p.law) slots in
    cond (is_empty pairs) (replicate n +0) row
