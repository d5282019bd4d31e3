-- Document 01, "Layout", the paragraph "Planar"; source lines 219 to 256: build_planar. Assumes nothing.
use Rattle.std.specs.Prelude.{ℕ, ◌+◌, ◌%◌, cond, ◌&&◌, List, map, length, ◌==◌, from_bits, slice_index_or, Float}
use Rattle.std.proofs.Math.Option.{Option, none, some}
use Rattle.std.specs.Float.{nan, binary32, binary64}
use Rattle.std.specs.Float.Ieee.{sub, neg, div, lt}
use Rattle.lists.specs.Lists.{range, collect}
use Rattle.float_order.specs.Values.{+0, abs}
use Rattle.float_widths.specs.Narrow.{narrow_of}
use Rattle.float_order.specs.Remainder.{rem_euclid_of}
use Rattle.float_sine.specs.Pi.{two_pi}
use Rattle.float_sine.specs.Sine.{sin_of, cos_of}
use Rattle.float_arctangent.specs.Arctangent.{atan2_of}
use Rattle.vector.specs.Operations.{Two, pair_determinant_by, pair_rows_by}
use Rattle.vector.specs.Vector.{x, z, floats}
use Rattle.vector.specs.declared.Speaker.{Speaker}
use Rattle.angle_sort.specs.declared.Spot.{Spot}
use Rattle.angle_sort.specs.Order.{sorted_of}
use Rattle.layout_planar.specs.declared.Law.{Law}
use Rattle.layout_planar.specs.declared.Law.TheVariants.{Inverse, Crossfade}
use Rattle.layout_planar.specs.declared.PlanarPair.{PlanarPair}

-- ---- tolerances

-- 1e-9 in 64 bits. Origin: vbap.rs line 232; below it the second gap of two speakers is the whole circle.
abbrev pub least_second_gap : Float
least_second_gap = from_bits binary64 0x3e11_2e0b_e826_d695

-- 1e-9 in 64 bits. Origin: vbap.rs line 240; guards the division by a pair's determinant.
abbrev pub least_pair_determinant : Float
least_pair_determinant = from_bits binary64 0x3e11_2e0b_e826_d695

-- 1e-6 in 64 bits. Origin: vbap.rs line 233; coincident speakers.
abbrev pub coincident : Float
coincident = from_bits binary64 0x3eb0_c6f7_a0b5_ed8d

-- MAX_VBAP_GAP, just under pi: the 32-bit pi, 4049_0fdb, less 1e-3, 3a83_126f, rounded to 4048_ff79. Origin: vbap.rs line 55.
abbrev pub max_vbap_gap : Float
max_vbap_gap = from_bits binary32 0x4048_ff79

-- ---- the ring: azimuth and slot, sorted ascending, equals in slot order

unfoldable pub spot_of : Speaker → Spot
spot_of s = record { angle = atan2_of (x s.dir) (neg (z s.dir)); number = s.slot }

unfoldable pub ring : List Speaker → List Spot
ring act = sorted_of (map spot_of act)

-- ---- pairs

-- from the i-th spot of m to the next, going positive; of exactly two the second is 2·pi when below 1e-9
unfoldable pub gap_at : ℕ → ℕ → Float → Float → Float
gap_at m i azA azB =
    let gap = rem_euclid_of binary64 (sub binary64 azB azA) two_pi in
    cond (m == 2 && i == 1 && lt gap least_second_gap) two_pi gap

-- the rows of the inverse of the matrix with the columns (ax, az) and (bx, bz), [bz, −bx, −az, ax] over the determinant, narrowed; the crossfade where that is next to none
unfoldable pub inverse_law : Float → Float → Float → Float → Law
inverse_law ax az bx bz =
    let a : Two Float = record { x = ax; z = az } in
    let b : Two Float = record { x = bx; z = bz } in
    let det = pair_determinant_by (floats binary64) a b in
    let rows = pair_rows_by (floats binary64) a b in
    let entry : Float → Float = λ c. narrow_of (div binary64 c det) in
    cond (lt (abs det) least_pair_determinant) Crossfade
    (Inverse (entry rows.first.x) (entry rows.first.z) (entry rows.second.x) (entry rows.second.z))

unfoldable pub law_of : Float → Float → Float → Law
law_of azA azB gap =
    cond (lt (narrow_of gap) max_vbap_gap) (inverse_law (sin_of azA) (neg (cos_of azA)) (sin_of azB) (neg (cos_of azB))) Crossfade

-- the pair from spot s to spot t; a gap below 1e-6 makes none
unfoldable pub pair_of : Float → Spot → Spot → Option PlanarPair
pair_of g s t =
    cond (lt g coincident) none
    (some (record { start = narrow_of s.angle; gap = narrow_of g; a = s.number; b = t.number; law = law_of s.angle t.angle g }))

abbrev pub spot_at : List Spot → ℕ → Spot
spot_at l i = slice_index_or l i (record { angle = nan; number = 0 })

-- from the i-th spot to the next, round the ring
unfoldable pub pair_at : List Spot → ℕ → Option PlanarPair
pair_at l i =
    let s = spot_at l i in
    let t = spot_at l ((i + 1) % length l) in
    pair_of (gap_at (length l) i s.angle t.angle) s t

unfoldable pub pairs_of : List Speaker → List PlanarPair
pairs_of act = collect (pair_at (ring act)) (range (length act))

-- what an unused place of the array of pairs holds
abbrev pub no_pair : PlanarPair
no_pair = record { start = +0; gap = +0; a = 0; b = 0; law = Crossfade }
