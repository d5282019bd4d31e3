-- The table is shown: the cases of one layout by computing the definitions, those of a session by the laws of its calls. Assumes nothing.
use Prim.Native.Nat.{ℕ, ◌*◌}
use mathlib.Core.Path.{◌≡◌, refl, ap, ◌∙◌}
use mathlib.Core.Bool.{true, false}
use mathlib.Core.List.{[], ◌∷◌, ◌++◌, flat_map}
use native.Mathlib.Nat.{zero-min}
use native.Mathlib.Omega.{arith}
use lib.Ieee.{Float, size, round, neg, add, sub, mul, div, rem, lt, eq, le, of_int, of_bits, to_bits, to_unsigned, is_nan}
use Rattle.lists.specs.Lists.{from, range, collect, every, any, is_empty, first_that, last, filled, part}
use Rattle.float_order.specs.Values.{+0, 1·0, abs, sign_bit, is_finite}
use Rattle.float_widths.specs.Narrow.{narrow_of}
use Rattle.float_root.specs.Root.{sqrt_of}
use Rattle.float_order.specs.Order.{max_of, clamp_of, square_of, powi4_of}
use Rattle.float_order.specs.Remainder.{rem_euclid_of}
use Rattle.float_sine.specs.Series.{coefficients, sum_of, factorial}
use Rattle.float_sine.specs.Sine.{sine_coefficients, cosine_coefficients, S, C, remainder, quotient, nearest_whole, quarter, reduced, mod4, sine_by, cosine_by, sin_of, cos_of, sin32_of, cos32_of}
use Rattle.float_arctangent.specs.Arctangent.{arctangent_coefficients, halved_of, eightfold_of, atan_of, ratio_of, first_quadrant_of, with_sign_of_x, with_sign_of_y, atan2_of}
use Rattle.vector.specs.Vector.{dot_in, dot_of, over_of, length_of, unit_of}
use Rattle.vector.specs.declared.Speaker.{Speaker}
use Rattle.vector.specs.Speakers.{slots_of}
use Rattle.angle_sort.specs.declared.Spot.{Spot}
use Rattle.angle_sort.specs.Order.{insert_of, sorted_of}
use Rattle.layout_planar.specs.declared.Law.TheVariants.{Crossfade}
use Rattle.layout_planar.specs.declared.PlanarPair.{PlanarPair}
use Rattle.layout_planar.specs.Planar.{spot_of, ring, gap_at, law_of, pair_of, pair_at, pairs_of}
use Rattle.layout_record.specs.Shape.{Shape, planar}
use Rattle.layout_record.specs.Panner.{kind_in, mono_in, pairs_in, slots_in, hull_in, laid, shape_in, layout_in}
use Rattle.layout_record.specs.Malformed.{counts_over, used_slots, used_points, numbers_out, malformed_of}
use Rattle.layout_record.specs.declared.VbapPanner.{VbapPanner}
use Rattle.layout_new.specs.Layout.{outputs_of, speaker_at, active, level_at, level, shape_of, layout_of, panner_of}
use Rattle.row_places.specs.Places.{add_at}
use Rattle.row_planar.specs.PlanarRow.{Two, rel, contains, chosen, shaped, by_crossfade, by_law, planar_spread, spread, pair_row, planar_row}
use Rattle.row_gains.specs.Gains.{finite_or0, row_in, row_of, gains_of}
use Rattle.mix_ramp.specs.Ramp.{ramp_gain, ramp_add_of}
use Rattle.mix_gain.specs.Mixed.{norm_sq_of, normalized_lerp_gain_of}
use Rattle.mix_block.specs.Limits.{most_sources}
use Rattle.session_history.specs.Calls.{place, take_back}
use Rattle.session_history.specs.History.{depth}
use Rattle.session_open.specs.Open.{fresh}
use Rattle.session_calls.specs.Session.{malformed_by, malformed_session, number_of, after_all}
use Rattle.session_calls.proofs.Refusals.{on_source_lem}
use Rattle.lists.proofs.Rows.{get_d_fill}
use Rattle.theorem_take_back.proofs.PlacedBack.{placed_back}
use Rattle.float_sine.specs.Pi.{tau32}
use Rattle.theorem_cases.specs.Table.{F, Table}

-- ---- F as an active speaker in slot i: level, and straight ahead

abbrev pub at : ℕ → Speaker
at i = record { slot = i; dir = F }

abbrev spot : ℕ → Spot
spot i = record { angle = +0; number = i }

pub F-level : (i : ℕ) → level (at i) ≡ true
unfolding level level_at abs sin_of sine_by mod4 reduced quarter nearest_whole quotient remainder S C sine_coefficients cosine_coefficients coefficients factorial sum_of round add sub neg mul div rem of_int of_bits le lt eq
F-level i = refl

F-spot : (i : ℕ) → spot_of (at i) ≡ spot i
unfolding spot_of atan2_of with_sign_of_x with_sign_of_y first_quadrant_of ratio_of atan_of eightfold_of halved_of arctangent_coefficients coefficients sum_of abs sign_bit sqrt_of round add sub neg mul div eq le of_bits
F-spot i = refl

-- ---- F, F

abbrev pair : PlanarPair
pair = record { start = +0; gap = tau32; a = 1; b = 0; law = Crossfade }

abbrev shape_of_two : Shape
shape_of_two = planar (pair ∷ []) (0 ∷ 1 ∷ [])

pub two_active : active (F ++ F) [] ≡ at 0 ∷ at 1 ∷ []
unfolding active collect range from outputs_of speaker_at any unit_of length_of dot_of dot_in over_of is_finite part sqrt_of round add mul div neg le lt eq of_bits
two_active = refl

two_ring : ring (at 0 ∷ at 1 ∷ []) ≡ spot 0 ∷ spot 1 ∷ []
unfolding ring sorted_of insert_of lt
two_ring = rw (F-spot 0, F-spot 1) refl

two_pairs : pairs_of (at 0 ∷ at 1 ∷ []) ≡ pair ∷ []
unfolding pairs_of collect range from pair_at pair_of gap_at law_of rem_euclid_of narrow_of round add sub neg rem lt of_bits
two_pairs = rw two_ring refl

two_shape : shape_of (at 0 ∷ at 1 ∷ []) ≡ shape_of_two
unfolding shape_of every slots_of
two_shape = rw (F-level 0, F-level 1, two_pairs) refl

F-F : (layout_of (F ++ F) []).shape ≡ shape_of_two
unfolding layout_of
F-F = ap shape_of two_active ∙ two_shape

-- ---- its row at (0, 0)

abbrev ahead : Two
ahead = record { ga = 1·0; gb = +0 }

ahead_is : by_law +0 pair Crossfade ≡ ahead
unfolding by_law by_crossfade rel rem_euclid_of shaped powi4_of square_of clamp_of max_of cos32_of sin32_of narrow_of cos_of sin_of sine_by cosine_by mod4 reduced quarter nearest_whole quotient remainder S C sine_coefficients cosine_coefficients coefficients factorial sum_of round add sub neg mul div rem of_int of_bits lt eq is_nan
ahead_is = refl

no_spread : planar_spread +0 ≡ +0
unfolding planar_spread square_of clamp_of abs sin32_of narrow_of sin_of sine_by mod4 reduced quarter nearest_whole quotient remainder S C sine_coefficients cosine_coefficients coefficients factorial sum_of round add sub neg mul div rem of_int of_bits lt eq
no_spread = refl

two_chosen : (n : ℕ) → row_in n +0 +0 shape_of_two ≡ pair_row n +0 pair ahead (0 ∷ 1 ∷ [])
unfolding row_in planar_row is_empty chosen first_that last contains rel rem_euclid_of round add sub neg rem lt le eq of_bits
two_chosen n = ap (λ g. pair_row n +0 pair g (0 ∷ 1 ∷ [])) ahead_is

into_two : pair_row 2 +0 pair ahead (0 ∷ 1 ∷ []) ≡ +0 ∷ 1·0 ∷ []
unfolding pair_row add_at spread square_of sqrt_of is_empty round add mul div lt of_bits
into_two = rw no_spread refl

into_one : pair_row 1 +0 pair ahead (0 ∷ 1 ∷ []) ≡ +0 ∷ []
unfolding pair_row add_at spread square_of sqrt_of is_empty round add mul div lt of_bits
into_one = rw no_spread refl

two_row : (n : ℕ) → row_of (layout_of (F ++ F) []) n +0 +0 ≡ pair_row n +0 pair ahead (0 ∷ 1 ∷ [])
unfolding row_of finite_or0 is_finite
two_row n = ap (row_in n +0 +0) F-F ∙ two_chosen n

F-F-row : row_of (layout_of (F ++ F) []) 2 +0 +0 ≡ +0 ∷ 1·0 ∷ []
F-F-row = two_row 2 ∙ into_two

F-F-one : (held : Float) → gains_of (layout_of (F ++ F) []) +0 +0 (held ∷ []) ≡ +0 ∷ []
unfolding gains_of layout_of outputs_of
F-F-one held = ap (λ row. row ++ []) (two_row 1 ∙ into_one)

-- ---- F, F, F

three_active : active (F ++ F ++ F) [] ≡ at 0 ∷ at 1 ∷ at 2 ∷ []
unfolding active collect range from outputs_of speaker_at any unit_of length_of dot_of dot_in over_of is_finite part sqrt_of round add mul div neg le lt eq of_bits
three_active = refl

three_ring : ring (at 0 ∷ at 1 ∷ at 2 ∷ []) ≡ spot 0 ∷ spot 1 ∷ spot 2 ∷ []
unfolding ring sorted_of insert_of lt
three_ring = rw (F-spot 0, F-spot 1, F-spot 2) refl

three_pairs : pairs_of (at 0 ∷ at 1 ∷ at 2 ∷ []) ≡ []
unfolding pairs_of collect range from pair_at pair_of gap_at rem_euclid_of round add sub neg rem lt of_bits
three_pairs = rw three_ring refl

three_shape : shape_of (at 0 ∷ at 1 ∷ at 2 ∷ []) ≡ planar [] (0 ∷ 1 ∷ 2 ∷ [])
unfolding shape_of every slots_of
three_shape = rw (F-level 0, F-level 1, F-level 2, three_pairs) refl

F-F-F : (layout_of (F ++ F ++ F) []).shape ≡ planar [] (0 ∷ 1 ∷ 2 ∷ [])
unfolding layout_of
F-F-F = ap shape_of three_active ∙ three_shape

F-F-F-rows : (az el : Float) → row_of (layout_of (F ++ F ++ F) []) 3 az el ≡ +0 ∷ +0 ∷ +0 ∷ []
unfolding row_of row_in planar_row is_empty
F-F-F-rows az el = ap (row_in 3 (finite_or0 az) (finite_or0 el)) F-F-F

-- ---- a session with one source

fresh_formed : (v : VbapPanner) → malformed_of v ≡ false → malformed_session (fresh v 1) ≡ false
unfolding fresh malformed_by any
fresh_formed v formed = rw formed refl

taken_from_fresh : (v : VbapPanner) → malformed_of v ≡ false → number_of (fresh v 1) (take_back 0) ≡ 7
unfolding fresh number_of
taken_from_fresh v formed = on_source_lem (fresh v 1) 0 7 (fresh_formed v formed) refl

placed_in_fresh : (v : VbapPanner) → malformed_of v ≡ false → (az el : Float) → number_of (fresh v 1) (place 0 az el) ≡ 0
unfolding fresh number_of
placed_in_fresh v formed az el = on_source_lem (fresh v 1) 0 0 (fresh_formed v formed) refl

-- every place of a fresh session holds +0, so the two that are written and freed do
placed_and_taken : (v : VbapPanner) → malformed_of v ≡ false → (az el : Float) → after_all (fresh v 1) (place 0 az el ∷ take_back 0 ∷ []) ≡ fresh v 1
unfolding fresh
placed_and_taken v formed az el =
    placed_back (fresh v 1) 0 az el (placed_in_fresh v formed az el) (omega arith) (get_d_fill [] (most_sources * (depth * 2)) 0 +0) (get_d_fill [] (most_sources * (depth * 2)) 1 +0)

-- ---- the table

pub shown : Table
unfolding from range collect any filled part is_finite sqrt_of dot_in dot_of over_of length_of unit_of kind_in mono_in pairs_in slots_in hull_in laid shape_in layout_in counts_over used_slots used_points numbers_out malformed_of outputs_of speaker_at active shape_of layout_of panner_of finite_or0 row_in row_of gains_of narrow_of max_of clamp_of ramp_add_of ramp_gain normalized_lerp_gain_of norm_sq_of size round neg add sub mul div lt eq le is_nan of_int of_bits to_bits to_unsigned flat_map
shown =
    record {
      nothing_silent = λ lfe. refl;
      nothing_untouched = λ lfe az el buffer. rw zero-min refl;
      F-mono = refl;
      F-alone = λ az el. refl;
      F-as-LFE = λ az el. refl;
      dropped = refl;
      stays = refl;
      F-F = F-F;
      F-F-row = F-F-row;
      F-F-one = F-F-one;
      F-F-F = F-F-F;
      F-F-F-rows = F-F-F-rows;
      root_of_two = refl;
      narrows_down = refl;
      narrows_up = refl;
      ramp = refl;
      mixed_gain = refl;
      taken_from_fresh = taken_from_fresh;
      placed_and_taken = placed_and_taken;
      F-is-one = refl;
    }
