-- Document 01, "Proving ground": the cases marked *, in its words and order, as one statement about one table of the definitions. It is proved by `shown` of proofs/Shown.antt. Assumes nothing.
use Rattle.std.specs.Prelude.{ℕ, ◌≡◌, false, List, [], ◌∷◌, ◌++◌, pos, negsuc, length, Float}
use Rattle.std.specs.Float.{fin, binary32, binary64}
use Rattle.std.specs.Float.Ieee.{neg, of_int, of_bits, to_bits, to_unsigned}
use Rattle.float_order.specs.Values.{+0, 1·0, 2·0}
use Rattle.float_widths.specs.Narrow.{narrow_of}
use Rattle.float_root.specs.Root.{sqrt_of}
use Rattle.layout_planar.specs.declared.Law.TheVariants.{Crossfade}
use Rattle.layout_record.specs.Shape.{silent, mono, planar}
use Rattle.layout_record.specs.Malformed.{malformed_of}
use Rattle.layout_record.specs.declared.VbapPanner.{VbapPanner}
use Rattle.layout_new.specs.Layout.{active, layout_of, panner_of}
use Rattle.row_gains.specs.Gains.{row_of, gains_of}
use Rattle.mix_ramp.specs.Ramp.{ramp_add_of}
use Rattle.mix_gain.specs.Mixed.{normalized_lerp_gain_of}
use Rattle.session_history.specs.Calls.{place, take_back}
use Rattle.session_open.specs.Open.{fresh}
use Rattle.session_calls.specs.Session.{number_of, after_all}
use Rattle.float_sine.specs.Pi.{tau32}

-- position F is (0, 0, −1)
abbrev pub F : List Float
F = +0 ∷ +0 ∷ neg 1·0 ∷ []

-- (0, 0, 1e-6) and (0, 0, 1e-5), in 32 bits
abbrev pub too_short : List Float
too_short = +0 ∷ +0 ∷ of_bits binary32 0x3586_37bd ∷ []

abbrev pub long_enough : List Float
long_enough = +0 ∷ +0 ∷ of_bits binary32 0x3727_c5ac ∷ []

-- 0.25: 3e80_0000; 0.5: 3f00_0000; 0.75: 3f40_0000
abbrev pub 0·25 : Float
0·25 = fin false 1 (negsuc 1)

abbrev pub 0·5 : Float
0·5 = fin false 1 (negsuc 0)

abbrev pub 0·75 : Float
0·75 = fin false 3 (negsuc 1)

pub record Table : Type 0 where
  -- No positions: silent, buffer untouched.
  pub nothing_silent : (lfe : List ℕ) → (layout_of [] lfe).shape ≡ silent
  pub nothing_untouched : (lfe : List ℕ) (az el : Float) (buffer : List Float) → gains_of (layout_of [] lfe) az el buffer ≡ buffer
  -- F alone: every row is 1. As LFE: 0.
  pub F-mono : (layout_of F []).shape ≡ mono 0
  pub F-alone : (az el : Float) → row_of (layout_of F []) 1 az el ≡ 1·0 ∷ []
  pub F-as-LFE : (az el : Float) → row_of (layout_of F (0 ∷ [])) 1 az el ≡ +0 ∷ []
  -- (0, 0, 1e-6) is dropped; (0, 0, 1e-5) is active.
  pub dropped : active too_short [] ≡ []
  pub stays : length (active long_enough []) ≡ 1
  -- F, F: one pair from slot 1 to slot 0, gap 2·pi, crossfade; row at (0, 0) is 0, 1. Into a buffer of one: 0.
  pub F-F :
      (layout_of (F ++ F) []).shape
      ≡ planar (record { start = +0; gap = tau32; a = 1; b = 0; law = Crossfade } ∷ []) (0 ∷ 1 ∷ [])
  pub F-F-row : row_of (layout_of (F ++ F) []) 2 +0 +0 ≡ +0 ∷ 1·0 ∷ []
  pub F-F-one : (held : Float) → gains_of (layout_of (F ++ F) []) +0 +0 (held ∷ []) ≡ +0 ∷ []
  -- F, F, F: planar, no pair, silent.
  pub F-F-F : (layout_of (F ++ F ++ F) []).shape ≡ planar [] (0 ∷ 1 ∷ 2 ∷ [])
  pub F-F-F-rows : (az el : Float) → row_of (layout_of (F ++ F ++ F) []) 3 az el ≡ +0 ∷ +0 ∷ +0 ∷ []
  -- √2 in 32 bits is hexadecimal 3FB504F3. 16,777,217 narrows to 16,777,216; 16,777,219 to 16,777,220.
  pub root_of_two : to_bits binary32 (sqrt_of binary32 2·0) ≡ 0x3fb5_04f3
  pub narrows_down : to_unsigned 32 (narrow_of (of_int binary64 (pos 16_777_217))) ≡ 16_777_216
  pub narrows_up : to_unsigned 32 (narrow_of (of_int binary64 (pos 16_777_219))) ≡ 16_777_220
  -- Ramp 0 to 1 over samples 1, 1 into 0, 0: 0.5, 1. Mixed gain of 0.25, 0.75, dot 0, t 0: 0.25.
  pub ramp : ramp_add_of (+0 ∷ +0 ∷ []) (1·0 ∷ 1·0 ∷ []) +0 1·0 ≡ 0·5 ∷ 1·0 ∷ []
  pub mixed_gain : normalized_lerp_gain_of 0·25 0·75 +0 +0 ≡ 0·25
  -- Fresh, take back: 7. Place, take back: equal to fresh. Of every layout that is not malformed, with one source; F's is one.
  pub taken_from_fresh : (v : VbapPanner) → malformed_of v ≡ false → number_of (fresh v 1) (take_back 0) ≡ 7
  pub placed_and_taken :
      (v : VbapPanner) → malformed_of v ≡ false
      → (az el : Float) → after_all (fresh v 1) (place 0 az el ∷ take_back 0 ∷ []) ≡ fresh v 1
  pub F-is-one : malformed_of (panner_of F []) ≡ false
