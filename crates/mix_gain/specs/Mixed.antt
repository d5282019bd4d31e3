-- Document 01, "The ramp and the mixed gain follow S"; source lines 143 to 153: normalized_lerp_gain.
-- Where the gain is a NaN, its sign and payload are the program's: every choice is a NaN, the only one that the logic has. Assumes nothing.
use Rattle.std.specs.Prelude.{Float}
use Rattle.std.specs.Float.{binary32}
use Rattle.std.specs.Float.Ieee.{add, sub, mul, div, of_bits}
use Rattle.float_order.specs.Values.{1·0, 2·0}
use Rattle.float_order.specs.Order.{max_of, clamp_of}
use Rattle.float_root.specs.Root.{sqrt_of}

-- LEAST_MIX_NORM_SQ, 1e-12. Origin: vbap.rs line 152; the squared norm of a mix is raised to it, so that nothing is divided by the root of 0.
abbrev pub least_mix_norm_sq : Float
least_mix_norm_sq = of_bits binary32 0x2b8c_bccc

-- (1 − t)·(1 − t) + t·t + 2·t·(1 − t)·dot, dot clamped
unfoldable pub norm_sq_of : Float → Float → Float
norm_sq_of t dot =
    let u = sub binary32 1·0 t in
    let ends = add binary32 (mul binary32 u u) (mul binary32 t t) in
    add binary32 ends (mul binary32 (mul binary32 (mul binary32 2·0 t) u) (clamp_of dot))

-- the gain between two rows' gains at t, clamped, over the root of that
unfoldable pub normalized_lerp_gain_of : Float → Float → Float → Float → Float
normalized_lerp_gain_of from to dot at =
    let t = clamp_of at in
    div binary32 (add binary32 from (mul binary32 (sub binary32 to from) t)) (sqrt_of binary32 (max_of (norm_sq_of t dot) least_mix_norm_sq))
