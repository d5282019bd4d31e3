-- `ActiveSpeakers::all_level` meets its contract: std's test of all is the definition's, and the height that it compares with is the sine of PLANAR_MAX_ELEVATION, by computation. Assumes nothing.
use Rattle.std.proofs.Common.{◌≡◌, Bool, List, refl, sym, ap, ◌∙◌, rules}
use borrow.Author.Tests.{tests}
use lib.Ieee.{Float, le, binary64, round, add, sub, neg, mul, div, rem, of_int, of_bits}
use Rattle.std.proofs.lemmas.Iterator.{YieldsList-from_slice}
use Rattle.std.proofs.lemmas.Iterator.Search.{all_from_yields_List}
use Rattle.lists.specs.Lists.{every}
use Rattle.float_order.specs.Values.{abs}
use Rattle.float_sine.specs.Series.{coefficients, sum_of, factorial}
use Rattle.float_sine.specs.Sine.{S, C, sine_coefficients, cosine_coefficients, remainder, quotient, nearest_whole, quarter, reduced, mod4, sine_by, sin_of}
use Rattle.layout_fan.proofs.Chained.{all_every}
use Rattle.vector.specs.Vector.{y}
use Rattle.vector.specs.declared.Speaker.{Speaker}
use Rattle.layout_new.specs.Layout.{level, level_at, planar_max_elevation}
use Rattle.layout_new.proofs.active.ActiveSpeakers.all_level.Goals as goal

-- PLANAR_MAX_HEIGHT is the sine of PLANAR_MAX_ELEVATION, by computation
abbrev maxHeight : Float
maxHeight = of_bits binary64 0x3fb6_5207_497a_f47e

height-origin : sin_of planar_max_elevation ≡ maxHeight
unfolding sin_of sine_by mod4 reduced quarter nearest_whole quotient remainder S C sine_coefficients cosine_coefficients coefficients factorial sum_of round add sub neg mul div rem of_int of_bits
height-origin = refl

-- the test as the code makes it
abbrev low : Speaker → Bool
low s = le (abs (y s.dir)) maxHeight

low-level : (l : List Speaker) → every low l ≡ every level l
unfolding level level_at
low-level l = ap (λ (h : Float). every (λ s. le (abs (y s.dir)) h) l) (sym height-origin)

pub returns : goal.returns
unfolding of_bits
returns c =
    let l = c.used.result.now in
    all_from_yields_List low _ _ _ c.all.ensures.ran (YieldsList-from_slice l cc) (λ x r q k. search (rules, tests))
    ∙ all_every low l ∙ low-level l ∙ ap (every level) c.used.ensures.are
