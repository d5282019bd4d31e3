-- Document 01, "Layout", first paragraph, and refusals 1, 2 and 4 of "Returned numbers"; source lines 189 to 212 and 364 to 439: VbapPanner::new, build_hull.
-- Assumes nothing.
use Rattle.std.specs.Prelude.{ℕ, ◌/◌, ◌%◌, Bool, false, not, cond, List, [], ◌∷◌, map, eqb, ltb, length, Option, None, Some, Result, Ok, Err, Float}
use Rattle.std.proofs.Math.Option as maybe
use Rattle.std.proofs.Math.Option.{none, some}
use Rattle.std.specs.Float.{binary32}
use Rattle.std.specs.Float.Ieee.{le, of_bits}
use Rattle.lists.specs.Lists.{range, between, collect, every, member, part}
use Rattle.float_order.specs.Values.{abs}
use Rattle.float_widths.specs.Narrow.{narrow_of}
use Rattle.float_sine.specs.Sine.{sin_of}
use Rattle.vector.specs.Vector.{Vector, y, unit_of}
use Rattle.vector.specs.declared.Speaker.{Speaker}
use Rattle.vector.specs.Speakers.{slots_of, dirs_of}
use Rattle.layout_planar.specs.Planar.{pairs_of}
use Rattle.layout_hull.specs.Triplets.{triplets_of}
use Rattle.layout_closing.specs.Closing.{final_points, overfull}
use Rattle.layout_neighbours.specs.Neighbours.{neighbours_of}
use Rattle.layout_record.specs.declared.VbapPanner.{VbapPanner}
use Rattle.layout_record.specs.Shape.{HullShape, numbers, Shape, silent, mono, planar, hull, Layout, imaginary_in}
use Rattle.layout_record.specs.Panner.{laid, no_panner}
use Rattle.layout_new.specs.declared.NewPanner.{NewPanner}
use Rattle.refusals.specs.declared.Refusal.{Refusal}
use Rattle.refusals.specs.Refusals.{number_of}

-- ---- active speakers. `Option` is Rust's, as `unit` answers it; `maybe.Option` is the one that `collect` of crate lists takes.

-- positions: three numbers a speaker
unfoldable pub outputs_of : List Float → ℕ
outputs_of positions = length positions / 3

abbrev pub in_slot : ℕ → Option Vector → maybe.Option Speaker
in_slot i None = none
in_slot i (Some u) = some (record { slot = i; dir = u })

-- a slot that is not LFE, where `unit` accepts its position
unfoldable pub speaker_at : List Float → List ℕ → ℕ → maybe.Option Speaker
speaker_at positions lfe i = cond (member i lfe) none (in_slot i (unit_of (part 3 positions i)))

unfoldable pub active : List Float → List ℕ → List Speaker
active positions lfe = collect (speaker_at positions lfe) (range (outputs_of positions))

-- ---- the hull of a layout

unfoldable pub build_hull_of : List Speaker → HullShape
build_hull_of act =
    let real = dirs_of act in
    let pts = final_points real in
    let ts = triplets_of pts in
    record {
      out = slots_of act;
      dirs = map (map narrow_of) real;
      tris = ts;
      imag = map (neighbours_of (slots_of act) (map numbers ts)) (between (length real) (length pts));
    }

-- ---- the layout: none active is silent; one, mono; all level, planar; else hull

-- PLANAR_MAX_ELEVATION, 0.0873 in 32 bits. Origin: vbap.rs line 52.
abbrev pub planar_max_elevation : Float
planar_max_elevation = of_bits binary32 0x3db2_ca58

-- |height| ≤ sine of 0.0873
unfoldable pub level_at : Vector → Bool
level_at u = le (abs (y u)) (sin_of planar_max_elevation)

unfoldable pub level : Speaker → Bool
level s = level_at s.dir

unfoldable pub shape_of : List Speaker → Shape
shape_of [] = silent
shape_of (s ∷ []) = mono s.slot
shape_of (s ∷ (t ∷ l)) =
    let act = s ∷ t ∷ l in
    cond (every level act) (planar (pairs_of act) (slots_of act)) (hull (build_hull_of act))

unfoldable pub layout_of : List Float → List ℕ → Layout
layout_of positions lfe = record { outputs = outputs_of positions; shape = shape_of (active positions lfe) }

-- ---- refusals 1, 2 and 4, in rising order; 0 is accepted. (3 belongs to open.) Origin of 3 numbers, 40 positions and the numbers: document 01, "Returned numbers".

-- a triplet list built on the way has more than 80 entries
unfoldable pub too_many_triplets : List Speaker → Bool
too_many_triplets [] = false
too_many_triplets (s ∷ []) = false
too_many_triplets (s ∷ (t ∷ l)) =
    let act = s ∷ t ∷ l in
    cond (every level act) false (overfull (dirs_of act))

unfoldable pub new_refusal : List Float → List ℕ → ℕ
new_refusal positions lfe =
    cond (not (eqb (length positions % 3) 0)) 1
    (cond (ltb 40 (outputs_of positions)) 2
    (cond (too_many_triplets (active positions lfe)) 4 0))

-- ---- the answer of `new`: 0 or the refusal's number, the layout, and how many imaginary points were made

pub record NewAnswer : Type 0 where
  pub number : ℕ
  pub panner : VbapPanner
  pub imaginary : ℕ

-- as a Result gives it
abbrev pub new_answer : Result NewPanner Refusal → NewAnswer
new_answer (Ok made) = record { number = 0; panner = made.panner; imaginary = made.imaginary }
new_answer (Err why) = record { number = number_of why; panner = no_panner; imaginary = 0 }

-- the record that VbapPanner::new makes
unfoldable pub panner_of : List Float → List ℕ → VbapPanner
panner_of positions lfe = laid (layout_of positions lfe)

-- beside a refusal the record is all 0, +0 and the crossfade, and the count 0
unfoldable pub new_of : List Float → List ℕ → NewAnswer
new_of positions lfe =
    let why = new_refusal positions lfe in
    cond (eqb why 0)
    (record { number = 0; panner = panner_of positions lfe; imaginary = imaginary_in (layout_of positions lfe).shape })
    (record { number = why; panner = no_panner; imaginary = 0 })
