-- Document 01, "Layout", and "The buyer's note on promises" ("a layout from open gives no NaN"): what is true of every layout that `new` makes.
-- The statements, at the end: `LayoutSound` is proved by `layout_sound`, `PannerNoNan` by `panner_no_nan`, `SlotsActive` by `slots_active`, `LfeUnused` by `lfe_unused` (proofs/Layouts.antt). Assumes nothing.
use Rattle.std.specs.Prelude.{◌≡◌, ℕ, ◌+◌, ◌<◌, ◌≤◌, true, false, not, T, List, [], ◌∷◌, length, None, pos, from_bits, is_nan, Float}
use Rattle.std.specs.Float.{fin, binary32}
use Rattle.std.specs.Float.Ieee.{fits, le}
use Rattle.lists.specs.Lists.{Each, member, part, Once}
use Rattle.float_order.specs.Values.{1·0, abs}
use Rattle.vector.specs.Vector.{Vector, unit_of}
use Rattle.layout_planar.specs.declared.Law.{Law}
use Rattle.layout_planar.specs.declared.Law.TheVariants.{Inverse, Crossfade}
use Rattle.layout_planar.specs.declared.PlanarPair.{PlanarPair}
use Rattle.layout_hull.specs.Triplets.{Triplet}
use Rattle.layout_record.specs.declared.VbapPanner.{VbapPanner}
use Rattle.layout_record.specs.Shape.{HullShape, Shape, silent, mono, planar, hull}
use Rattle.layout_record.specs.Malformed.{used_slots}
use Rattle.layout_new.specs.Layout.{outputs_of, layout_of, panner_of}
use Rattle.float_sine.specs.Pi.{tau32}

-- ---- bounds of 32-bit values

-- x is a value of 32 bits, neither a NaN nor an infinity, and at most b in size
pub record Within (b x : Float) : Type 0 where
  pub held : T (fits binary32 x)
  pub most : T (le (abs x) b)

-- pi in 32 bits, rounded up: the bound of a start (that of a gap is tau32). Origin: std::f32::consts::PI.
abbrev pub pi32 : Float
pi32 = from_bits binary32 0x4049_0fdb

-- 1e-6 in 32 bits, rounded down: the least gap that is not one of coincident speakers. Origin: vbap.rs line 233.
abbrev pub least_gap : Float
least_gap = from_bits binary32 0x3586_37bd

-- 2 ^ 31, above 2 ÷ 1e-9: a number of a cross product of two directions is at most 2, and a determinant at least 1e-9. Origin of 1e-9: vbap.rs lines 240 and 345.
abbrev pub largest_inverse : Float
largest_inverse = fin false 1 (pos 31)

-- ---- planar

unfoldable pub SoundLaw : Law → Type 0
SoundLaw (Inverse i j k l) = Each (Within largest_inverse) (i ∷ j ∷ k ∷ l ∷ [])
SoundLaw Crossfade = Unit

-- two different slots of the layout; the start from −pi to pi, the gap from 1e-6 to 2·pi
pub record SoundPair (slots : List ℕ) (p : PlanarPair) : Type 0 where
  pub start : Within pi32 p.start
  pub gap : Within tau32 p.gap
  pub gap_least : T (le least_gap p.gap)
  pub first : member p.a slots ≡ true
  pub second : member p.b slots ≡ true
  pub differ : p.a ≡ p.b → ⊥
  pub law : SoundLaw p.law

-- slots: two or more, each once, all below the count of outputs
pub record SoundPlanar (outputs : ℕ) (pairs : List PlanarPair) (slots : List ℕ) : Type 0 where
  pub few : length slots ≤ outputs
  pub two : 2 ≤ length slots
  pub apart : Once slots
  pub low : Each (λ o. o < outputs) slots
  pub each : Each (SoundPair slots) pairs

-- ---- hull

-- three points in rising order, and nine numbers
pub record SoundTriplet (points : ℕ) (t : Triplet) : Type 0 where
  pub rises : t.i < t.j
  pub rises' : t.j < t.k
  pub low : t.k < points
  pub nine : length t.inv ≡ 9
  pub inverse : Each (Within largest_inverse) t.inv

-- a direction: three numbers, each at most 1 in size
pub record SoundDirection (d : Vector) : Type 0 where
  pub three : length d ≡ 3
  pub unit : Each (Within 1·0) d

-- what stands in for an imaginary point: real points' slots, each once
pub record SoundNeighbours (out nbrs : List ℕ) : Type 0 where
  pub apart : Once nbrs
  pub real : Each (λ o. member o out ≡ true) nbrs

-- Origin of 14: MAX_IMAGINARY, vbap.rs line 60 and document 01.
pub record SoundHull (outputs : ℕ) (h : HullShape) : Type 0 where
  pub few : length h.out ≤ outputs
  pub two : 2 ≤ length h.out
  pub apart : Once h.out
  pub low : Each (λ o. o < outputs) h.out
  pub as_many : length h.dirs ≡ length h.out
  pub dirs : Each SoundDirection h.dirs
  pub tris : Each (SoundTriplet (length h.out + length h.imag)) h.tris
  pub imaginary : length h.imag ≤ 14
  pub imag : Each (SoundNeighbours h.out) h.imag

-- ---- a layout

unfoldable pub Sound : ℕ → Shape → Type 0
Sound outputs silent = Unit
Sound outputs (mono i) = i < outputs
Sound outputs (planar pairs slots) = SoundPlanar outputs pairs slots
Sound outputs (hull h) = SoundHull outputs h

-- an active slot: below the count of outputs, not LFE, with a position that `unit` accepts
pub record Active (positions : List Float) (lfe : List ℕ) (o : ℕ) : Type 0 where
  pub low : o < outputs_of positions
  pub not_lfe : member o lfe ≡ false
  pub accepted : unit_of (part 3 positions o) ≡ None → ⊥

-- ---- no NaN in any float of the record

abbrev pub Number : Float → Type 0
Number x = T (not (is_nan x))

unfoldable pub NumberLaw : Law → Type 0
NumberLaw (Inverse i j k l) = Each Number (i ∷ j ∷ k ∷ l ∷ [])
NumberLaw Crossfade = Unit

pub record NumberPair (p : PlanarPair) : Type 0 where
  pub start : Number p.start
  pub gap : Number p.gap
  pub law : NumberLaw p.law

pub record NoNan (v : VbapPanner) : Type 0 where
  pub pairs : Each NumberPair v.pairs
  pub directions : Each Number v.pt_dir
  pub inverses : Each Number v.inv

-- ---- the statements: of any positions in 32 bits, finite or not, and any LFE slots

abbrev pub Fit : List Float → Type 0
Fit positions = Each (λ v. T (fits binary32 v)) positions

-- every layout is sound
abbrev pub LayoutSound : Type 0
LayoutSound = (positions : List Float) (lfe : List ℕ) → Fit positions → Sound (layout_of positions lfe).outputs (layout_of positions lfe).shape

-- no float of its record is a NaN
abbrev pub PannerNoNan : Type 0
PannerNoNan = (positions : List Float) (lfe : List ℕ) → Fit positions → NoNan (panner_of positions lfe)

-- every slot that it names is active
abbrev pub SlotsActive : Type 0
SlotsActive = (positions : List Float) (lfe : List ℕ) → Fit positions → Each (Active positions lfe) (used_slots (layout_of positions lfe).shape)

-- so it names no LFE slot
abbrev pub LfeUnused : Type 0
LfeUnused = (positions : List Float) (lfe : List ℕ) (o : ℕ) → Fit positions → member o lfe ≡ true → member o (used_slots (layout_of positions lfe).shape) ≡ false
