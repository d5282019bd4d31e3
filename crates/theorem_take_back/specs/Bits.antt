-- Document 01, "Session" ("Two sessions are equal when every field has the same bits") and "The buyer's note on promises" ("a layout from open gives no NaN"): for positions and angles of 32 bits
-- no float of a session that began as open returned it is a NaN, so its value is its bits, and equal fields are fields of equal bits; the same of the floats that a history holds.
-- Statements, proved by `never_nan`, `gains_fit` and `demand3_bits` (proofs/Bits.antt, proofs/RowFits.antt). Assumes nothing.
use Rattle.std.specs.Prelude.{ℕ, ◌<◌, ◌≡◌, ◌↔◌, List, [], ◌∷◌, map, T, Float}
use Rattle.std.specs.Float.{binary32}
use Rattle.std.specs.Float.Ieee.{fits, to_bits}
use Rattle.lists.specs.Lists.{Each}
use Rattle.layout_planar.specs.declared.Law.{Law}
use Rattle.layout_planar.specs.declared.Law.TheVariants.{Inverse, Crossfade}
use Rattle.layout_planar.specs.declared.PlanarPair.{PlanarPair}
use Rattle.layout_record.specs.declared.VbapPanner.{VbapPanner}
use Rattle.layout_record.specs.Shape.{Layout}
use Rattle.row_gains.specs.Gains.{row_of}
use Rattle.theorem_layouts.specs.Sound.{Number, NoNan}
use Rattle.session_history.specs.Calls.{Call, place, take_back, settle, render}
use Rattle.session_history.specs.History.{Direction, Past}
use Rattle.session_calls.specs.declared.Session.{Session}
use Rattle.session_calls.specs.Session.{after_all}
use Rattle.theorem_take_back.specs.Demand3.{Given, opened, past_of, Comparable}

-- ---- arguments of 32 bits

abbrev pub Fits32 : Float → Type 0
Fits32 x = T (fits binary32 x)

abbrev pub CallFits : Call → Type 0
CallFits (place i az el) = Fits32 az × Fits32 el
CallFits (take_back i) = Unit
CallFits (settle i) = Unit
CallFits (render L samples outputs) = Unit

-- ---- no NaN

pub record Numbers (s : Session) : Type 0 where
  pub panner : NoNan s.panner
  pub standing : Each Number s.standing
  pub starts : Each Number s.starts

abbrev pub NeverNan : Type 0
NeverNan = (g : Given) → Each Fits32 g.positions → (calls : List Call) → Each CallFits calls → Numbers (after_all (opened g) calls)

-- a gain is a value of 32 bits, whatever the layout and the angles
abbrev pub GainsFit : Type 0
GainsFit = (l : Layout) (n : ℕ) (az el : Float) → Each Fits32 (row_of l n az el)

-- ---- by the bits: each float by its 32 bits, each other number as it is

abbrev pub bits : Float → ℕ
bits x = to_bits binary32 x

-- the law of a pair: four numbers, or none for the crossfade
unfoldable pub law_bits : Law → List ℕ
law_bits (Inverse i j k l) = bits i ∷ bits j ∷ bits k ∷ bits l ∷ []
law_bits Crossfade = []

unfoldable pub pair_bits : PlanarPair → List ℕ
pair_bits p = bits p.start ∷ bits p.gap ∷ p.a ∷ p.b ∷ law_bits p.law

unfoldable pub direction_bits : Direction → List ℕ
direction_bits d = bits d.azimuth ∷ bits d.elevation ∷ []

pub record SamePanner (v w : VbapPanner) : Type 0 where
  pub outputs : v.num_outputs ≡ w.num_outputs
  pub kind : v.kind ≡ w.kind
  pub mono : v.mono ≡ w.mono
  pub num_pairs : v.num_pairs ≡ w.num_pairs
  pub pairs : map pair_bits v.pairs ≡ map pair_bits w.pairs
  pub num_slots : v.num_slots ≡ w.num_slots
  pub slots : v.slots ≡ w.slots
  pub num_real : v.num_real ≡ w.num_real
  pub pt_out : v.pt_out ≡ w.pt_out
  pub pt_dir : map bits v.pt_dir ≡ map bits w.pt_dir
  pub num_tris : v.num_tris ≡ w.num_tris
  pub idx : v.idx ≡ w.idx
  pub inv : map bits v.inv ≡ map bits w.inv
  pub num_imag : v.num_imag ≡ w.num_imag
  pub num_nbrs : v.num_nbrs ≡ w.num_nbrs
  pub imag_nbrs : v.imag_nbrs ≡ w.imag_nbrs

pub record SameBits (s t : Session) : Type 0 where
  pub panner : SamePanner s.panner t.panner
  pub sources : s.sources ≡ t.sources
  pub counts : s.counts ≡ t.counts
  pub standing : map bits s.standing ≡ map bits t.standing
  pub starts : map bits s.starts ≡ map bits t.starts

pub record AlikeBits (p q : Past) : Type 0 where
  pub directions : map direction_bits p.standing ≡ map direction_bits q.standing
  pub gains : map bits p.row ≡ map bits q.row

-- ---- demand 3 by the bits, on both sides

abbrev pub Demand3Bits : Type 0
Demand3Bits =
    (g h : Given) → Comparable g h → Each Fits32 g.positions → Each Fits32 h.positions
    → (one two : List Call) → Each CallFits one → Each CallFits two
    → SameBits (after_all (opened g) one) (after_all (opened h) two) ↔ ((i : ℕ) → i < g.sources → AlikeBits (past_of g one i) (past_of h two i))
