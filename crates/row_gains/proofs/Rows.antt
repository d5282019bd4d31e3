-- A row by its kind, and the buffer after `gains`, as the code makes them: by the tests of the definitions. Assumes nothing.
use Prim.Native.Nat.{ℕ, min}
use mathlib.Core.Path.{◌≡◌, sym, ap}
use mathlib.Core.Bool.{Bool, true, false, cond}
use mathlib.Core.List.{List, ◌++◌}
use native.Mathlib.Omega.{arith}
use lib.ListN.{length, set, take, drop, replicate}
use lib.Seq.{length-take-le}
use lib.Ieee.{Float}
use Rattle.float_order.specs.Values.{+0, 1·0, is_finite}
use Rattle.layout_record.specs.declared.VbapPanner.{VbapPanner}
use Rattle.layout_record.specs.declared.Kind.{Kind}
use Rattle.layout_record.specs.declared.Kind.TheVariants.{Silent, Mono, Planar, Hull}
use Rattle.layout_record.specs.Panner.{hull_in, shape_in, layout_in}
use Rattle.layout_record.specs.Malformed.{counts_over, numbers_out, malformed_of}
use Rattle.row_planar.specs.PlanarRow.{planar_row}
use Rattle.row_hull.specs.HullRow.{hull_row}
use Rattle.row_hull.specs.Inner.Steps.{hull_shape}
use Rattle.lists.proofs.Tests.{neither}
use Rattle.layout_record.proofs.Counts.{within}
use Rattle.row_fill.specs.Counts.{HullCounts}
use Rattle.row_gains.specs.Gains.{finite_or0, row_in, row_of, gains_of, gains_number, gains_buffer}

-- ---- an angle

pub finite_stays : (x : Float) → is_finite x ≡ true → x ≡ finite_or0 x
unfolding finite_or0
finite_stays x e = sym (ap (λ (b : Bool). cond b x +0) e)

pub other_is_0 : (x : Float) → is_finite x ≡ false → +0 ≡ finite_or0 x
unfolding finite_or0
other_is_0 x e = sym (ap (λ (b : Bool). cond b x +0) e)

-- ---- counts within the arrays

pub hull_counts : (v : VbapPanner) → counts_over v ≡ false → HullCounts v
hull_counts v e = let w = within v e in record { points = record { real = w.real; imag = w.imag; nbrs = w.nbrs }; tris = w.tris }

-- ---- a row by its kind

module _ (v : VbapPanner) (n : ℕ) (az el : Float) where
  row_kind : (k : Kind) → v.kind ≡ k → row_in n az el (layout_in v).shape ≡ row_in n az el (shape_in v k)
  unfolding layout_in
  row_kind k e = ap (λ (k : Kind). row_in n az el (shape_in v k)) e

  pub row_silent : v.kind ≡ Silent → replicate n +0 ≡ row_in n az el (layout_in v).shape
  unfolding row_in shape_in
  row_silent e = sym (row_kind Silent e)

  pub row_mono : v.kind ≡ Mono → set (replicate n +0) v.mono 1·0 ≡ row_in n az el (layout_in v).shape
  unfolding row_in shape_in
  row_mono e = sym (row_kind Mono e)

  pub row_planar : v.kind ≡ Planar → planar_row n az el (take v.num_pairs v.pairs) (take v.num_slots v.slots) ≡ row_in n az el (layout_in v).shape
  unfolding row_in shape_in
  row_planar e = sym (row_kind Planar e)

  pub row_hull : v.kind ≡ Hull
      → hull_row n az el (hull_shape v) ≡ row_in n az el (layout_in v).shape
  unfolding row_in shape_in hull_in
  row_hull e = sym (row_kind Hull e)

-- ---- the number and the buffer

module _ (v : VbapPanner) (az el : Float) (buffer : List Float) where
  pub refused : malformed_of v ≡ true → (11 ≡ gains_number v) × (buffer ≡ gains_buffer v az el buffer)
  unfolding gains_number gains_buffer
  refused m = (sym (ap (λ (b : Bool). cond b 11 0) m), sym (ap (λ (b : Bool). cond b buffer (gains_of (layout_in v) az el buffer)) m))

  -- a record that is not malformed is within its arrays
  pub counts_in : malformed_of v ≡ false → counts_over v ≡ false
  unfolding malformed_of
  counts_in m = (neither (counts_over v) (numbers_out v) m).0

  module _ (n : ℕ) (h : n ≡ min v.num_outputs (length buffer)) where
    pub front_length : length (take n buffer) ≡ n
    front_length = length-take-le n buffer (omega arith)

    pub accepted : malformed_of v ≡ false → {a b : Float} {after : List Float} → a ≡ finite_or0 az → b ≡ finite_or0 el → after ≡ row_in (length (take n buffer)) a b (layout_in v).shape
        → (0 ≡ gains_number v) × (after ++ drop n buffer ≡ gains_buffer v az el buffer)
    unfolding gains_number gains_buffer gains_of row_of layout_in
    accepted m ea eb made = (
      sym (ap (λ (b : Bool). cond b 11 0) m),
      rw (made, front_length, ea, eb, h) (sym (ap (λ (b : Bool). cond b buffer (gains_of (layout_in v) az el buffer)) m)),
    )
