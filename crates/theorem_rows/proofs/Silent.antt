-- A slot that no list of the layout names keeps the +0 that a row starts with, an LFE slot is one, and the record of an accepted `new` is read back as its layout. Assumes nothing.
use Prim.Native.Nat.{◌≤◌}
use mathlib.Core.Path.{◌≡◌, sym, ap, ◌∙◌, subst}
use mathlib.Core.Bool.{Bool, false, cond}
use mathlib.Core.List.{List}
use native.Mathlib.Omega.{arith}
use borrow.Author.Tests.{eqb-false, ne_eqb}
use lib.Dec.{T, eqb}
use lib.ListN.{length, get_or, take, drop, length-set, length-replicate, get_or-replicate, get_or-append}
use lib.Seq.{get_or-set_other, take_at}
use lib.Ieee.{Float, nan}
use Rattle.float_order.specs.Values.{+0, is_finite}
use Rattle.layout_record.specs.Shape.{Layout}
use Rattle.layout_record.specs.Panner.{layout_in}
use Rattle.layout_record.specs.Malformed.{used_slots}
use Rattle.layout_new.specs.Layout.{outputs_of, layout_of, new_of}
use Rattle.layout_new.proofs.Answers.{accepted_fits, accepted_read_back, never_malformed}
use Rattle.row_gains.specs.Gains.{finite_or0, row_of, gains_of, gains_number, gains_buffer}
use Rattle.lists.proofs.Each.{each_all}
use Rattle.lists.specs.Lists.{Each}
use Rattle.lists.proofs.Once.{none_member}
use Rattle.theorem_layouts.proofs.Layouts.{lfe_unused}
use Rattle.theorem_rows.specs.Silent.{RowLength, UnusedSilent, LfeSilent, RecordNumber, RecordRow, filled_places, RecordRowFinite, RecordLfeSilent}
use Rattle.theorem_rows.proofs.Powers.{scaled_zero, scaled_length}
use Rattle.theorem_rows.proofs.Rows.{row_finite}
use Rattle.theorem_rows.proofs.Written.{anything, row_kept}

-- ---- a row

pub row_length : RowLength
unfolding row_of
row_length l n az el =
    row_kept (λ row. length row ≡ n) (λ _. Unit) (λ _. Unit) anything (λ row i v u w e. length-set row i v ∙ e) (scaled_length n) n (finite_or0 az) (finite_or0 el) l.shape
    (each_all (λ _. Unit) (λ _. tt) (used_slots l.shape)) tt (length-replicate n +0)

pub unused_silent : UnusedSilent
unfolding row_of
unused_silent l n az el o h k =
    row_kept (λ row. get_or row o nan ≡ +0) (λ i. eqb i o ≡ false) (λ _. Unit) anything (λ row i v u w e. get_or-set_other row i o v nan (λ g. eqb-false i o u (sym g)) ∙ e) (scaled_zero o) n (finite_or0 az) (finite_or0 el) l.shape
    (none_member o (used_slots l.shape) h) (ne_eqb n o (λ e. omega arith)) (get_or-replicate n o +0 nan k)

pub lfe_silent : LfeSilent
lfe_silent positions lfe h n az el o m k = unused_silent (layout_of positions lfe) n az el o (lfe_unused positions lfe o h m) k

-- ---- the buffer

pub record_number : RecordNumber
unfolding gains_number
record_number positions lfe = ap (λ (b : Bool). cond b 11 0) (never_malformed positions lfe)

pub record_row : RecordRow
unfolding gains_buffer
record_row positions lfe e az el buffer =
    ap (λ (b : Bool). cond b buffer (gains_of (layout_in (new_of positions lfe).panner) az el buffer)) (never_malformed positions lfe)
    ∙ ap (λ (l : Layout). gains_of l az el buffer) (accepted_read_back positions lfe e)

pub record_row_finite : RecordRowFinite
unfolding gains_of layout_of
record_row_finite positions lfe h e az el buffer a b =
    let n = filled_places positions buffer in
    let l = layout_of positions lfe in
    let few : outputs_of positions ≤ 40 = (accepted_fits positions lfe e).outputs in
    subst (Each (λ g. T (is_finite g))) (sym (ap (take n) (record_row positions lfe e az el buffer) ∙ take_at (row_of l n az el) (drop n buffer) n (row_length l n az el)))
    (row_finite positions lfe h few n az el a b)

pub record_lfe_silent : RecordLfeSilent
unfolding gains_of layout_of
record_lfe_silent positions lfe h e az el buffer o m k =
    let n = filled_places positions buffer in
    let l = layout_of positions lfe in
    let long : length (row_of l n az el) ≡ n = row_length l n az el in
    ap (λ (r : List Float). get_or r o nan) (record_row positions lfe e az el buffer)
    ∙ get_or-append (row_of l n az el) (drop n buffer) nan o (omega arith)
    ∙ lfe_silent positions lfe h n az el o m k
