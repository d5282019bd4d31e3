-- Source line 17 ("LFE slots always receive exactly 0") and document 01, "The buyer's note on promises" ("a layout from open gives no NaN"), of a row and of the buffer that `gains` fills by the record that `new` answers.
-- Proved in proofs/Silent.antt. Assumes nothing.
use Rattle.std.specs.Prelude.{ℕ, ◌<◌, min, ◌≡◌, true, false, List, T, length, get_or, take, Float}
use Rattle.std.specs.Float.{nan, binary32}
use Rattle.std.specs.Float.Ieee.{fits}
use Rattle.lists.specs.Lists.{member, Each}
use Rattle.float_order.specs.Values.{+0, is_finite}
use Rattle.layout_record.specs.Shape.{Layout}
use Rattle.layout_record.specs.Malformed.{used_slots}
use Rattle.layout_new.specs.Layout.{outputs_of, layout_of, new_of}
use Rattle.row_gains.specs.Gains.{row_of, gains_of, gains_number, gains_buffer}

-- ---- a row

-- one gain for each of n places
abbrev pub RowLength : Type 0
RowLength = (l : Layout) (n : ℕ) (az el : Float) → length (row_of l n az el) ≡ n

-- a slot that no list of the layout names gets +0, whatever the layout and the angles
abbrev pub UnusedSilent : Type 0
UnusedSilent = (l : Layout) (n : ℕ) (az el : Float) (o : ℕ) → member o (used_slots l.shape) ≡ false → o < n → get_or (row_of l n az el) o nan ≡ +0

-- so does an LFE slot
abbrev pub LfeSilent : Type 0
LfeSilent =
    (positions : List Float) (lfe : List ℕ) → Each (λ x. T (fits binary32 x)) positions
    → (n : ℕ) (az el : Float) (o : ℕ) → member o lfe ≡ true → o < n → get_or (row_of (layout_of positions lfe) n az el) o nan ≡ +0

-- ---- the buffer, by the record that `new` answers

-- the number is 0, be it accepted or refused
abbrev pub RecordNumber : Type 0
RecordNumber = (positions : List Float) (lfe : List ℕ) → gains_number (new_of positions lfe).panner ≡ 0

-- accepted: the buffer is filled with the layout's row
abbrev pub RecordRow : Type 0
RecordRow =
    (positions : List Float) (lfe : List ℕ) → (new_of positions lfe).number ≡ 0
    → (az el : Float) (buffer : List Float) → gains_buffer (new_of positions lfe).panner az el buffer ≡ gains_of (layout_of positions lfe) az el buffer

-- the filled places
abbrev pub filled_places : List Float → List Float → ℕ
filled_places positions buffer = min (outputs_of positions) (length buffer)

-- neither a NaN nor an infinity in them, at any angles in 32 bits, finite or not
abbrev pub RecordRowFinite : Type 0
RecordRowFinite =
    (positions : List Float) (lfe : List ℕ) → Each (λ x. T (fits binary32 x)) positions → (new_of positions lfe).number ≡ 0
    → (az el : Float) (buffer : List Float) → T (fits binary32 az) → T (fits binary32 el)
    → Each (λ g. T (is_finite g)) (take (filled_places positions buffer) (gains_buffer (new_of positions lfe).panner az el buffer))

-- +0 in every LFE slot among them
abbrev pub RecordLfeSilent : Type 0
RecordLfeSilent =
    (positions : List Float) (lfe : List ℕ) → Each (λ x. T (fits binary32 x)) positions → (new_of positions lfe).number ≡ 0
    → (az el : Float) (buffer : List Float) (o : ℕ) → member o lfe ≡ true → o < filled_places positions buffer
    → get_or (gains_buffer (new_of positions lfe).panner az el buffer) o nan ≡ +0
