-- Document 01, "Layout" and "Returned numbers" (11): what the record that `new` answers means. Assumes nothing.
use Rattle.std.specs.Prelude.{ℕ, ◌<◌, ◌≡◌, false, List, Float, length, get_or}
use Rattle.vector.specs.Speakers.{slots_of}
use Rattle.layout_record.specs.Panner.{layout_in}
use Rattle.layout_record.specs.Malformed.{malformed_of}
use Rattle.layout_record.specs.Meaning.{LayoutFits}
use Rattle.layout_new.specs.Layout.{active, layout_of, new_of}

-- the slots of active speakers ascend
abbrev pub Ascending : Type 0
Ascending =
    (positions : List Float) (lfe : List ℕ) (p q : ℕ) → p < q → q < length (active positions lfe)
    → get_or (slots_of (active positions lfe)) p 0 < get_or (slots_of (active positions lfe)) q 0

-- an accepted layout is within what the record holds
abbrev pub AcceptedFits : Type 0
AcceptedFits = (positions : List Float) (lfe : List ℕ) → (new_of positions lfe).number ≡ 0 → LayoutFits (layout_of positions lfe)

-- so the record of an accepted layout is read back as that layout
abbrev pub AcceptedReadBack : Type 0
AcceptedReadBack = (positions : List Float) (lfe : List ℕ) → (new_of positions lfe).number ≡ 0 → layout_in (new_of positions lfe).panner ≡ layout_of positions lfe

-- and no record that `new` answers is malformed, be it accepted or refused
abbrev pub NeverMalformed : Type 0
NeverMalformed = (positions : List Float) (lfe : List ℕ) → malformed_of (new_of positions lfe).panner ≡ false
