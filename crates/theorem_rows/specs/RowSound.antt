-- Document 01, "The buyer's note on promises" ("a layout from open gives no NaN"): what is true of every row of a layout that `new` makes. Proved by `row_finite` (proofs/Rows.antt). Assumes nothing.
use Rattle.std.specs.Prelude.{ℕ, ◌≤◌, List, T, Float}
use Rattle.std.specs.Float.{binary32}
use Rattle.std.specs.Float.Ieee.{fits}
use Rattle.float_order.specs.Values.{is_finite}
use Rattle.lists.specs.Lists.{Each}
use Rattle.layout_new.specs.Layout.{outputs_of, layout_of}
use Rattle.row_gains.specs.Gains.{row_of}

-- Neither a NaN nor an infinity in a row of n places, for any positions and angles in 32 bits, finite or not, and at most 40 outputs (refusal 2 of document 01).
abbrev pub RowFinite : Type 0
RowFinite =
    (positions : List Float) (lfe : List ℕ) → Each (λ x. T (fits binary32 x)) positions → outputs_of positions ≤ 40
    → (n : ℕ) (az el : Float) → T (fits binary32 az) → T (fits binary32 el) → Each (λ g. T (is_finite g)) (row_of (layout_of positions lfe) n az el)
