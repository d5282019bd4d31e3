-- Rows of several directions, one after another: driver/README.md. Assumes nothing.
use Rattle.std.specs.Prelude.{ℕ, cond, List, [], ◌∷◌, ◌++◌, leb, length, take, drop, Float}
use Rattle.layout_record.specs.declared.VbapPanner.{VbapPanner}
use Rattle.row_gains.specs.Gains.{gains_buffer}

-- a row for each azimuth with its elevation, into the buffer's next w places, as long as w places are left
unfoldable pub rows_of : VbapPanner → List Float → List Float → ℕ → List Float → List Float
rows_of p [] el w buffer = buffer
rows_of p (a ∷ az) [] w buffer = buffer
rows_of p (a ∷ az) (e ∷ el) w buffer =
    let after = gains_buffer p a e (take w buffer) ++ rows_of p az el w (drop w buffer) in
    cond (leb w (length buffer)) after buffer
