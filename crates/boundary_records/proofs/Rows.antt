-- Rows of several directions: one turn of the loop, its early end, and its end. Assumes nothing.
use Prim.Native.Nat.{ℕ, ◌+◌, ◌-◌, ◌≤◌, ◌<◌}
use mathlib.Core.Path.{◌≡◌, refl, ◌∙◌}
use mathlib.Core.Logic.{◌⊎◌, inl, inr}
use mathlib.Core.List.{List, [], ◌∷◌, ◌++◌, append_assoc}
use native.Mathlib.Omega.{arith}
use borrow.Author.Tests.{le-leb, lt-leb}
use borrow.Rule.Slice.PartMut.{mid_of, put_mid}
use lib.Ieee.{Float}
use lib.ListN.{length, take, drop, take-append-drop, length-append, length-drop}
use lib.Seq.{length-take-le, take_at, drop_at}
use Rattle.layout_record.specs.declared.VbapPanner.{VbapPanner}
use Rattle.row_gains.specs.Gains.{gains_buffer}
use Rattle.boundary_records.specs.Rows.{rows_of}

module _ (p : VbapPanner) (w : ℕ) where
  no_elevation : (l b : List Float) → rows_of p l [] w b ≡ b
  unfolding rows_of
  no_elevation [] b = refl
  no_elevation (a ∷ l) b = refl

  -- no direction is left
  rows_none : (az el b : List Float) → (az ≡ []) ⊎ (el ≡ []) → rows_of p az el w b ≡ b
  unfolding rows_of
  rows_none az el b (inl e) = rw e refl
  rows_none az el b (inr e) = rw e (no_elevation az b)

  pub rows_end : (az el out : List Float) (from : ℕ) → (az ≡ []) ⊎ (el ≡ []) → take from out ++ rows_of p az el w (drop from out) ≡ out
  rows_end az el out from h = rw (rows_none az el (drop from out) h) (take-append-drop from out)

  module _ {az el az' el' : List Float} {a e : Float} (out : List Float) (from : ℕ) (both : (az ≡ a ∷ az') × (el ≡ e ∷ el')) where
    -- fewer places are left than a row takes
    pub rows_full : length out - from < w → take from out ++ rows_of p az el w (drop from out) ≡ out
    unfolding rows_of
    rows_full k =
        let short : length (drop from out) < w = simp length-drop (omega arith) in
        rw (both.0, both.1, lt-leb w (length (drop from out)) short) (take-append-drop from out)

    module _ (row : List Float) (fits : from + w ≤ length out) (is : row ≡ gains_buffer p a e (mid_of from (from + w - from) out))
        (long : length row ≡ length (mid_of from (from + w - from) out))
      where
        rest : List Float
        rest = drop (from + w - from) (drop from out)

        width : from + w - from ≡ w
        width = omega arith

        one_row : rows_of p az el w (drop from out) ≡ row ++ rows_of p az' el' w rest
        unfolding rows_of rest
        one_row =
            let room : w ≤ length (drop from out) = simp length-drop (omega arith) in
            rw (both.0, both.1, le-leb w (length (drop from out)) room, is, width)

        row_long : length row ≡ w
        row_long =
            let room : from + w - from ≤ length (drop from out) = simp length-drop (omega arith) in
            long ∙ length-take-le (from + w - from) (drop from out) room ∙ width

        front_long : length (take from out ++ row) ≡ from + w
        front_long = omega (arith, length-append (take from out) row, length-take-le from out (omega arith), row_long)

        pub rows_more : take (from + w) (put_mid from (from + w - from) out row) ++ rows_of p az' el' w (drop (from + w) (put_mid from (from + w - from) out row))
            ≡ take from out ++ rows_of p az el w (drop from out)
        unfolding rest
        rows_more =
            let front = take from out ++ row in
            rw (← append_assoc (take from out) row rest, take_at front rest (from + w) front_long, drop_at front rest (from + w) front_long, append_assoc (take from out) row _, one_row)
