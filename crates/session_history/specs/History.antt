-- Document 01, "Session", from "The history that it speaks of" on: worked out from the arguments of open and of the calls alone, the layout by "Layout". No record of the program is read. Assumes nothing.
use Rattle.std.specs.Prelude.{ℕ, ◌-◌, ◌*◌, not, cond, eqb, ltb, leb, length, get_or, drop, replicate, Float}
use mathlib.Core.List.{List, [], ◌∷◌, ◌++◌, map, foldl}
use Rattle.lists.specs.Lists.{but_last, change}
use Rattle.float_order.specs.Values.{+0}
use Rattle.row_gains.specs.Gains.{finite_or0, row_of}
use Rattle.layout_record.specs.Shape.{Layout}
use Rattle.layout_new.specs.Layout.{layout_of}
use Rattle.session_history.specs.Calls.{Call, place, take_back, settle, render}

pub record Direction : Type 0 where
  pub azimuth : Float
  pub elevation : Float

-- of a source: a list of directions and one row, a gain for each output
pub record Past : Type 0 where
  pub standing : List Direction
  pub row : List Float

-- +0 throughout; the beginning: an empty list and that row
abbrev pub quiet : Layout → List Float
quiet l = replicate l.outputs +0

abbrev pub beginning : Layout → Past
beginning l = record { standing = []; row = quiet l }

-- how many directions of a source may stand. Origin: document 01, refusal 6.
abbrev pub depth : ℕ
depth = 16

-- the longest block, in samples. Origin: document 01, refusal 8.
abbrev pub longest_block : ℕ
longest_block = 1024

-- ---- what the table refuses, 11 apart; what stands is what the source's list here holds

abbrev pub stand : List Past → ℕ → ℕ
stand ps i = length (get_or (map (λ p. p.standing) ps) i [])

-- a call on source i: 5, then what the call has of its own
abbrev pub on_source : List Past → ℕ → ℕ → ℕ
on_source ps i own = cond (leb (length ps) i) 5 own

unfoldable pub refusal : Layout → List Past → Call → ℕ
refusal l ps (place i az el) = on_source ps i (cond (leb depth (stand ps i)) 6 0)
refusal l ps (take_back i) = on_source ps i (cond (eqb (stand ps i) 0) 7 0)
refusal l ps (settle i) = on_source ps i 0
refusal l ps (render L samples outputs) =
    cond (eqb L 0) 8 (cond (ltb longest_block L) 8
    (cond (not (eqb (length samples) (length ps * L))) 9
    (cond (not (eqb (length outputs) (l.outputs * L))) 10 0)))

-- ---- what an accepted call makes of a source

abbrev pub relisted : (List Direction → List Direction) → Past → Past
relisted f p = record { standing = f p.standing; row = p.row }

-- removes all but the last; an empty list stays empty
unfoldable pub only_last : List Direction → List Direction
only_last ds = drop (length ds - 1) ds

-- the row of the last direction in the list, +0 throughout where it is empty
unfoldable pub last_row : Layout → List Direction → List Float
last_row l [] = quiet l
last_row l (d ∷ []) = row_of l l.outputs d.azimuth d.elevation
last_row l (d ∷ (e ∷ ds)) = last_row l (e ∷ ds)

abbrev pub rerowed : Layout → Past → Past
rerowed l p = record { standing = p.standing; row = last_row l p.standing }

unfoldable pub made : Layout → List Past → Call → List Past
made l ps (place i az el) =
    change i (relisted (λ ds. ds ++ record { azimuth = finite_or0 az; elevation = finite_or0 el } ∷ [])) ps
made l ps (take_back i) = change i (relisted but_last) ps
made l ps (settle i) = change i (relisted only_last) ps
made l ps (render L samples outputs) = map (rerowed l) ps

-- ---- a refused call changes nothing; the calls in order

unfoldable pub step : Layout → List Past → Call → List Past
step l ps c = let qs = made l ps c in cond (eqb (refusal l ps c) 0) qs ps

unfoldable pub history : List Float → List ℕ → ℕ → List Call → List Past
history positions lfe sources calls =
    let l = layout_of positions lfe in
    foldl (step l) (replicate sources (beginning l)) calls

-- what the calls made of source i
unfoldable pub past : List Float → List ℕ → ℕ → List Call → ℕ → Past
past positions lfe sources calls i = get_or (history positions lfe sources calls) i (beginning (layout_of positions lfe))
