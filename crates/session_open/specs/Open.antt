-- Document 01, "Returned numbers" 1 to 4 and "Session" ("Fresh: empty lists, start rows of +0"): open. Assumes nothing.
use Rattle.std.specs.Prelude.{ℕ, ◌*◌, ◌%◌, Bool, ◌||◌, not, cond, List, eqb, ltb, length, replicate, Float, Result, Ok, Err}
use Rattle.refusals.specs.declared.Refusal.{Refusal}
use Rattle.refusals.specs.Refusals.{number_of}
use Rattle.float_order.specs.Values.{+0}
use Rattle.layout_record.specs.declared.VbapPanner.{VbapPanner}
use Rattle.layout_record.specs.Shape.{imaginary_in}
use Rattle.layout_record.specs.Panner.{no_panner}
use Rattle.layout_new.specs.Layout.{outputs_of, active, layout_of, too_many_triplets, panner_of}
use Rattle.mix_block.specs.Limits.{most_sources, row_places}
use Rattle.session_history.specs.History.{depth}
use Rattle.session_calls.specs.declared.Session.{Session}
use Rattle.session_open.specs.declared.Opened.{Opened}

-- fresh: empty lists, start rows of +0, unused places +0
unfoldable pub fresh : VbapPanner → ℕ → Session
fresh v n =
    record {
      panner = v;
      sources = n;
      counts = replicate most_sources 0;
      standing = replicate (most_sources * (depth * 2)) +0;
      starts = replicate (most_sources * row_places) +0;
    }

-- 1 to 4, in rising order; 0 is accepted. Origin of 3 numbers a position: document 01, refusal 1; of 40 positions: refusal 2; of 1 source: refusal 3.
unfoldable pub open_refusal : List Float → List ℕ → ℕ → ℕ
open_refusal positions lfe sources =
    cond (not (eqb (length positions % 3) 0)) 1
    (cond (ltb 40 (outputs_of positions)) 2
    (cond (ltb sources 1 || ltb most_sources sources) 3
    (cond (too_many_triplets (active positions lfe)) 4 0)))

-- whether a number is one of the layout's below 3
abbrev pub early : ℕ → Bool
early n = eqb n 1 || eqb n 2

-- the number of open, how many imaginary points were made, and the session
pub record OpenAnswer : Type 0 where
  pub number : ℕ
  pub imaginary : ℕ
  pub session : Session

-- a refused open returns no session: what the answer then holds is all 0, +0 and the crossfade, which every call refuses with 11
unfoldable pub no_session : Session
no_session = fresh no_panner 0

-- open, refused by a number
unfoldable pub refused_by : ℕ → OpenAnswer
refused_by why = record { number = why; imaginary = 0; session = no_session }

-- what open answers: 0 and what was opened, or a refusal's number beside no session
abbrev pub open_answer : Result Opened Refusal → OpenAnswer
open_answer (Ok made) = record { number = 0; imaginary = made.imaginary; session = made.session }
open_answer (Err why) = refused_by (number_of why)

unfoldable pub open_of : List Float → List ℕ → ℕ → OpenAnswer
open_of positions lfe sources =
    let why = open_refusal positions lfe sources in
    cond (eqb why 0)
    (record { number = 0; imaginary = imaginary_in (layout_of positions lfe).shape; session = fresh (panner_of positions lfe) sources })
    (record { number = why; imaginary = 0; session = no_session })
