-- A session in two lent arrays, one of bytes and one of floats: docs/EMBEDDING.md. Assumes nothing.
use Rattle.std.specs.Prelude.{ℕ, cond, List, [], ◌∷◌, ◌++◌, eqb, get_or, take, Float, Result}
use Rattle.refusals.specs.declared.Refusal.{Refusal}
use Rattle.refusals.specs.Refusals.{number_in}
use Rattle.session_history.specs.Calls.{place, take_back}
use Rattle.session_calls.specs.declared.Session.{Session}
use Rattle.session_calls.specs.Answers.{Answer, answer_of}
use Rattle.mix_block.specs.Limits.{most_sources}
use Rattle.boundary_records.specs.Places.{record_byte_places, record_float_places, counts_at, start_places, standing_at, standing_places}
use Rattle.boundary_records.specs.Records.{record_bytes, record_floats, section, record_from}

-- ---- written to the arrays: the record's places, and behind them the session's own

unfoldable pub own_bytes : Session → List ℕ
own_bytes s = s.sources ∷ s.counts

unfoldable pub own_floats : Session → List Float
own_floats s = s.starts ++ s.standing

unfoldable pub session_bytes : Session → List ℕ
session_bytes s = record_bytes s.panner ++ own_bytes s

unfoldable pub session_floats : Session → List Float
session_floats s = record_floats s.panner ++ own_floats s

-- ---- read from the arrays

unfoldable pub session_from : List ℕ → List Float → Session
session_from bytes floats =
    record {
      panner = record_from bytes floats;
      sources = get_or bytes record_byte_places 0;
      counts = section counts_at most_sources bytes;
      starts = section record_float_places start_places floats;
      standing = section standing_at standing_places floats;
    }

-- ---- what a call leaves in a lent place

-- the new value where the number is 0, and the old one beside a refusal
abbrev pub written : {A : Type 0} → ℕ → A → A → A
written number made before = cond (eqb number 0) made before

-- the arrays of a session after a call on it that answers a: the layout's places as they were, and behind them the session's own
unfoldable pub bytes_left : List ℕ → Answer → List ℕ
bytes_left bytes a = written a.number (take record_byte_places bytes ++ own_bytes a.session) bytes

unfoldable pub floats_left : List Float → Answer → List Float
floats_left floats a = written a.number (take record_float_places floats ++ own_floats a.session) floats

-- ---- several directions

-- for each direction a place and a take back, up to the first that is refused: its answer
unfoldable pub place_take_back : Session → ℕ → List Float → List Float → Answer
place_take_back s i [] el = record { number = 0; session = s }
place_take_back s i (a ∷ az) [] = record { number = 0; session = s }
place_take_back s i (a ∷ az) (e ∷ el) =
    let placed = answer_of s (place i a e) in
    let back = answer_of placed.session (take_back i) in
    let rest = place_take_back back.session i az el in
    cond (eqb placed.number 0) (cond (eqb back.number 0) rest back) placed

-- what several calls answer, and the session that they leave
abbrev pub left_beside : Result (Unit {0}) Refusal → Session → Answer
left_beside r s = record { number = number_in r; session = s }
