-- Document 01, "Returned numbers" and "Session": the answer of a call as a whole record. Assumes nothing.
use Rattle.std.specs.Prelude.{ℕ, Result, Ok, Err}
use Rattle.refusals.specs.declared.Refusal.{Refusal}
use Rattle.refusals.specs.Refusals.{number_of as refusal_number, number_in}
use Rattle.session_history.specs.Calls.{Call}
use Rattle.session_calls.specs.Session.{number_of, after}
use Rattle.session_calls.specs.declared.Session.{Session}

-- the number of a call, and the session after it
pub record Answer : Type 0 where
  pub number : ℕ
  pub session : Session

-- a call, refused or accepted: its number, and the session after it
unfoldable pub answer_of : Session → Call → Answer
answer_of s c = record { number = number_of s c; session = after s c }

-- what a call on the session s answers: 0 and the session after it, or a refusal's number beside the session as it was
abbrev pub answered : Session → Result Session Refusal → Answer
answered s (Ok t) = record { number = 0; session = t }
answered s (Err why) = record { number = refusal_number why; session = s }

-- what a call on a lent session answers, and the session that it leaves there
abbrev pub left : Result (Unit {0}) Refusal → Session → Answer
left r s = record { number = number_in r; session = s }
