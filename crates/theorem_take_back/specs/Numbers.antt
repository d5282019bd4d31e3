-- Document 01, "Session" ("Where the table .. refuses a call (11 apart ..)"): on a session that began as open returned it 11 never comes, and each number is the one that the history gives. Statements, proved by `never_malformed` and `numbers_agree` (proofs/Theorem.antt). Assumes nothing.
use Rattle.std.specs.Prelude.{◌≡◌, false, List}
use Rattle.layout_new.specs.Layout.{layout_of}
use Rattle.session_history.specs.Calls.{Call}
use Rattle.session_history.specs.History.{refusal}
use Rattle.session_calls.specs.Session.{malformed_session, number_of, after_all}
use Rattle.theorem_take_back.specs.Demand3.{Given, opened, history_of}

abbrev pub NeverMalformed : Type 0
NeverMalformed = (g : Given) (calls : List Call) → malformed_session (after_all (opened g) calls) ≡ false

abbrev pub NumbersAgree : Type 0
NumbersAgree = (g : Given) (calls : List Call) (c : Call) → number_of (after_all (opened g) calls) c ≡ refusal (layout_of g.positions g.lfe) (history_of g calls) c
