-- Document 01, "Returned numbers", the paragraph on 11: which sessions of open are refused with it. Assumes nothing.
use Rattle.std.specs.Prelude.{ℕ, ◌≡◌, false, List, Float}
use Rattle.session_history.specs.Calls.{Call}
use Rattle.session_calls.specs.Session.{malformed_session, number_of}
use Rattle.session_open.specs.Open.{no_session, open_of}

-- what stands beside a refused open, every call refuses with 11
abbrev pub NoSessionRefused : Type 0
NoSessionRefused = (c : Call) → number_of no_session c ≡ 11

-- an accepted open gives a session that is not malformed
abbrev pub OpenedFormed : Type 0
OpenedFormed =
    (positions : List Float) (lfe : List ℕ) (sources : ℕ) → (open_of positions lfe sources).number ≡ 0
    → malformed_session (open_of positions lfe sources).session ≡ false
