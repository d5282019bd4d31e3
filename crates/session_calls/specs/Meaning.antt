-- Document 01, "Returned numbers", the paragraph on 11: no call makes a session that is refused with it. Assumes nothing.
use Rattle.std.specs.Prelude.{◌≡◌, false}
use Rattle.session_history.specs.Calls.{Call}
use Rattle.session_calls.specs.Session.{malformed_session, after}
use Rattle.session_calls.specs.declared.Session.{Session}

-- every call on a session that is not malformed leaves one that is not malformed
abbrev pub CallsKeepFormed : Type 0
CallsKeepFormed = (s : Session) (c : Call) → malformed_session s ≡ false → malformed_session (after s c) ≡ false
