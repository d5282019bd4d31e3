-- Document 01, "Returned numbers" (11), and docs/DECISIONS.md, "The boundary": what record or session two arrays of the caller hold. Assumes nothing.
use Rattle.std.specs.Prelude.{ℕ, min, ◌≡◌, true, false, List, Float, get_or, length, take}
use Rattle.lists.specs.Lists.{filled}
use Rattle.layout_planar.specs.Planar.{no_pair}
use Rattle.layout_record.specs.declared.VbapPanner.{VbapPanner}
use Rattle.layout_record.specs.Malformed.{malformed_of}
use Rattle.layout_new.specs.Layout.{new_of}
use Rattle.session_calls.specs.declared.Session.{Session}
use Rattle.session_calls.specs.Answers.{Answer}
use Rattle.session_calls.specs.Session.{malformed_session}
use Rattle.mix_block.specs.Limits.{most_sources}
use Rattle.boundary_records.specs.Places.{most_outputs, most_imaginary, head_places, pair_byte_places, idx_places, nbr_places, dir_places, inv_places, start_places, standing_places, session_byte_places, session_float_places}
use Rattle.boundary_records.specs.Records.{section, known, record_bytes, record_floats, record_from}
use Rattle.boundary_records.specs.Sessions.{session_bytes, session_floats, session_from, bytes_left, floats_left}

-- where the kind or a law is unknown, every call refuses with 11
abbrev pub UnknownMalformed : Type 0
UnknownMalformed =
    (bytes : List ℕ) (floats : List Float) → known (get_or bytes 1 0) (section head_places pair_byte_places bytes) ≡ false
    → (malformed_of (record_from bytes floats) ≡ true) × (malformed_session (session_from bytes floats) ≡ true)

-- each field that is an array has its places, and the pairs behind their count are as `new` leaves them
pub record Whole (v : VbapPanner) : Type 0 where
  pub pairs : v.pairs ≡ filled most_outputs no_pair (take (min v.num_pairs most_outputs) v.pairs)
  pub slots : length v.slots ≡ most_outputs
  pub out : length v.pt_out ≡ most_outputs
  pub dir : length v.pt_dir ≡ dir_places
  pub idx : length v.idx ≡ idx_places
  pub inv : length v.inv ≡ inv_places
  pub counts : length v.num_nbrs ≡ most_imaginary
  pub nbrs : length v.imag_nbrs ≡ nbr_places

pub record WholeSession (s : Session) : Type 0 where
  pub panner : Whole s.panner
  pub counts : length s.counts ≡ most_sources
  pub standing : length s.standing ≡ standing_places
  pub starts : length s.starts ≡ start_places

-- such a record, written to its arrays and read from them, is the same
abbrev pub HandedBack : Type 0
HandedBack = (v : VbapPanner) → Whole v → record_from (record_bytes v) (record_floats v) ≡ v

-- and so is such a session
abbrev pub SessionHandedBack : Type 0
SessionHandedBack = (s : Session) → WholeSession s → session_from (session_bytes s) (session_floats s) ≡ s

-- after an accepted call the session's arrays, read, give the session that the call answers; the lengths are those of the arrays' types
abbrev pub LeftTakenIn : Type 0
LeftTakenIn =
    (bytes : List ℕ) (floats : List Float) (a : Answer) → length bytes ≡ session_byte_places → length floats ≡ session_float_places → a.number ≡ 0 → a.session.panner ≡ record_from bytes floats
    → length a.session.counts ≡ most_sources → length a.session.starts ≡ start_places → length a.session.standing ≡ standing_places
    → session_from (bytes_left bytes a) (floats_left floats a) ≡ a.session

-- such is every record that `new` answers
abbrev pub NewWhole : Type 0
NewWhole = (positions : List Float) (lfe : List ℕ) → Whole (new_of positions lfe).panner
