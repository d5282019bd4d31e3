-- `boundary_records::sessions::hand_out` meets its contract: the record, and behind it the session's own part. Assumes nothing.
use Rattle.boundary_records.specs.Places.{record_byte_places, record_float_places}
use Rattle.boundary_records.specs.Records.{record_bytes, record_floats}
use Rattle.boundary_records.specs.Sessions.{own_bytes, own_floats, session_bytes, session_floats}
use Rattle.boundary_records.proofs.Laid.{whole_of}
use Rattle.boundary_records.proofs.sessions.hand_out.Goals as goal

pub returns-clause-bytes : goal.returns-clause-bytes
unfolding session_bytes
returns-clause-bytes c =
    let s = c.args.s.now in
    whole_of (record_bytes s.panner) (own_bytes s) c.args.bytes.now record_byte_places c.hand_out.ensures.long.0 c.hand_out.ensures.bytes c.hand_out_own.ensures.bytes

pub returns-clause-floats : goal.returns-clause-floats
unfolding session_floats
returns-clause-floats c =
    let s = c.args.s.now in
    whole_of (record_floats s.panner) (own_floats s) c.args.floats.now record_float_places c.hand_out.ensures.long.1 c.hand_out.ensures.floats c.hand_out_own.ensures.floats
