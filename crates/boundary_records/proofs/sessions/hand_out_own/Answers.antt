-- `boundary_records::sessions::hand_out_own` meets its contract: its parts are laid behind the record's. Assumes nothing.
use mathlib.Core.Path.{refl}
use mathlib.Core.List.{[], ◌∷◌}
use native.Mathlib.Omega.{arith}
use Rattle.mix_block.specs.Limits.{most_sources}
use Rattle.boundary_records.specs.Places.{record_byte_places, record_float_places, start_places, standing_places}
use Rattle.boundary_records.specs.Sessions.{own_bytes, own_floats}
use Rattle.boundary_records.proofs.Laid.{laid_own}
use Rattle.boundary_records.proofs.sessions.hand_out_own.Goals as goal

pub returns-clause-bytes : goal.returns-clause-bytes
unfolding own_bytes
returns-clause-bytes c =
    let s = c.args.s.now in
    laid_own c.args.bytes.now (s.sources ∷ []) s.counts record_byte_places 1 most_sources refl (omega arith) (omega arith) c.put.ensures c.put-2.ensures

pub returns-clause-floats : goal.returns-clause-floats
unfolding own_floats
returns-clause-floats c =
    let s = c.args.s.now in
    laid_own c.args.floats.now s.starts s.standing record_float_places start_places standing_places (omega arith) (omega arith) (omega arith) c.put-3.ensures c.put-4.ensures
