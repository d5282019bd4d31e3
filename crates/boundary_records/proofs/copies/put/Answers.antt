-- `boundary_records::copies::put` meets its contract: the part that is copied is the whole of `from`. Assumes nothing.
use Rattle.boundary_records.proofs.Pasted.{put_all}
use Rattle.boundary_records.proofs.copies.put.Goals as goal

pub returns : goal.returns
returns g c = record { is = put_all c.args.to.now c.args.from.now c.args.at c.copy_from_slice.ensures.after }
