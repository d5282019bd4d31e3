-- `boundary_records::copies::section` meets its contract: each element is the one that the closure reads. Assumes nothing.
use Rattle.std.proofs.Common.{rules}
use Rattle.boundary_records.proofs.Pasted.{section_made}
use Rattle.boundary_records.proofs.copies.section.Goals as goal

pub returns : goal.returns
returns g c =
    section_made _ c.args.from.now c.args.at g.row.N c.requires c.from_fn.ensures.items (λ i r q b k. search rules)
