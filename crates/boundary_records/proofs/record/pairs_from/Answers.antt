-- `boundary_records::record::pairs_from` meets its contract: each pair is the one that the closure makes. Assumes nothing.
use Rattle.std.proofs.Common.{rules}
use Rattle.lists.proofs.Made.{from_fn_made}
use Rattle.boundary_records.specs.Records.{pair_from}
use Rattle.boundary_records.proofs.record.pairs_from.Goals as goal

pub returns : goal.returns
returns c =
    from_fn_made _ (pair_from c.args.numbers.now c.args.bytes.now) c.from_fn.ensures.items (λ i r q b k. search rules)
