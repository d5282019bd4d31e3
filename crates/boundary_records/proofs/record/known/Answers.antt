-- `boundary_records::record::known` meets its contract: the kind, and of each chunk of three the third byte. Assumes nothing.
use mathlib.Core.Path.{sym, ◌∙◌}
use native.Mathlib.Omega.{arith}
use borrow.Author.Tests.{tests, le-ltb}
use lib.Dec.{ltb}
use lib.ListN.{get_or}
use Rattle.std.proofs.Common.{rules}
use Rattle.std.proofs.lemmas.Iterator.Search.{all_from_yields_List}
use Rattle.lists.proofs.Chunks.{threes_yield}
use Rattle.boundary_records.specs.Places.{most_outputs}
use Rattle.boundary_records.proofs.Known.{laws_tested, kind_known, kind_unknown}
use Rattle.boundary_records.proofs.record.known.Goals as goal

pub returns-then-kind-lt-KINDS : goal.returns-then-kind-lt-KINDS
returns-then-kind-lt-KINDS c =
    let bytes = c.args.bytes.now in
    all_from_yields_List (λ pair. ltb (get_or pair 2 0) 2) _ _ _ c.all.ensures.ran
    (threes_yield bytes 0 most_outputs (omega arith) c.chunks_exact.ensures.rest c.chunks_exact.ensures.size) (λ x r q k. search (rules, tests))
    ∙ laws_tested bytes
    ∙ sym (kind_known c.args.kind bytes (omega arith))

pub returns-else-kind-lt-KINDS : goal.returns-else-kind-lt-KINDS
returns-else-kind-lt-KINDS c = le-ltb c.args.kind 4 c.if-kind-lt-KINDS.false ∙ sym (kind_unknown c.args.kind c.args.bytes.now (omega arith))
