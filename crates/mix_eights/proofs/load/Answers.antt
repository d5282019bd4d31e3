-- `mix_eights::load` meets its contract: each of the eight is what the closure answers at its place. Assumes nothing.
use Prim.Native.Nat.{ℕ, ◌+◌}
use lib.ListN.{get_or}
use lib.Ieee.{nan}
use Rattle.std.proofs.Common.{rules}
use Rattle.lists.proofs.Made.{from_fn_made}
use Rattle.mix_eights.proofs.load.Goals as goal

pub returns : goal.returns
returns c = from_fn_made _ (λ (k : ℕ). get_or c.args.s.now (c.args.i + k) nan) c.from_fn.ensures.items (λ i r q b k. search rules)
