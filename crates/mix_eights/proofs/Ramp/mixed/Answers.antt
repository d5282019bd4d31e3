-- `mix_eights::Ramp::mixed` meets its contract: each of the eight is what the closure answers at its place. Assumes nothing.
use Prim.Native.Nat.{ℕ}
use lib.ListN.{get_or}
use lib.Ieee.{nan}
use Rattle.std.proofs.Common.{rules}
use Rattle.mix_eights.specs.Inner.Eights.{sample_of}
use Rattle.lists.proofs.Made.{from_fn_made}
use Rattle.mix_eights.proofs.Ramp.mixed.Goals as goal

pub returns : goal.returns
returns c =
    let a = c.args in
    from_fn_made _ (λ (k : ℕ). sample_of (get_or a.d k nan) (get_or a.s k nan) a.self.g0 a.self.step (get_or a.c k nan)) c.from_fn.ensures.items (λ i r q b k. search rules)
