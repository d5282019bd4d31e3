-- `mix_eights::onward` meets its contract: each count is raised by the closure. Assumes nothing.
use lib.Ieee.{Float, binary32, add}
use Rattle.mix_eights.specs.Inner.Eights.{8·0}
use Rattle.mix_eights.proofs.Eights.{map_made}
use Rattle.std.proofs.Common.{rules}
use Rattle.mix_eights.proofs.onward.Goals as goal

pub returns : goal.returns
returns c =
    map_made _ (λ (x : Float). add binary32 x 8·0) c.map.ensures.items (λ p x r q k. search rules)
