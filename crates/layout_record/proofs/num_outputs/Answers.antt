-- `layout_record::num_outputs` meets its contract: the two answers of the definition, told by `malformed`. Assumes nothing.
use Rattle.layout_record.specs.Malformed.{num_outputs_of}
use Rattle.layout_record.proofs.num_outputs.Goals as goal

pub returns-then-malformed : goal.returns-then-malformed
unfolding num_outputs_of
returns-then-malformed c = rw (← c.malformed.ensures, c.if-malformed.true)

pub returns : goal.returns
unfolding num_outputs_of
returns c = rw (← c.malformed.ensures, c.if-malformed.false)
