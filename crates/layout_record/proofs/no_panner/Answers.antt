-- `layout_record::no_panner` meets its contract: the record that it writes is the silent layout of no outputs, laid flat. Assumes nothing.
use mathlib.Core.List.{flat_map}
use mathlib.Core.Path.{refl}
use lib.Ieee.{of_bits}
use Rattle.lists.specs.Lists.{from, range, filled}
use Rattle.layout_record.specs.Panner.{kind_in, mono_in, pairs_in, slots_in, hull_in, laid, no_panner}
use Rattle.layout_record.proofs.no_panner.Goals as goal

pub returns : goal.returns
unfolding no_panner laid kind_in mono_in pairs_in slots_in hull_in filled flat_map range from of_bits
returns c = rw c.no_pairs-pairs.ensures refl
