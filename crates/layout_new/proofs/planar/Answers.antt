-- `layout_new::planar` meets its contract: the pairs and the slots of the speakers on the ring, and zeros, are their layout laid flat. Assumes nothing.
use Rattle.std.proofs.Common.{refl, ap, arith}
use mathlib.Core.List.{flat_map}
use lib.Ieee.{of_bits}
use Rattle.lists.specs.Lists.{from, range, filled}
use Rattle.vector.proofs.Speakers.{slots_count}
use Rattle.layout_planar.specs.declared.Planar.{Planar}
use Rattle.layout_planar.specs.Inner.Arrays.{planar_in}
use Rattle.layout_record.specs.Shape.{imaginary_in}
use Rattle.layout_record.specs.Panner.{kind_in, mono_in, pairs_in, slots_in, hull_in, laid}
use Rattle.layout_new.specs.Inner.Answers.{accepted}
use Rattle.layout_new.proofs.Speakers.{pairs_few}
use Rattle.layout_new.proofs.planar.Goals as goal

pub overflow_cast-result : goal.overflow_cast-result
unfolding planar_in
overflow_cast-result c =
    omega (arith, ap (λ (p : Planar). p.num_pairs) c.build_planar-made.ensures, pairs_few c.used-used.result.now, c.used-used.ensures.few)

pub returns : goal.returns
unfolding planar_in accepted imaginary_in laid kind_in mono_in pairs_in slots_in hull_in filled flat_map range from of_bits
returns c = rw (c.build_planar-made.ensures, c.slots-slots.ensures, c.used-used.ensures.are, slots_count c.args.ring.now) refl
