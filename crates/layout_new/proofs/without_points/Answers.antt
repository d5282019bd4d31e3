-- `layout_new::without_points` meets its contract: zeros but for the kind and the slot. Assumes nothing.
use Rattle.std.proofs.Common.{refl}
use mathlib.Core.List.{flat_map}
use lib.Ieee.{of_bits}
use Rattle.lists.specs.Lists.{from, range, filled}
use Rattle.layout_record.specs.Shape.{imaginary_in}
use Rattle.layout_record.specs.Panner.{kind_in, mono_in, pairs_in, slots_in, hull_in, laid}
use Rattle.layout_new.specs.Inner.Answers.{accepted}
use Rattle.layout_new.proofs.without_points.Goals as goal

pub returns-in-Some : goal.returns-in-Some
unfolding accepted imaginary_in laid kind_in mono_in pairs_in slots_in hull_in filled flat_map range from of_bits
returns-in-Some c = rw (c.in-Some.is, c.no_pairs-pairs.ensures) refl

pub returns-in-None : goal.returns-in-None
unfolding accepted imaginary_in laid kind_in mono_in pairs_in slots_in hull_in filled flat_map range from of_bits
returns-in-None c = rw (c.in-None.is, c.no_pairs-pairs.ensures) refl
