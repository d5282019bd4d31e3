-- `layout_planar::sorted_spots` meets its contract: the spots of the first i speakers stand in front, to be sorted. Assumes nothing.
use Rattle.std.proofs.Common.{◌≡◌, true, length, map, take}
use Rattle.lists.specs.Lists.{every}
use Rattle.layout_planar.specs.Planar.{spot_of}
use Rattle.layout_planar.specs.Inner.Arrays.{slot_fits}
use Rattle.layout_planar.proofs.sorted_spots.Given as goal

abbrev pub invariant-loop-i : goal.invariant-loop-i
invariant-loop-i l = (length l.a ≡ 40) × (take l.i l.a ≡ map spot_of (take l.i l.active)) × (every slot_fits (take l.i l.a) ≡ true)
