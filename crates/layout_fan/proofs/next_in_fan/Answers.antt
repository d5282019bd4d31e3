-- `layout_fan::next_in_fan` meets its contract: the sorted spots are the fan of j, k and the other points. Assumes nothing.
use Rattle.std.proofs.Common.{◌∷◌, length, ap, ◌∙◌}
use Rattle.arrayvec.proofs.ArrayVecLemmas.{items-with_items}
use Rattle.angle_sort.proofs.Insertion.{length_sorted}
use Rattle.angle_sort.specs.Order.{sorted_of}
use Rattle.layout_fan.specs.Fan.{adjacent}
use Rattle.layout_fan.proofs.Fans.{fan_told}
use Rattle.layout_fan.proofs.next_in_fan.Goals as goal

pub returns : goal.returns
returns c =
    let a = c.args in
    c.is_adjacent.ensures
    ∙ ap (adjacent a.c.t.j a.c.t.k)
    (c.as_slice.ensures.value ∙ items-with_items _ _ (ap length c.sort.ensures ∙ length_sorted _ ∙ ap length c.as_mut_slice.ensures.value) ∙ c.sort.ensures ∙ ap sorted_of (c.as_mut_slice.ensures.value ∙ c.spots-ring.ensures) ∙ fan_told a.c.pts.now a.nrm a.c.t.i (a.c.t.j ∷ a.c.t.k ∷ a.numbers.now) c.basis_in-basis.ensures c.angle-first.ensures)
