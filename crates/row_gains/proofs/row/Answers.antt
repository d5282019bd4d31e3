-- `row_gains::row` meets its contract: each kind's row fills the places. Assumes nothing.
use Rattle.std.proofs.Common.{List, length, set, ap, ◌∙◌}
use lib.Ieee.{Float, of_bits}
use Rattle.float_order.specs.Values.{1·0}
use Rattle.layout_record.proofs.Counts.{within}
use Rattle.row_gains.proofs.Rows.{hull_counts, row_silent, row_mono, row_planar, row_hull}
use Rattle.row_gains.proofs.row.Goals as goal

pub ring_pairs-requires : goal.ring_pairs-requires
ring_pairs-requires c = (within c.args.panner.now c.requires).pairs

pub ring_slots-requires : goal.ring_slots-requires
ring_slots-requires c = (within c.args.panner.now c.requires).slots

pub hull_row-requires : goal.hull_row-requires
hull_row-requires c = hull_counts c.args.panner.now c.requires

pub returns-in-Silent : goal.returns-in-Silent
returns-in-Silent c =
    let a = c.args in
    c.zero.ensures ∙ row_silent a.panner.now (length a.out.now) a.az a.el c.in-Silent.is

pub returns-in-Mono : goal.returns-in-Mono
unfolding of_bits
returns-in-Mono c =
    let a = c.args in
    c.put.ensures ∙ ap (λ (r : List Float). set r a.panner.now.mono 1·0) c.zero-in-Mono.ensures ∙ row_mono a.panner.now (length a.out.now) a.az a.el c.in-Mono.is

pub returns-in-Planar : goal.returns-in-Planar
returns-in-Planar c =
    let a = c.args in
    (rw (c.ring_pairs.ensures, c.ring_slots.ensures) at c.planar_row.ensures) ∙ row_planar a.panner.now (length a.out.now) a.az a.el c.in-Planar.is

pub returns-in-Hull : goal.returns-in-Hull
returns-in-Hull c =
    let a = c.args in
    c.hull_row.ensures ∙ row_hull a.panner.now (length a.out.now) a.az a.el c.in-Hull.is
