-- `layout_hull::inverse` meets its contract: each row is a vector product divided by the determinant and narrowed. Assumes nothing.
use Rattle.layout_hull.proofs.Rows.{rows_inverse}
use Rattle.layout_hull.proofs.inverse.Goals as goal

pub returns : goal.returns
returns c =
    let a = c.args in
    rw (c.row-r0.ensures, c.row-r1.ensures, c.row-r2.ensures, c.cross.ensures, c.cross-2.ensures, c.cross-3.ensures) (rows_inverse a.a a.b a.c a.det)
