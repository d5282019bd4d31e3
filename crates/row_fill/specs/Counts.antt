-- A record made by hand may have any counts, so its type can't keep this: who reads the arrays asks for it.
-- The facts that a hull's rows are asked for: the counts of the record are within its arrays. Origin of the bounds: document 01, "Returned numbers", 11. Assumes nothing.
use Rattle.std.specs.Prelude.{◌≤◌, ◌≡◌, true, leb}
use Rattle.lists.specs.Lists.{every}
use Rattle.layout_record.specs.declared.VbapPanner.{VbapPanner}

-- those of points and of their neighbours
pub record PointCounts (v : VbapPanner) : Type 0 where
  pub real : v.num_real ≤ 40
  pub imag : v.num_imag ≤ 14
  pub nbrs : every (λ n. leb n 40) v.num_nbrs ≡ true

-- and that of triplets
pub record HullCounts (v : VbapPanner) : Type 0 where
  pub points : PointCounts v
  pub tris : v.num_tris ≤ 80
