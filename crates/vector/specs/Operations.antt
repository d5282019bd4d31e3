-- Products of vectors, determinants and the rows of an inverse, written once over the operations that they use. Crate vector takes floats of a format for them, and Pulkki.antt the exact numbers of a commutative ring: what is shown there is shown of these definitions.
-- Source lines 165 to 175 (cross and dot), 239 to 248 (a pair's determinant and inverse) and 344 to 355 (a triplet's). Assumes nothing.

pub record Operations (R : Type 0) : Type 0 where
  pub add : R → R → R
  pub sub : R → R → R
  pub mul : R → R → R
  pub neg : R → R

-- a direction, and one in the plane of a ring
pub record Three (R : Type 0) : Type 0 where
  pub x : R
  pub y : R
  pub z : R

pub record Two (R : Type 0) : Type 0 where
  pub x : R
  pub z : R

-- the rows of an inverse
pub record ThreeRows (R : Type 0) : Type 0 where
  pub first : Three R
  pub second : Three R
  pub third : Three R

pub record TwoRows (R : Type 0) : Type 0 where
  pub first : Two R
  pub second : Two R

module _ {R : Type 0} (o : Operations R) where
  -- p·q − r·s
  abbrev pub minor_by : R → R → R → R → R
  minor_by p q r s = o.sub (o.mul p q) (o.mul r s)

  -- ---- three numbers

  abbrev pub dot_by : Three R → Three R → R
  dot_by a b = o.add (o.add (o.mul a.x b.x) (o.mul a.y b.y)) (o.mul a.z b.z)

  abbrev pub cross_by : Three R → Three R → Three R
  cross_by a b = record { x = minor_by a.y b.z a.z b.y; y = minor_by a.z b.x a.x b.z; z = minor_by a.x b.y a.y b.x }

  -- the determinant of the matrix with the columns a, b and c, and the rows of its inverse before they are divided by it
  abbrev pub determinant_by : Three R → Three R → Three R → R
  determinant_by a b c = dot_by a (cross_by b c)

  abbrev pub rows_by : Three R → Three R → Three R → ThreeRows R
  rows_by a b c = record { first = cross_by b c; second = cross_by c a; third = cross_by a b }

  -- ---- two numbers

  abbrev pub pair_dot_by : Two R → Two R → R
  pair_dot_by a b = o.add (o.mul a.x b.x) (o.mul a.z b.z)

  -- the same of the columns a and b
  abbrev pub pair_determinant_by : Two R → Two R → R
  pair_determinant_by a b = minor_by a.x b.z b.x a.z

  abbrev pub pair_rows_by : Two R → Two R → TwoRows R
  pair_rows_by a b = record { first = record { x = b.z; z = o.neg b.x }; second = record { x = o.neg a.z; z = a.x } }
