-- What lets `face_test` skip a triple before the root is taken: near points, and a margin about the plane. The answer of the tests does not turn on it. Assumes nothing.
use Rattle.std.specs.Prelude.{ℕ, ◌<◌, ◌≡◌, Bool, true, ◌&&◌, not, length, Float}
use Rattle.std.specs.Float.{binary64}
use Rattle.std.specs.Float.Ieee.{neg, lt, le, fits, of_bits}
use Rattle.float_order.specs.Values.{abs}
use Rattle.vector.specs.Vector.{Vector, Points, x, y, z}
use Rattle.layout_faces.specs.Faces.{Plane, point}
use Rattle.layout_faces.specs.Inner.Steps.{height_of}

-- 2: 4000_0000_0000_0000. Origin: a direction's coordinates are at most 1; 2 is the bound of crate layout_margin.
abbrev pub largest : Float
largest = of_bits binary64 0x4000_0000_0000_0000

-- 2 ^ -16: 3ef0_0000_0000_0000. Origin: crate layout_margin; the normal of near points is at most 2 ^ 6 long before it is scaled, and 2 ^ -22 is above eps.
abbrev pub margin : Float
margin = of_bits binary64 0x3ef0_0000_0000_0000

-- a coordinate of a near point: finite, and at most 2 in size
pub record Near (c : Float) : Type 0 where
  pub held : fits binary64 c ≡ true
  pub most : le (abs c) largest ≡ true

pub record NearPoint (v : Vector) : Type 0 where
  pub first : Near (x v)
  pub second : Near (y v)
  pub third : Near (z v)

-- all points are near
abbrev pub NearIn : Points → Type 0
NearIn pts = (p : ℕ) → p < length pts → NearPoint (point pts p)

-- a point stands neither well over the plane nor well under it
unfoldable pub level_of : Plane → Vector → Bool
level_of f p = not (lt margin (height_of f p)) && not (lt (height_of f p) (neg margin))
