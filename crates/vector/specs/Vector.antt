-- Document 01, "What to write where" (each direction an [f64; 3]); source lines 155 to 183: unit, cross, dot, dir_vec.
-- A vector is the list of its three numbers. What dot, cross, a determinant and an inverse's rows are is written in Operations.antt. Assumes nothing.
use Rattle.std.specs.Prelude.{ℕ, ◌+◌, ◌*◌, ◌||◌, not, cond, List, [], ◌∷◌, ◌++◌, get_or, Option, None, Some, Float}
use Rattle.std.specs.Float.{nan, Format, binary32, binary64}
use Rattle.std.specs.Float.Ieee.{add, sub, neg, mul, div, le, of_bits}
use Rattle.float_order.specs.Values.{is_finite}
use Rattle.float_root.specs.Root.{sqrt_of}
use Rattle.float_sine.specs.Sine.{sin32_of, cos32_of}
use Rattle.vector.specs.Operations.{Operations, Three, minor_by, dot_by, cross_by, determinant_by, rows_by}

abbrev pub Vector : Type 0
Vector = List Float

abbrev pub Points : Type 0
Points = List Vector

abbrev pub x : Vector → Float
x v = get_or v 0 nan

abbrev pub y : Vector → Float
y v = get_or v 1 nan

abbrev pub z : Vector → Float
z v = get_or v 2 nan

-- the operations of floats, each rounded once, and a vector as Operations.antt has it
abbrev pub floats : Format → Operations Float
floats f = record { add = add f; sub = sub f; mul = mul f; neg = neg }

abbrev pub three : Vector → Three Float
three v = record { x = x v; y = y v; z = z v }

abbrev pub listed : Three Float → Vector
listed v = v.x ∷ v.y ∷ v.z ∷ []

-- a[0]·b[0] + a[1]·b[1] + a[2]·b[2], in either format
unfoldable pub dot_in : Format → Vector → Vector → Float
dot_in f a b = dot_by (floats f) (three a) (three b)

unfoldable pub dot_of : Vector → Vector → Float
dot_of a b = dot_in binary64 a b

-- a·b − c·d
unfoldable pub minor : Float → Float → Float → Float → Float
minor a b c d = minor_by (floats binary64) a b c d

unfoldable pub cross_of : Vector → Vector → Vector
cross_of a b = listed (cross_by (floats binary64) (three a) (three b))

-- the determinant of the matrix with the columns a, b and c, and the nine numbers of the rows of its inverse before they are divided by it
unfoldable pub determinant_of : Vector → Vector → Vector → Float
determinant_of a b c = determinant_by (floats binary64) (three a) (three b) (three c)

unfoldable pub inverse_rows_of : Vector → Vector → Vector → List Float
inverse_rows_of a b c = let r = rows_by (floats binary64) (three a) (three b) (three c) in listed r.first ++ listed r.second ++ listed r.third

-- a − b, a ÷ l and −a, number by number
unfoldable pub less_of : Vector → Vector → Vector
less_of a b = sub binary64 (x a) (x b) ∷ sub binary64 (y a) (y b) ∷ sub binary64 (z a) (z b) ∷ []

unfoldable pub over_of : Vector → Float → Vector
over_of a l = div binary64 (x a) l ∷ div binary64 (y a) l ∷ div binary64 (z a) l ∷ []

unfoldable pub negated_of : Vector → Vector
negated_of a = neg (x a) ∷ neg (y a) ∷ neg (z a) ∷ []

-- the square root of a·a
unfoldable pub length_of : Vector → Float
length_of a = sqrt_of binary64 (dot_of a a)

-- 1e-6 in 64 bits. Origin: vbap.rs line 158; guards the division by the length.
abbrev pub shortest : Float
shortest = of_bits binary64 0x3eb0_c6f7_a0b5_ed8d

-- a position as a direction, where its length is finite and above 1e-6
unfoldable pub unit_of : Vector → Option Vector
unit_of p = let l = length_of p in cond (le l shortest || not (is_finite l)) None (Some (over_of p l))

-- the direction of a source at (azimuth, elevation), in 32 bits
unfoldable pub dir_vec_of : Float → Float → Vector
dir_vec_of az el =
    mul binary32 (sin32_of az) (cos32_of el) ∷ sin32_of el ∷ mul binary32 (neg (cos32_of az)) (cos32_of el) ∷ []

-- the three places from p * 3 on, with d where a place is none
unfoldable pub places_in : {A : Type 0} → A → List A → ℕ → List A
places_in d flat p = get_or flat (p * 3) d ∷ get_or flat (p * 3 + 1) d ∷ get_or flat (p * 3 + 2) d ∷ []

-- point p of a flat array, three numbers a point, as it is read
unfoldable pub point_in : List Float → ℕ → Vector
point_in flat p = places_in nan flat p
