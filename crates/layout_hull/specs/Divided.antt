-- Document 01, "Tempting but wrong" ("dividing a ring of coplanar speakers more than once"): of points in one plane that all their triples see alike (crate layout_fan, specs/Meaning.antt) the list of triplets has the triples of one fan from their lowest number, each once, and no other triple.
-- Proved in proofs/Divided.antt: `DividedOnce` by `divided_once`, `NotTwice` by `not_twice`; in proofs/Square.antt the example, `SquareDivided` by `square_divided`. Assumes nothing.
use Rattle.std.specs.Prelude.{ℕ, ◌-◌, ◌≤◌, ◌≡◌, Bool, true, ◌&&◌, not, length, Float}
use mathlib.Core.List.{List, [], ◌∷◌, map, Memᴰ, Permᴰ}
use Rattle.std.specs.Float.Ieee.{neg}
use Rattle.lists.specs.Lists.{Once, filter, every}
use Rattle.float_order.specs.Values.{+0, 1·0}
use Rattle.vector.specs.Vector.{Vector, Points}
use Rattle.layout_faces.specs.Faces.{Plane, point, others, thin, plane_through, one_sided, close}
use Rattle.layout_fan.specs.Meaning.{Triple, is_of, fan_from, SeenAlike}
use Rattle.layout_hull.specs.Triplets.{Triplet, singular, plane_out, triplets_of}

-- the plane through a triple, turned outward: the one that tests 3 and 4 go by
unfoldable pub outward_plane : Points → Triple → Plane
outward_plane pts t = plane_out pts t.i t.j t.k

-- the tests of a triple but the fan's: 1, 2, 3 and 5
unfoldable pub other_tests : Points → Triple → Bool
other_tests pts t =
    let a = point pts t.i in
    let b = point pts t.j in
    let c = point pts t.k in
    not (thin a b c)
    && one_sided pts (plane_through a b c) (others (length pts) t.i t.j t.k)
    && not (close (outward_plane pts t).d)
    && not (singular a b c)

-- the triples of a set of points that are in the list of triplets
abbrev pub numbers : Triplet → Triple
numbers t = record { i = t.i; j = t.j; k = t.k }

unfoldable pub kept_of : Points → List ℕ → List Triple
kept_of pts set = filter (is_of set) (map numbers (triplets_of pts))

-- Where the other tests pass, these are the fan's, in whatever order: m - 2 of m points (crate layout_fan, `FanCount`).
abbrev pub DividedOnce : Type 0
DividedOnce = (pts : Points) (i : ℕ) (ring : List ℕ) → SeenAlike pts (outward_plane pts) i ring → every (other_tests pts) (fan_from i ring) ≡ true
    → Permᴰ (kept_of pts (i ∷ ring)) (fan_from i ring)

-- Whatever the other tests say, no triple is kept twice, none but the fan's, and so at most m - 2 of m points.
pub record AtMostOnce (pts : Points) (i : ℕ) (ring : List ℕ) : Type 0 where
  pub once : Once (kept_of pts (i ∷ ring))
  pub only : (t : Triple) → Memᴰ t (kept_of pts (i ∷ ring)) → Memᴰ t (fan_from i ring)
  pub count : length (kept_of pts (i ∷ ring)) ≤ length (i ∷ ring) - 2

abbrev pub NotTwice : Type 0
NotTwice = (pts : Points) (i : ℕ) (ring : List ℕ) → SeenAlike pts (outward_plane pts) i ring → AtMostOnce pts i ring

-- ---- an example, computed

abbrev corner : Float → Float → Vector
corner x y = x ∷ y ∷ neg 1·0 ∷ []

-- four corners of a square in front, 1 opposite 0 and 3 opposite 2, and a point behind
abbrev pub square : Points
square = corner 1·0 1·0 ∷ corner (neg 1·0) (neg 1·0) ∷ corner (neg 1·0) 1·0 ∷ corner 1·0 (neg 1·0) ∷ (+0 ∷ +0 ∷ 1·0 ∷ []) ∷ []

-- The four are seen alike, from 0 in the order 3, 1, 2, and the list of triplets has two triples of them.
pub record SquareDivided : Type 0 where
  pub seen_alike : SeenAlike square (outward_plane square) 0 (3 ∷ 1 ∷ 2 ∷ [])
  pub two_triples : Permᴰ (kept_of square (0 ∷ 3 ∷ 1 ∷ 2 ∷ [])) (record { i = 0; j = 1; k = 3 } ∷ record { i = 0; j = 1; k = 2 } ∷ [])
