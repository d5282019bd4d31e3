-- The height of a point over a plane through another, by a normal that is scaled or not: each, times what it was divided by, is the same exact number but for 1,904 steps. Assumes nothing.
use Prim.Native.Nat.{ℕ, ◌+◌, ◌*◌, ◌^◌, ◌≤◌}
use mathlib.Core.Bool.{Bool, false}
use lib.Dec.{lit≤, lit<}
use lib.Ieee.{Float, binary64, unlike, sub, mul}
use Rattle.vector.specs.Vector.{Vector, x, y, z, dot_in, dot_of, minor, cross_of, less_of, over_of}
use Rattle.float_bounds.proofs.Units.{Val}
use Rattle.float_bounds.proofs.Held.{held}
use Rattle.float_bounds.proofs.Size.{Mag, mag_sub, mag_mul}
use Rattle.layout_margin.proofs.Signs.{plus, minus}
use Rattle.layout_margin.proofs.Scaled.{L, Near, near_add, near_sub, Entry, entry_self, entry_over, near_mul}

-- three numbers of at most B smallest values in size
pub record Three (B : ℕ) (v : Vector) : Type 0 where
  pub first : Mag binary64 (x v) B
  pub second : Mag binary64 (y v) B
  pub third : Mag binary64 (z v) B

-- ---- a normal before it is scaled

less_three : {a b : Vector} → Three (2 * L) a → Three (2 * L) b → Three (4 * L) (less_of a b)
unfolding less_of
less_three h k = record { first = by h.first k.first; second = by h.second k.second; third = by h.third k.third }
  where
    by : {u v : Float} → Mag binary64 u (2 * L) → Mag binary64 v (2 * L) → Mag binary64 (sub binary64 u v) (4 * L)
    by u v = mag_sub (4 * L) u v (held binary64 4 1074 (lit≤ tt)) (lit< tt) (lit≤ tt)

cross_three : {a b : Vector} → Three (4 * L) a → Three (4 * L) b → Three (32 * L) (cross_of a b)
unfolding cross_of minor
cross_three h k = record {
  first = by h.second k.third h.third k.second;
  second = by h.third k.first h.first k.third;
  third = by h.first k.second h.second k.first;
}
  where
    product : {u v : Float} → Mag binary64 u (4 * L) → Mag binary64 v (4 * L) → Mag binary64 (mul binary64 u v) (16 * L)
    product u v = mag_mul (16 * L) u v (held binary64 16 1074 (lit≤ tt)) (lit< tt) (lit≤ tt)

    by : {a b c d : Float} → Mag binary64 a (4 * L) → Mag binary64 b (4 * L) → Mag binary64 c (4 * L) → Mag binary64 d (4 * L) → Mag binary64 (minor a b c d) (32 * L)
    by a b c d = mag_sub (32 * L) (product a b) (product c d) (held binary64 32 1074 (lit≤ tt)) (lit< tt) (lit≤ tt)

pub normal_three : {a b c : Vector} → Three (2 * L) a → Three (2 * L) b → Three (2 * L) c → Three (32 * L) (cross_of (less_of b a) (less_of c a))
normal_three a b c = cross_three (less_three b a) (less_three c a)

-- ---- the exact product of a normal before it is scaled and a point: what stands on the plus side, and on the minus side

module _ {r p : Vector} (h : Three (32 * L) r) (k : Three (2 * L) p) where
  pub side : (Bool → ℕ → ℕ) → ℕ
  side f =
      f (unlike h.first.s k.first.s) (h.first.X * k.first.X) + f (unlike h.second.s k.second.s) (h.second.X * k.second.X)
      + f (unlike h.third.s k.third.s) (h.third.X * k.third.X)

-- the numbers of a normal
pub record Entries (R : ℕ) (n : Vector) {r : Vector} (h : Three (32 * L) r) : Type 0 where
  pub first : Entry R (x n) h.first.s h.first.X
  pub second : Entry R (y n) h.second.s h.second.X
  pub third : Entry R (z n) h.third.s h.third.X

pub entries_self : {r : Vector} (h : Three (32 * L) r) → Entries L r h
entries_self h = record { first = by h.first; second = by h.second; third = by h.third }
  where
    by : {n : Float} (m : Mag binary64 n (32 * L)) → Entry L n m.s m.X
    by m = entry_self m.val m.most

module _ (R : ℕ) (lo : 2 ^ 1040 ≤ R) (hi : R ≤ 2 ^ 1080) {r : Vector} (h : Three (32 * L) r) where
  pub entries_over : {l : Float} → Val binary64 l false R → Entries R (over_of r l) h
  unfolding over_of
  entries_over w = record { first = entry_over R lo hi h.first.val h.first.most w; second = entry_over R lo hi h.second.val h.second.most w; third = entry_over R lo hi h.third.val h.third.most w }

  module _ {n : Vector} (e : Entries R n h) where
    dot_near : {p : Vector} (k : Three (2 * L) p) → Near R (dot_of n p) (side h k plus) (side h k minus) 203 748
    unfolding dot_of dot_in side
    dot_near k = near_add R lo hi (near_add R lo hi (near_mul R lo hi e.first k.first.val k.first.most) (near_mul R lo hi e.second k.second.val k.second.most) (lit≤ tt)) (near_mul R lo hi e.third k.third.val k.third.most) (lit≤ tt)

    -- over the plane through a
    pub height_near : {p a : Vector} (k : Three (2 * L) p) (j : Three (2 * L) a) → Near R (sub binary64 (dot_of n p) (dot_of n a)) (side h k plus + side h j minus) (side h k minus + side h j plus) 407 1904
    height_near k j = near_sub R lo hi (dot_near k) (dot_near j) (lit≤ tt)
