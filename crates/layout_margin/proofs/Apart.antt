-- A point that stands 2 ^ -16 over the plane of three points, by the normal before it is scaled, stands over it by the scaled normal too: by more than 1e-7. And so below it.
-- The points' coordinates are at most 2 in size, so the normal is at most 64 long. Assumes nothing.
use mathlib.Core.Path.{subst}
use mathlib.Core.Logic.{inl, inr}
use Prim.Native.Nat.{ℕ, ◌+◌, ◌*◌, ◌^◌, ◌≤◌, ◌<◌, zero-le}
use native.Mathlib.Nat.{le_refl, le_trans, lt_of_lt_of_le, mul-le-mul_left, mul-le-mul_right, le_of_mul-le-mul_right, eq-zero-or-pos}
use native.Mathlib.Omega.{arith}
use mathlib.Core.Bool.{Bool, true, false, not}
use lib.Dec.{T, lit≤, lit<}
use lib.Ieee.{Float, binary64, add, sub, neg, mul, lt}
use lib.Ieee.Fits.{add-fits}
use Rattle.vector.specs.Vector.{Vector, x, y, z, dot_in, dot_of, cross_of, less_of, over_of, length_of}
use Rattle.float_bounds.proofs.Units.{Val}
use Rattle.float_bounds.proofs.Held.{held}
use Rattle.float_bounds.proofs.Size.{Mag, Most, most_of, most_sign, unlike_self, times_most, val_mag, sum_val}
use Rattle.float_bounds.proofs.Compare.{not_lt_val, above_least}
use Rattle.float_bounds.proofs.Root.{sqrt_val, sqrt_zero}
use Rattle.layout_margin.proofs.Signs.{plus, minus, Off, val_sign, val_lt, lt_le, lt_turned}
use Rattle.layout_margin.proofs.Scaled.{L, step, Near, near_neg}
use Rattle.layout_margin.proofs.Heights.{Three, normal_three, side, entries_self, entries_over, height_near}

-- ---- the length of a normal

record Long (r : Vector) : Type 0 where
  pub R : ℕ
  pub val : Val binary64 (length_of r) false R
  pub most : R ≤ 2 ^ 1080

long : {r : Vector} → Three (32 * L) r → Long r
unfolding length_of dot_of dot_in
long {r} h =
    let a = square h.first in
    let b = square h.second in
    let c = square h.third in
    let i = sum_val (2 ^ 1085) a.val b.val (held binary64 1 1085 (lit≤ tt)) (lit< tt) (both a.X b.X (2 ^ 1084) (2 ^ 1084) (2 ^ 1085) a.most b.most (lit≤ tt)) in
    let j = sum_val (2 ^ 1086) i.val c.val (held binary64 1 1086 (lit≤ tt)) (lit< tt) (both i.Z c.X (2 ^ 1085) (2 ^ 1084) (2 ^ 1086) i.most c.most (lit≤ tt)) in
    elim (eq-zero-or-pos j.Z) [
      | inl e ↦ record { R = 0; val = sqrt_zero (subst (λ (S : ℕ). Val binary64 (dot_of r r) false S) e j.val); most = zero-le }
      | inr g ↦
          let w = sqrt_val (add-fits binary64 (add binary64 (mul binary64 (x r) (x r)) (mul binary64 (y r) (y r))) (mul binary64 (z r) (z r))) j.val g in
          record { R = w.R; val = w.val; most = w.most (2 ^ 1080) (held binary64 1 1080 (lit≤ tt)) (lit< tt) (le_trans (mul-le-mul_right L j.most) (lit≤ tt)) }
    ]
  where
    square : {n : Float} → Mag binary64 n (32 * L) → Most binary64 (mul binary64 n n) false (2 ^ 1084)
    square m = most_sign (unlike_self m.s) (times_most (2 ^ 1084) (most_of m) (most_of m) (held binary64 1 1084 (lit≤ tt)) (lit< tt) (lit≤ tt))

    both : (u v A B C : ℕ) → u ≤ A → v ≤ B → A + B ≤ C → u + v ≤ C
    both u v A B C h k l = omega arith

-- ---- w is what v is before it is scaled

module _ (R : ℕ) (hi : R ≤ 2 ^ 1080) {margin eps : Float} {E : ℕ} (m : Val binary64 margin false (2 ^ 1058)) (e : Val binary64 eps false E) (few : E < 2 ^ 1051) where
  far : {w v : Float} {A B : ℕ} → Near L w A B 407 1904 → Near R v A B 407 1904 → T (lt margin w) → T (lt eps v)
  unfolding plus minus
  far {w} {v} {A} {B} n k t =
      let b = above_least (val_mag n.X n.val (le_refl n.X)) m (lit< tt) (lt_le margin w t) in
      let o = subst (λ (s : Bool). Off s (n.X * L) A B (1904 * step)) (val_sign n.val b.val) n.off in
      let least : 2 ^ 1058 ≤ n.X = le_trans b.least b.most in
      let lead : 2 ^ 2131 + B + 1904 * step ≤ A = reach (n.X * L) A B (1904 * step) (2 ^ 2131) o.above (le_trans (lit≤ tt) (mul-le-mul_right L least)) in
      go k.s k.val k.off lead
    where
      reach : (W A B d c : ℕ) → W + B ≤ A + 0 + d → c + d + d ≤ W → c + B + d ≤ A
      reach W A B d c h l = omega arith

      more : (X A B d c : ℕ) → A + 0 ≤ X + B + d → c + B + d ≤ A → c ≤ X
      more X A B d c h l = omega arith

      none : (X A B d c : ℕ) → A + X ≤ 0 + B + d → c + B + d ≤ A → 0 < c → ⊥
      none X A B d c h l p = omega arith

      go : (s : Bool) → Val binary64 v s k.X → Off s (k.X * R) A B (1904 * step) → 2 ^ 2131 + B + 1904 * step ≤ A → T (lt eps v)
      go true val off lead = absurd (none (k.X * R) A B (1904 * step) (2 ^ 2131) off.below lead (lit< tt))
      go false val off lead =
          let g : 2 ^ 1051 ≤ k.X = le_of_mul-le-mul_right (le_trans (lit≤ tt) (le_trans (more (k.X * R) A B (1904 * step) (2 ^ 2131) off.below lead) (mul-le-mul_left k.X hi))) (lit< tt) in
          val_lt e val (lt_of_lt_of_le few g)

-- ---- the theorem: a, b and c are the triple, p the point; `tiny` is the length from which on a normal counts, and `eps` how far a point may stand over a plane

module _ {a b c p : Vector} (A : Three (2 * L) a) (B : Three (2 * L) b) (C : Three (2 * L) c) (P : Three (2 * L) p) {margin tiny eps : Float} {Y E : ℕ}
    (m : Val binary64 margin false (2 ^ 1058)) (t : Val binary64 tiny false Y) (long-tiny : 2 ^ 1040 ≤ Y) (e : Val binary64 eps false E) (few : E < 2 ^ 1051) where
  abbrev raw : Vector
  raw = cross_of (less_of b a) (less_of c a)

  abbrev nrm : Vector
  nrm = over_of raw (length_of raw)

  record Both : Type 0 where
    pub R : ℕ
    pub most : R ≤ 2 ^ 1080
    pub over : ℕ
    pub under : ℕ
    pub before : Near L (sub binary64 (dot_of raw p) (dot_of raw a)) over under 407 1904
    pub scaled : Near R (sub binary64 (dot_of nrm p) (dot_of nrm a)) over under 407 1904

  both_near : T (not (lt (length_of raw) tiny)) → Both
  both_near h =
      let n = normal_three A B C in
      let l = long n in
      let lo : 2 ^ 1040 ≤ l.R = le_trans long-tiny (not_lt_val l.val t h) in
      record {
        R = l.R;
        most = l.most;
        over = side n P plus + side n A minus;
        under = side n P minus + side n A plus;
        before = height_near L (lit≤ tt) (lit≤ tt) n (entries_self n) P A;
        scaled = height_near l.R lo l.most n (entries_over l.R lo l.most n l.val) P A;
      }

  pub well_over : T (not (lt (length_of raw) tiny)) → T (lt margin (sub binary64 (dot_of raw p) (dot_of raw a))) → T (lt eps (sub binary64 (dot_of nrm p) (dot_of nrm a)))
  well_over h w = let k = both_near h in far k.R k.most m e few k.before k.scaled w

  pub well_under : T (not (lt (length_of raw) tiny)) → T (lt (sub binary64 (dot_of raw p) (dot_of raw a)) (neg margin)) → T (lt (sub binary64 (dot_of nrm p) (dot_of nrm a)) (neg eps))
  well_under h w =
      let k = both_near h in
      subst T (lt_turned eps (sub binary64 (dot_of nrm p) (dot_of nrm a))) (far k.R k.most m e few (near_neg k.before) (near_neg k.scaled) (subst T (lt_turned (sub binary64 (dot_of raw p) (dot_of raw a)) margin) w))
