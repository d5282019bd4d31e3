-- Values that are near a whole number after they are scaled. R is a length in smallest values (1, or a normal's): `Near R x A B k e` says that x · R is A - B but for e steps, and at most k wholes in size;
-- a whole is 1 · 1, and a step 2 ^ -52 of it. A rounding costs k + 2 steps, whatever R is. Assumes nothing.
use mathlib.Core.Path.{◌≡◌, refl, sym, subst}
use Prim.Native.Nat.{ℕ, suc, ◌+◌, ◌*◌, ◌^◌, ◌≤◌, ◌<◌}
use native.Mathlib.Nat.{le_refl, le_trans, le_of_eq, lt_of_le_of_lt, lt_of_lt_of_le, one-mul, mul_assoc, mul-pos, mul-le-mul, mul-le-mul_left, mul-le-mul_right, le_of_mul-le-mul_right, lt_of_mul-lt-mul_right}
use native.Mathlib.Omega.{arith}
use mathlib.Core.Bool.{Bool, false}
use lib.Dec.{lit≤, lit<}
use lib.Pow.{pow_pos}
use lib.Ieee.{Float, binary64, unlike, add, sub, neg, mul, div}
use lib.Ieee.Scale.{grid, overflow}
use Rattle.float_bounds.proofs.Units.{Val, round_Val, mul_round, div_round, neg_val}
use Rattle.float_bounds.proofs.Size.{unlike_plus}
use Rattle.float_bounds.proofs.Error.{steps, round_error}
use Rattle.layout_margin.proofs.Signs.{plus, minus, Off, off_turned, off_same, off_sum, sum_of}

-- 1, in smallest values
abbrev pub L : ℕ
L = 2 ^ 1074

-- 1 · 1, in products of smallest values, and 2 ^ -52 of it
abbrev pub whole : ℕ
whole = 2 ^ 2148

abbrev pub step : ℕ
step = 2 ^ 2096

-- one rounding is one factor (D + 1) / D, or one smallest value
abbrev D : ℕ
D = steps binary64

-- ---- what the error of a rounding comes to: g is the result and n the number, d the unit, E what a step comes to and Q a whole

moved : (g n d k Q E : ℕ) → g * D ≤ (n + d) * suc D → n ≤ k * Q → d * suc D ≤ E → Q ≤ D * E → g ≤ n + suc k * E
moved g n d k Q E h l u q = le_of_mul-le-mul_right (go g n d k Q E D h l u (mul-le-mul_left k q) (mul-le-mul_right E (lit≤ tt))) (lit< tt)
  where
    go : (g n d k Q E C : ℕ) → g * C ≤ (n + d) * suc C → n ≤ k * Q → d * suc C ≤ E → k * Q ≤ k * (C * E) → 1 * E ≤ C * E → g * C ≤ (n + suc k * E) * C
    go g n d k Q E C h l u q e = omega arith

-- both ways, and the result in size
record Moved (g n k Q E : ℕ) : Type 0 where
  pub above : g ≤ n + suc (suc k) * E
  pub below : n ≤ g + suc (suc k) * E
  pub most : g ≤ suc k * Q

moved_both : (g n d k Q E : ℕ) → g * D ≤ (n + d) * suc D → n * D ≤ (g + d) * suc D → n ≤ k * Q → d * suc D ≤ E → Q ≤ D * E → suc k * E ≤ Q → Moved g n k Q E
moved_both g n d k Q E h j l u q r =
    let a : g ≤ n + suc k * E = moved g n d k Q E h l u q in
    let m : g ≤ suc k * Q = most g n k Q E a l r in
    record { above = more g n k E a; below = moved n g d (suc k) Q E j m u q; most = m }
  where
    most : (g n k Q E : ℕ) → g ≤ n + suc k * E → n ≤ k * Q → suc k * E ≤ Q → g ≤ suc k * Q
    most g n k Q E a l r = omega arith

    more : (g n k E : ℕ) → g ≤ n + suc k * E → g ≤ n + suc (suc k) * E
    more g n k E a = omega arith

-- the same with the factor r for a factor l
weighed : (g n d l r C : ℕ) → g * l * C ≤ (n * l + d * l) * suc C → 0 < l → g * r * C ≤ (n * r + d * r) * suc C
weighed g n d l r C h p =
    let a : g * C ≤ (n + d) * suc C = le_of_mul-le-mul_right (go g n d l C h) p in
    let b = mul-le-mul_right r a in
    omega arith
  where
    go : (g n d l C : ℕ) → g * l * C ≤ (n * l + d * l) * suc C → g * C * l ≤ (n + d) * suc C * l
    go g n d l C h = omega arith

-- ---- near a number, scaled
pub record Near (R : ℕ) (x : Float) (A B k e : ℕ) : Type 0 where
  pub s : Bool
  pub X : ℕ
  pub val : Val binary64 x s X
  pub size : X * R ≤ k * whole
  pub off : Off s (X * R) A B (e * step)

off_more : {s : Bool} {X a b E F : ℕ} → E ≤ F → Off s X a b E → Off s X a b F
off_more {s} {X} {a} {b} {E} {F} l h = record { above = go (plus s X + b) (a + minus s X) E F h.above l; below = go (a + minus s X) (plus s X + b) E F h.below l }
  where
    go : (x y E F : ℕ) → x ≤ y + E → E ≤ F → x ≤ y + F
    go x y E F h l = omega arith

pub near_neg : {R : ℕ} {x : Float} {A B k e : ℕ} → Near R x A B k e → Near R (neg x) B A k e
near_neg h = record { s = _; X = h.X; val = neg_val h.val; size = h.size; off = off_turned h.off }

-- R lies between 2 ^ -34 and 2 ^ 6
module _ (R : ℕ) (lo : 2 ^ 1040 ≤ R) (hi : R ≤ 2 ^ 1080) where
  small : (d : ℕ) → d ≤ R → d * suc D ≤ step
  small d h = le_trans (mul-le-mul_right (suc D) (le_trans h hi)) (lit≤ tt)

  no_overflow : (Z k : ℕ) → Z * R ≤ k * whole → k ≤ 2 ^ 20 → Z < overflow binary64
  no_overflow Z k h l = lt_of_mul-lt-mul_right (2 ^ 1040) (lt_of_le_of_lt (le_trans (mul-le-mul_left Z lo) (le_trans h (mul-le-mul_right whole l))) (lit< tt))

  few : (k : ℕ) → k ≤ 2 ^ 20 → k * step ≤ whole
  few k h = le_trans (mul-le-mul_right step h) (lit≤ tt)

  -- ---- a sum
  rounded_sum : (N k : ℕ) → N * R ≤ k * whole → suc k ≤ 2 ^ 20 → Moved (grid binary64 N L * R) (N * R) k whole step
  rounded_sum N k h l =
      let e = round_error binary64 N L (pow_pos 1074) in
      moved_both (grid binary64 N L * R) (N * R) (1 * R) k whole step (weighed (grid binary64 N L) N 1 L R D e.0 (pow_pos 1074)) (weighed N (grid binary64 N L) 1 L R D e.1 (pow_pos 1074)) h (small (1 * R) (le_of_eq (one-mul R))) (lit≤ tt) (few (suc k) l)

  pub near_add : {x y : Float} {A B A' B' k k' e e' : ℕ} → Near R x A B k e → Near R y A' B' k' e' → suc (k + k') ≤ 2 ^ 20 → Near R (add binary64 x y) (A + A') (B + B') (suc (k + k')) (e + e' + suc (suc (k + k')))
  near_add {x} {y} {A} {B} {A'} {B'} {k} {k'} {e} {e'} h j l =
      let o = sum_of h.val j.val in
      let Z = grid binary64 o.N L in
      let m = rounded_sum o.N (k + k') (both h.X j.X o.N R k k' whole h.size j.size (mul-le-mul_right R o.adds.few)) l in
      record {
        s = o.u;
        X = Z;
        val = subst (λ (z : Float). Val binary64 z o.u Z) (sym o.is) (round_Val binary64 o.u o.N L (no_overflow Z (suc (k + k')) m.most l));
        size = m.most;
        off = off_more (le_of_eq (gather e e' (suc (suc (k + k'))) step)) (off_sum R Z (suc (suc (k + k')) * step) h.off j.off o.adds m.above m.below);
      }
    where
      both : (X Y N R k l w : ℕ) → X * R ≤ k * w → Y * R ≤ l * w → N * R ≤ (X + Y) * R → N * R ≤ (k + l) * w
      both X Y N R k l w h j a = omega arith

      gather : (a b c t : ℕ) → a * t + b * t + c * t ≡ (a + b + c) * t
      gather a b c t = omega arith

  pub near_sub : {x y : Float} {A B A' B' k k' e e' : ℕ} → Near R x A B k e → Near R y A' B' k' e' → suc (k + k') ≤ 2 ^ 20 → Near R (sub binary64 x y) (A + B') (B + A') (suc (k + k')) (e + e' + suc (suc (k + k')))
  near_sub {x} {y} {A} {B} {A'} {B'} {k} {k'} {e} {e'} h j l = subst (λ (z : Float). Near R z (A + B') (B + A') (suc (k + k')) (e + e' + suc (suc (k + k')))) (sym (opened x y)) (near_add h (near_neg j) l)
    where
      opened : (x y : Float) → sub binary64 x y ≡ add binary64 x (neg y)
      opened x y = unfold sub in refl

-- ---- a number of a normal: X is that before it is scaled, at most 32 in size, and n the same or what is left of it after a division by R
pub record Entry (R : ℕ) (n : Float) (s : Bool) (X : ℕ) : Type 0 where
  pub N : ℕ
  pub val : Val binary64 n s N
  pub most : N * R ≤ 33 * whole
  pub above : N * R ≤ X * L + 34 * step
  pub below : X * L ≤ N * R + 34 * step

pub entry_self : {n : Float} {s : Bool} {X : ℕ} → Val binary64 n s X → X ≤ 32 * L → Entry L n s X
entry_self {n} {s} {X} v h = record { N = X; val = v; most = le_trans (mul-le-mul_right L h) (lit≤ tt); above = more (X * L) (34 * step); below = more (X * L) (34 * step) }
  where
    more : (a b : ℕ) → a ≤ a + b
    more a b = omega arith

module _ (R : ℕ) (lo : 2 ^ 1040 ≤ R) (hi : R ≤ 2 ^ 1080) where
  pub entry_over : {n l : Float} {s : Bool} {X : ℕ} → Val binary64 n s X → X ≤ 32 * L → Val binary64 l false R → Entry R (div binary64 n l) s X
  entry_over {n} {l} {s} {X} v h w =
      let pos : 0 < R = lt_of_lt_of_le (lit< tt) lo in
      let e = round_error binary64 X R pos in
      let G = grid binary64 X R in
      let m = moved_both (G * R) (X * L) R 32 whole step e.0 e.1 (le_trans (mul-le-mul_right L h) (lit≤ tt)) (small R lo hi R (le_refl R)) (lit≤ tt) (lit≤ tt) in
      record {
        N = G;
        val = subst (λ (t : Bool). Val binary64 (div binary64 n l) t G) (unlike_plus s) (subst (λ (z : Float). Val binary64 z (unlike s false) G) (sym (div_round v w pos)) (round_Val binary64 (unlike s false) X R (no_overflow R lo hi G 33 m.most (lit≤ tt))));
        most = m.most;
        above = m.above;
        below = m.below;
      }

  -- times a coordinate, at most 2 in size
  pub near_mul : {n p : Float} {s t : Bool} {X P : ℕ} → Entry R n s X → Val binary64 p t P → P ≤ 2 * L → Near R (mul binary64 n p) (plus (unlike s t) (X * P)) (minus (unlike s t) (X * P)) 67 136
  near_mul {n} {p} {s} {t} {X} {P} h w l =
      let N = h.N in
      let G = grid binary64 (N * P) (L * L) in
      let e = round_error binary64 (N * P) (L * L) (mul-pos (pow_pos 1074) (pow_pos 1074)) in
      let m = moved_both (G * L * R) (N * P * R) (L * R) 66 (whole * L) (step * L)
      (weighed (G * L) (N * P) L L R D (subst (λ (z : ℕ). z * D ≤ (N * P * L + L * L) * suc D) (sym (mul_assoc G L L)) e.0) (pow_pos 1074))
      (weighed (N * P) (G * L) L L R D (subst (λ (z : ℕ). N * P * L * D ≤ (z + L * L) * suc D) (sym (mul_assoc G L L)) e.1) (pow_pos 1074))
      (bound N P R L whole h.most (mul-le-mul h.most l)) (unit L R D step (mul-le-mul_left L (small R lo hi R (le_refl R)))) (lit≤ tt) (lit≤ tt) in
      let far : step * P ≤ step * (2 * L) = mul-le-mul_left step l in
      let size : G * R ≤ 67 * whole = le_of_mul-le-mul_right (drop G L R whole m.most) (pow_pos 1074) in
      record {
        s = unlike s t;
        X = G;
        val = subst (λ (z : Float). Val binary64 z (unlike s t) G) (sym (mul_round h.val w)) (round_Val binary64 (unlike s t) (N * P) (L * L) (no_overflow R lo hi G 67 size (lit≤ tt)));
        size = size;
        off = off_same (unlike s t)
            (le_of_mul-le-mul_right (over G L R N P X step m.above (mul-le-mul_right P h.above) far) (pow_pos 1074))
            (le_of_mul-le-mul_right (under G L R N P X step m.below (mul-le-mul_right P h.below) far) (pow_pos 1074));
      }
    where
      bound : (N P R l w : ℕ) → N * R ≤ 33 * w → N * R * P ≤ 33 * w * (2 * l) → N * P * R ≤ 66 * (w * l)
      bound N P R l w h k = omega arith

      unit : (l R C t : ℕ) → l * (R * suc C) ≤ l * t → l * R * suc C ≤ t * l
      unit l R C t h = omega arith

      drop : (G l R w : ℕ) → G * l * R ≤ 67 * (w * l) → G * R * l ≤ 67 * w * l
      drop G l R w h = omega arith

      over : (G l R N P X t : ℕ) → G * l * R ≤ N * P * R + 68 * (t * l) → N * R * P ≤ (X * l + 34 * t) * P → t * P ≤ t * (2 * l) → G * R * l ≤ (X * P + 136 * t) * l
      over G l R N P X t a b c = omega arith

      under : (G l R N P X t : ℕ) → N * P * R ≤ G * l * R + 68 * (t * l) → X * l * P ≤ (N * R + 34 * t) * P → t * P ≤ t * (2 * l) → X * P * l ≤ (G * R + 136 * t) * l
      under G l R N P X t a b c = omega arith
