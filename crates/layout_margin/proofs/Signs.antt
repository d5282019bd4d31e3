-- Whole numbers with a sign, as what they put on the plus side and on the minus side; the sum of two floats before it is rounded, with its sign; a comparison turned about zero. Assumes nothing.
use mathlib.Core.Path.{◌≡◌, refl, sym, ap, ap₂, ◌∙◌}
use mathlib.Core.Logic.{inl, inr}
use Prim.Native.Nat.{ℕ, ◌+◌, ◌-◌, ◌*◌, ◌^◌, ◌≤◌, ◌<◌}
use native.Mathlib.Nat.{add_comm, mul_comm, mul-pos, zero-mul, mul-lt-mul_of_pos_right, lt_of_mul-lt-mul_right}
use native.Mathlib.Omega.{arith}
use mathlib.Core.Bool.{Bool, true, false, not, cond, ◌&&◌, ◌||◌}
use lib.Dec.{T, ltb, lt→ltb}
use lib.Pow.{pow_pos}
use lib.Ieee.{Float, nan, inf, fin, Format, binary64, low, up, down, round, sum, add, neg, lt, le, eq}
use lib.Ieee.Fits.{down_pos}
use lib.Ieee.Scale.{round_same}
use Rattle.float_widths.proofs.Grid.{le_or_lt}
use Rattle.float_bounds.proofs.Units.{Val, taken, opened_add, add_round, add_unlike, add_rest, add_turned}
use Rattle.float_bounds.proofs.Compare.{not_lt_val, cross_lt}

-- ---- the two sides of a number with a sign

unfoldable pub plus : Bool → ℕ → ℕ
plus false n = n
plus true n = 0

unfoldable pub minus : Bool → ℕ → ℕ
minus false n = 0
minus true n = n

-- s X is off a - b by E at the most
pub record Off (s : Bool) (X a b E : ℕ) : Type 0 where
  pub above : plus s X + b ≤ a + minus s X + E
  pub below : a + minus s X ≤ plus s X + b + E

pub off_turned : {s : Bool} {X a b E : ℕ} → Off s X a b E → Off (not s) X b a E
unfolding plus minus
off_turned {s} h = go s h
  where
    go : (s : Bool) {X a b E : ℕ} → Off s X a b E → Off (not s) X b a E
    go true h =
        let x = h.above in
        let y = h.below in
        record { above = omega arith; below = omega arith }
    go false h =
        let x = h.above in
        let y = h.below in
        record { above = omega arith; below = omega arith }

-- two numbers of one sign
pub off_same : (s : Bool) {X Y E : ℕ} → X ≤ Y + E → Y ≤ X + E → Off s X (plus s Y) (minus s Y) E
unfolding plus minus
off_same true x y = record { above = omega arith; below = omega arith }
off_same false x y = record { above = omega arith; below = omega arith }

-- ---- the number u N is s X and t Y together
pub record Adds (s : Bool) (X : ℕ) (t : Bool) (Y : ℕ) (u : Bool) (N : ℕ) : Type 0 where
  pub sides : plus s X + plus t Y + minus u N ≡ minus s X + minus t Y + plus u N
  pub few : N ≤ X + Y

plus_times : (s : Bool) (X R : ℕ) → plus s (X * R) ≡ plus s X * R
unfolding plus
plus_times true X R = sym (zero-mul R)
plus_times false X R = refl

minus_times : (s : Bool) (X R : ℕ) → minus s (X * R) ≡ minus s X * R
unfolding minus
minus_times true X R = refl
minus_times false X R = sym (zero-mul R)

-- the sum, moved from N to Z, is off what the two are near, by their distances and by the move; all R times
pub off_sum : {s t u : Bool} {X Y N a b c d E F : ℕ} (R Z G : ℕ) → Off s (X * R) a b E → Off t (Y * R) c d F → Adds s X t Y u N → Z * R ≤ N * R + G → N * R ≤ Z * R + G → Off u (Z * R) (a + c) (b + d) (E + F + G)
off_sum {s} {t} {u} {X} {Y} {N} {a} {b} {c} {d} {E} {F} R Z G h k j m n =
    let i : Off u (Z * R) (plus u (N * R)) (minus u (N * R)) G = off_same u m n in
    let e = ap (λ (z : ℕ). z * R) j.sides in
    let v = go (plus s X) (minus s X) (plus t Y) (minus t Y) (plus u N) (minus u N) (plus u (Z * R)) (minus u (Z * R)) a b c d E F G R
    (rw (plus_times s X R, minus_times s X R) at h.above) (rw (plus_times s X R, minus_times s X R) at h.below)
    (rw (plus_times t Y R, minus_times t Y R) at k.above) (rw (plus_times t Y R, minus_times t Y R) at k.below)
    (rw (plus_times u N R, minus_times u N R) at i.above) (rw (plus_times u N R, minus_times u N R) at i.below) e in
    record { above = v.0; below = v.1 }
  where
    go : (x x' y y' n n' z z' a b c d E F G R : ℕ) → x * R + b ≤ a + x' * R + E → a + x' * R ≤ x * R + b + E → y * R + d ≤ c + y' * R + F → c + y' * R ≤ y * R + d + F
        → z + n' * R ≤ n * R + z' + G → n * R + z' ≤ z + n' * R + G → (x + y + n') * R ≡ (x' + y' + n) * R → (z + (b + d) ≤ a + c + z' + (E + F + G)) × (a + c + z' ≤ z + (b + d) + (E + F + G))
    go x x' y y' n n' z z' a b c d E F G R h1 h2 k1 k2 j1 j2 e = (omega arith, omega arith)

-- ---- the sum of two floats, before it is rounded

-- of a number above 0 and a larger one below 0
add_under_of : (f : Format) (x y : Float) {X Y : ℕ} → Val f x false X → Val f y true Y → X < Y → add f x y ≡ round f true (Y - X) (2 ^ low f)
unfolding sum
add_under_of f nan y v w h = absurd v.has
add_under_of f (inf u) y v w h = absurd v.has
add_under_of f (fin u m e) nan v w h = absurd w.has
add_under_of f (fin u m e) (inf r) v w h = absurd w.has
add_under_of f (fin u m e) (fin r n d) {X} {Y} v w h =
    let a = m * up e in
    let b = n * up d in
    let L = 2 ^ low f in
    opened_add f u m e r n d
    ∙ ap₂ (λ (i j : Bool). sum f i (a * down d) j (b * down e) (down e * down d)) v.has.0 w.has.0
    ∙ go (a * down d) (b * down e) (down e * down d) (ltb (a * down d) (b * down e))
    (lt→ltb (a * down d) (b * down e) (lt_of_mul-lt-mul_right L (cross_lt a (down e) b (down d) X Y L v.has.1 w.has.1 (mul-lt-mul_of_pos_right h (mul-pos (down_pos e) (down_pos d))))))
    ∙ round_same f true (b * down e - a * down d) (down e * down d) (Y - X) L (mul-pos (down_pos e) (down_pos d)) (pow_pos (low f))
    (taken b (down d) a (down e) Y X L w.has.1 v.has.1 ∙ ap (λ (z : ℕ). (Y - X) * z) (mul_comm (down d) (down e)))
  where
    go : (a b c : ℕ) (x : Bool) → T x → cond x (round f true (b - a) c) (round f (false && ltb b a) (a - b) c) ≡ round f true (b - a) c
    go a b c true t = refl
    go a b c false t = absurd t

pub record SumOf (x y : Float) (s : Bool) (X : ℕ) (t : Bool) (Y : ℕ) : Type 0 where
  pub u : Bool
  pub N : ℕ
  pub is : add binary64 x y ≡ round binary64 u N (2 ^ 1074)
  pub adds : Adds s X t Y u N

pub sum_of : {x y : Float} {s t : Bool} {X Y : ℕ} → Val binary64 x s X → Val binary64 y t Y → SumOf x y s X t Y
unfolding plus minus
sum_of {x} {y} {s} {t} {X} {Y} v w = go s t v w
  where
    go : (s t : Bool) → Val binary64 x s X → Val binary64 y t Y → SumOf x y s X t Y
    go true true v w = record { u = true; N = X + Y; is = add_round v w; adds = record { sides = omega arith; few = omega arith } }
    go false false v w = record { u = false; N = X + Y; is = add_round v w; adds = record { sides = omega arith; few = omega arith } }
    go false true v w = elim (le_or_lt Y X) [
      | inl h ↦ record { u = false; N = X - Y; is = add_rest v w h; adds = record { sides = omega arith; few = omega arith } }
      | inr h ↦ record { u = true; N = Y - X; is = add_under_of binary64 x y v w h; adds = record { sides = omega arith; few = omega arith } }
    ]
    go true false v w = elim (le_or_lt X Y) [
      | inl h ↦ record { u = false; N = Y - X; is = add_turned v w h; adds = record { sides = omega arith; few = omega arith } }
      | inr h ↦ record { u = true; N = X - Y; is = add_unlike v w h; adds = record { sides = omega arith; few = omega arith } }
    ]

-- ---- comparisons

val_sign_of : (x : Float) {s t : Bool} {X Y : ℕ} → Val binary64 x s X → Val binary64 x t Y → s ≡ t
val_sign_of nan v w = absurd v.has
val_sign_of (inf u) v w = absurd v.has
val_sign_of (fin u m e) v w = sym v.has.0 ∙ w.has.0

pub val_sign : {x : Float} {s t : Bool} {X Y : ℕ} → Val binary64 x s X → Val binary64 x t Y → s ≡ t
val_sign {x} v w = val_sign_of x v w

pub val_lt : {x y : Float} {X Y : ℕ} → Val binary64 x false X → Val binary64 y false Y → X < Y → T (lt x y)
val_lt {x} {y} {X} {Y} v w h = go (lt x y) (not_lt_val v w)
  where
    go : (b : Bool) → (T (not b) → Y ≤ X) → T b
    go true k = tt
    go false k = let g = k tt in absurd (omega arith)

pub lt_le : (x y : Float) → T (lt x y) → T (le x y)
unfolding le
lt_le x y h = go (lt x y) h
  where
    go : (b : Bool) → T b → T (b || eq x y)
    go true h = tt
    go false h = absurd h

-- x is below −y where y is below −x
pub lt_turned : (x y : Float) → lt x (neg y) ≡ lt y (neg x)
unfolding lt neg
lt_turned nan nan = refl
lt_turned nan (inf t) = refl
lt_turned nan (fin t n d) = refl
lt_turned (inf s) nan = refl
lt_turned (inf true) (inf true) = refl
lt_turned (inf true) (inf false) = refl
lt_turned (inf false) (inf true) = refl
lt_turned (inf false) (inf false) = refl
lt_turned (inf true) (fin t n d) = refl
lt_turned (inf false) (fin t n d) = refl
lt_turned (fin s m e) nan = refl
lt_turned (fin s m e) (inf true) = refl
lt_turned (fin s m e) (inf false) = refl
lt_turned (fin true m e) (fin true n d) = ap (ltb 0) (add_comm (m * up e * down d) (n * up d * down e))
lt_turned (fin true m e) (fin false n d) = refl
lt_turned (fin false m e) (fin true n d) = refl
lt_turned (fin false m e) (fin false n d) = refl
