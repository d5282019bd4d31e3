-- Tests of floats as orders of whole numbers, and the size of a value without its sign. Each goes by the two values' fractions. Assumes nothing.
use mathlib.Core.Path.{◌≡◌, refl, sym, ap, ◌∙◌, subst}
use mathlib.Core.Logic.{◌⊎◌, inl, inr}
use Prim.Native.Nat.{ℕ, ◌+◌, ◌*◌, ◌^◌, ◌≤◌, ◌<◌, zero-le}
use native.Mathlib.Nat.{le_of_lt, le_of_eq, mul-pos, lt_of_mul-lt-mul_right, mul-lt-mul_of_pos_right, mul-le-mul_right, zero-mul, eq_of_mul-eq-mul_right}
use native.Mathlib.Omega.{arith}
use mathlib.Core.Bool.{Bool, true, false, not, true≢false, ◌||◌}
use lib.Dec.{T, eqb, eqb→eq, ltb→lt, lt→ltb, nltb→le, T_not}
use lib.Pow.{pow_pos}
use lib.Ieee.{Float, nan, inf, fin, Format, low, up, down, lt, le, eq, fits}
use lib.Ieee.Fits.{down_pos, and_l, and_r}
use lib.Ieee.Order.{le_of_values}
use lib.Ieee.Positive.{first_pos}
use lib.Ieee.Scale.{finite}
use Rattle.float_order.specs.Values.{+0, abs}
use Rattle.float_widths.proofs.Grid.{le_or_lt, zero_is}
use Rattle.float_bounds.proofs.Units.{Val, val_finite, own_units, left, right}
use Rattle.float_bounds.proofs.Size.{Mag, Most, Between, mag_of, most_sign}

-- ---- values from 0 on

-- a / e < b / d, where these are X / L and Y / L
pub cross_lt : (a e b d X Y L : ℕ) → a * L ≡ X * e → b * L ≡ Y * d → X * (e * d) < Y * (e * d) → a * d * L < b * e * L
cross_lt a e b d X Y L p q h =
    let x : a * L * d ≡ X * e * d = ap (λ (z : ℕ). z * d) p in
    let y : b * L * e ≡ Y * d * e = ap (λ (z : ℕ). z * e) q in
    omega arith

module _ (f : Format) where
  lt_val_of : (x y : Float) {X Y : ℕ} → Val f x false X → Val f y false Y → T (lt x y) → X < Y
  unfolding lt
  lt_val_of nan y v w h = absurd v.has
  lt_val_of (inf s) y v w h = absurd v.has
  lt_val_of (fin s m e) nan v w h = absurd w.has
  lt_val_of (fin s m e) (inf t) v w h = absurd w.has
  lt_val_of (fin true m e) (fin t n d) v w h = absurd (true≢false v.has.0)
  lt_val_of (fin false m e) (fin true n d) v w h = absurd h
  lt_val_of (fin false m e) (fin false n d) {X} {Y} v w h =
      let a = ltb→lt (m * up e * down d) (n * up d * down e) h in
      lt_of_mul-lt-mul_right (down e * down d) (go (m * up e) (down e) (n * up d) (down d) X Y (2 ^ low f) v.has.1 w.has.1 (mul-lt-mul_of_pos_right a (pow_pos (low f))))
    where
      go : (a e b d X Y L : ℕ) → a * L ≡ X * e → b * L ≡ Y * d → a * d * L < b * e * L → X * (e * d) < Y * (e * d)
      go a e b d X Y L p q h =
          let x : a * L * d ≡ X * e * d = ap (λ (z : ℕ). z * d) p in
          let y : b * L * e ≡ Y * d * e = ap (λ (z : ℕ). z * e) q in
          omega arith

  lt_of_val : (x y : Float) {X Y : ℕ} → Val f x false X → Val f y false Y → X < Y → T (lt x y)
  unfolding lt
  lt_of_val nan y v w h = absurd v.has
  lt_of_val (inf s) y v w h = absurd v.has
  lt_of_val (fin s m e) nan v w h = absurd w.has
  lt_of_val (fin s m e) (inf t) v w h = absurd w.has
  lt_of_val (fin true m e) (fin t n d) v w h = absurd (true≢false v.has.0)
  lt_of_val (fin false m e) (fin true n d) v w h = absurd (true≢false w.has.0)
  lt_of_val (fin false m e) (fin false n d) {X} {Y} v w h =
      lt→ltb (m * up e * down d) (n * up d * down e) (lt_of_mul-lt-mul_right (2 ^ low f) (cross_lt (m * up e) (down e) (n * up d) (down d) X Y (2 ^ low f) v.has.1 w.has.1 (mul-lt-mul_of_pos_right h (mul-pos (down_pos e) (down_pos d)))))

module _ {f : Format} {x y : Float} {X Y : ℕ} (v : Val f x false X) (w : Val f y false Y) where
  pub lt_val : T (lt x y) → X < Y
  lt_val h = lt_val_of f x y v w h

  -- a value that is not below another
  pub not_lt_val : T (not (lt x y)) → Y ≤ X
  not_lt_val h = elim (le_or_lt Y X) [ inl l ↦ l | inr l ↦ absurd (T_not (lt x y) h (lt_of_val f x y v w l)) ]

  pub val_le : X ≤ Y → T (le x y)
  val_le h = le_of_values x y X (2 ^ low f) Y (2 ^ low f) (pow_pos (low f)) (pow_pos (low f)) v.has w.has (mul-le-mul_right (2 ^ low f) h)

  pub not_le_val : T (not (le x y)) → Y < X
  not_le_val h = elim (le_or_lt X Y) [ inl l ↦ absurd (T_not (le x y) h (val_le l)) | inr l ↦ l ]

module _ (f : Format) where
  eq_val_of : (x y : Float) {X Y : ℕ} → Val f x false X → Val f y false Y → T (eq x y) → X ≡ Y
  unfolding eq
  eq_val_of nan y v w h = absurd v.has
  eq_val_of (inf s) y v w h = absurd v.has
  eq_val_of (fin s m e) nan v w h = absurd w.has
  eq_val_of (fin s m e) (inf t) v w h = absurd w.has
  eq_val_of (fin true m e) (fin t n d) v w h = absurd (true≢false v.has.0)
  eq_val_of (fin false m e) (fin true n d) v w h = absurd (true≢false w.has.0)
  eq_val_of (fin false m e) (fin false n d) {X} {Y} v w h =
      let a = eqb→eq (m * up e * down d) (n * up d * down e) (and_l (eqb (m * up e * down d) (n * up d * down e)) true h) in
      eq_of_mul-eq-mul_right (down e * down d) (mul-pos (down_pos e) (down_pos d)) X Y
      (sym (left (m * up e) (down e) (n * up d) (down d) X Y (2 ^ low f) v.has.1 w.has.1) ∙ ap (λ (z : ℕ). z * 2 ^ low f) a ∙ right (m * up e) (down e) (n * up d) (down d) X Y (2 ^ low f) v.has.1 w.has.1)

  abs_val_of : (x : Float) {s : Bool} {X : ℕ} → Val f x s X → Val f (abs x) false X
  unfolding abs
  abs_val_of nan v = absurd v.has
  abs_val_of (inf t) v = absurd v.has
  abs_val_of (fin t m e) v = record { has = (refl, v.has.1) }

  negative_of : (x : Float) {s : Bool} {X : ℕ} → Val f x s X → T (lt x +0) → s ≡ true
  unfolding lt
  negative_of nan v h = absurd h
  negative_of (inf t) v h = absurd v.has
  negative_of (fin false m e) v h = absurd (not_lt_zero (ltb→lt (m * up e * 1) (0 * 1 * down e) h) (zero-mul (down e)))
    where
      not_lt_zero : {a b : ℕ} → a < b → b ≡ 0 → ⊥
      not_lt_zero h e = omega arith
  negative_of (fin true m e) v h = sym v.has.0

  signed_of : (x : Float) {s : Bool} {X : ℕ} → Val f x s X → T (not (lt x +0)) → (s ≡ false) ⊎ ((s ≡ true) × (X ≡ 0))
  unfolding lt
  signed_of nan v h = absurd v.has
  signed_of (inf t) v h = absurd v.has
  signed_of (fin false m e) v h = inl (sym v.has.0)
  signed_of (fin true m e) {s} {X} v h =
      let N : m * up e * 1 + 0 * 1 * down e ≤ 0 = nltb→le 0 (m * up e * 1 + 0 * 1 * down e) h in
      let z : m * up e ≡ 0 = zero_of (m * up e) (0 * 1 * down e) N in
      inr (sym v.has.0, zero_is X (down e) (down_pos e) (sym v.has.1 ∙ ap (λ (k : ℕ). k * 2 ^ low f) z ∙ zero-mul (2 ^ low f)))
    where
      zero_of : (a b : ℕ) → a * 1 + b ≤ 0 → a ≡ 0
      zero_of a b h = omega arith

pub abs_val : {f : Format} {x : Float} {s : Bool} {X : ℕ} → Val f x s X → Val f (abs x) false X
abs_val {f} {x} v = abs_val_of f x v

pub le_val : {f : Format} {x y : Float} {X Y : ℕ} → Val f x false X → Val f y false Y → T (le x y) → X ≤ Y
unfolding le
le_val {f} {x} {y} {X} {Y} v w h = go (lt x y) (lt_val v w) (λ e. eq_val_of f x y v w e) h
  where
    go : (b : Bool) → (T b → X < Y) → (T (eq x y) → X ≡ Y) → T (b || eq x y) → X ≤ Y
    go true k e h = le_of_lt (k tt)
    go false k e h = le_of_eq (e h)

-- below zero, and from zero on; −0 is not below
module _ {f : Format} {x : Float} {s : Bool} {X : ℕ} (v : Val f x s X) where
  pub negative : T (lt x +0) → s ≡ true
  negative h = negative_of f x v h

  pub signed : T (not (lt x +0)) → (s ≡ false) ⊎ ((s ≡ true) × (X ≡ 0))
  signed h = signed_of f x v h

-- ---- from 0 to B; a zero may have its sign set
abbrev pub FromZero : Format → Float → ℕ → Type 0
FromZero f x B = Most f x false B ⊎ Val f x true 0

pub from_zero_mag : {f : Format} {x : Float} {B : ℕ} → FromZero f x B → Mag f x B
from_zero_mag (inl h) = mag_of h
from_zero_mag (inr v) = record { s = true; X = 0; val = v; most = zero-le }

pub from_zero : {f : Format} {x : Float} {s : Bool} {B : ℕ} → Most f x s B → T (not (lt x +0)) → FromZero f x B
from_zero {f} {x} {s} {B} h n = elim (signed h.val n) [
  | inl e ↦ inl (most_sign e h)
  | inr e ↦ inr (subst (λ (b : Bool). Val f x b 0) e.0 (subst (λ (X : ℕ). Val f x s X) e.1 h.val))
]

below_of : (f : Format) (x y : Float) {X Y : ℕ} → Val f x true X → Val f y false Y → 0 < Y → T (lt x y)
unfolding lt
below_of f nan y v w p = absurd v.has
below_of f (inf s) y v w p = absurd v.has
below_of f (fin s m e) nan v w p = absurd w.has
below_of f (fin s m e) (inf t) v w p = absurd w.has
below_of f (fin false m e) (fin t n d) v w p = absurd (true≢false (sym v.has.0))
below_of f (fin true m e) (fin true n d) v w p = absurd (true≢false w.has.0)
below_of f (fin true m e) (fin false n d) v w p =
    let b : 0 < n * up d * down e = mul-pos (first_pos (n * up d) (2 ^ low f) (subst (λ (z : ℕ). 0 < z) (sym w.has.1) (mul-pos p (down_pos d)))) (down_pos e) in
    lt→ltb 0 (m * up e * down d + n * up d * down e) (more (m * up e * down d) (n * up d * down e) b)
  where
    more : (a b : ℕ) → 0 < b → 0 < a + b
    more a b h = omega arith

above_of : (f : Format) (y x : Float) {s : Bool} {X Y : ℕ} → Val f y false Y → 0 < Y → Val f x s X → T (le y x) → s ≡ false
unfolding le lt eq
above_of f nan x w p v h = absurd w.has
above_of f (inf t) x w p v h = absurd w.has
above_of f (fin true n d) x w p v h = absurd (true≢false w.has.0)
above_of f (fin false n d) nan w p v h = absurd v.has
above_of f (fin false n d) (inf t) w p v h = absurd v.has
above_of f (fin false n d) (fin false m e) w p v h = sym v.has.0
above_of f (fin false n d) (fin true m e) w p v h =
    let a : 0 < n * up d * down e = mul-pos (first_pos (n * up d) (2 ^ low f) (subst (λ (z : ℕ). 0 < z) (sym w.has.1) (mul-pos p (down_pos d)))) (down_pos e) in
    absurd (none (n * up d * down e) a (eqb→eq (n * up d * down e) 0 (and_r (eqb (n * up d * down e) (m * up e * down d)) (eqb (n * up d * down e) 0) h)))
  where
    none : (a : ℕ) → 0 < a → a ≡ 0 → ⊥
    none a h e = omega arith

-- what is at least a value above 0
pub above_least : {f : Format} {x y : Float} {B Y : ℕ} → Mag f x B → Val f y false Y → 0 < Y → T (le y x) → Between f x false Y B
above_least {f} {x} {y} h w p t =
    let v : Val f x false h.X = subst (λ (s : Bool). Val f x s h.X) (above_of f y x w p h.val t) h.val in
    record { X = h.X; val = v; least = le_val w v t; most = h.most }

-- what is not below a value above 0
pub from_zero_least : {f : Format} {x y : Float} {B Y : ℕ} → FromZero f x B → Val f y false Y → 0 < Y → T (not (lt x y)) → Between f x false Y B
from_zero_least (inl h) w p n = record { X = h.X; val = h.val; least = not_lt_val h.val w n; most = h.most }
from_zero_least {f} {x} {y} (inr v) w p n = absurd (T_not (lt x y) n (below_of f x y v w p))

-- ---- a bound in size, as a test of the value without its sign

pub mag_test : {f : Format} {x b : Float} {B : ℕ} → Mag f x B → Val f b false B → T (le (abs x) b)
mag_test h v = val_le (abs_val h.val) v h.most

finite_of : (x b : Float) → T (finite b) → T (le (abs x) b) → T (finite x)
unfolding le lt eq abs
finite_of nan b h t = absurd t
finite_of (inf s) nan h t = absurd t
finite_of (inf s) (inf r) h t = absurd h
finite_of (inf s) (fin r m e) h t = absurd t
finite_of (fin s m e) b h t = tt

pub test_mag : {f : Format} {x b : Float} {B : ℕ} → T (fits f x) → T (le (abs x) b) → Val f b false B → Mag f x B
test_mag {f} {x} {b} h t v =
    let u = own_units f x (finite_of x b (val_finite v) t) h in
    record { s = u.0; X = u.1; val = u.2; most = le_val (abs_val u.2) v t }
