-- The operations on values that are whole numbers of the format's smallest value: `Val f x s X` says that x is finite, has the sign s, and is X / 2 ^ low in size.
-- Each result is `round` of a fraction of those numbers, and where that does not overflow, it is the whole number `grid`. Assumes nothing.
use mathlib.Core.Path.{◌≡◌, refl, sym, ap, ap₂, ◌∙◌, subst}
use Prim.Native.Nat.{ℕ, zero, suc, ◌+◌, ◌-◌, ◌*◌, ◌/◌, ◌%◌, ◌^◌, ◌≤◌, ◌<◌}
use native.Mathlib.Nat.{le_of_lt, lt_irrefl, not-le_of_lt, mul-one, mul_comm, mul_assoc, mul-mul-mul_comm, mul-pos, mul-le-mul_right, mul-lt-mul_of_pos_right, le_of_mul-le-mul_right, lt_of_mul-lt-mul_right, eq_of_mul-eq-mul_right, zero-mul, mul-sub}
use native.Mathlib.Omega.{arith}
use mathlib.Core.Bool.{Bool, true, false, not, cond, ◌&&◌}
use lib.IntN.{ℤ, pos, negsuc}
use lib.Dec.{T, leb, ltb, eqb, ltb→lt, nltb→le, lt→ltb, leb→le}
use lib.Pow.{pow-add, pow_pos}
use lib.Ieee.{Float, nan, inf, fin, Format, binary32, binary64, prec, emax, low, up, down, unlike, round, sum, add, sub, neg, mul, div, fits}
use lib.Ieee.Digits.{back}
use lib.Ieee.Fits.{nan-fits, inf-fits, round-fits, round_is, down_pos, and_l, and_r}
use lib.Ieee.Exact.{HasValue, units_val}
use lib.Ieee.Order.{drop, kept}
use lib.Ieee.Scale.{grid, overflow, finite, round_same}
use lib.Ieee.Positive.{first_pos}
use borrow.Author.Tests.{ne_eqb}
use Rattle.float_widths.specs.Narrow.{narrow_of}
use Rattle.float_order.proofs.Laws.{pow_back}

pub record Val (f : Format) (x : Float) (s : Bool) (X : ℕ) : Type 0 where
  pub has : HasValue x s X (2 ^ low f)

-- a constant's number of smallest values, where it is a whole number of them: then its `Val` is computed
abbrev pub units_of : Format → Float → ℕ
units_of f nan = 0
units_of f (inf s) = 0
units_of f (fin s m e) = m * up e * 2 ^ low f / down e

val_finite_of : (f : Format) (x : Float) {s : Bool} {X : ℕ} → Val f x s X → T (finite x)
val_finite_of f nan v = absurd v.has
val_finite_of f (inf t) v = absurd v.has
val_finite_of f (fin t m e) v = tt

pub val_finite : {f : Format} {x : Float} {s : Bool} {X : ℕ} → Val f x s X → T (finite x)
val_finite {f} {x} = val_finite_of f x

-- ---- the result of `round`
pub round_Val : (f : Format) (s : Bool) (num den : ℕ) → grid f num den < overflow f → Val f (round f s num den) s (grid f num den)
round_Val f s num den h = record {
  has = subst (λ (z : Float). HasValue z s (grid f num den) (2 ^ low f)) (sym (round_is f s num den)) (units_val f s (kept (prec f) (num * 2 ^ low f) den) (drop (prec f) (num * 2 ^ low f) den) h);
}

-- ---- the product
mul_round_of : (f : Format) (x y : Float) {s t : Bool} {X Y : ℕ} → Val f x s X → Val f y t Y → mul f x y ≡ round f (unlike s t) (X * Y) (2 ^ low f * 2 ^ low f)
mul_round_of f nan y v w = absurd v.has
mul_round_of f (inf u) y v w = absurd v.has
mul_round_of f (fin u m e) nan v w = absurd w.has
mul_round_of f (fin u m e) (inf r) v w = absurd w.has
mul_round_of f (fin u m e) (fin r n d) {s} {t} {X} {Y} v w =
    opened u m e r n d
    ∙ ap₂ (λ (a b : Bool). round f (unlike a b) (m * up e * (n * up d)) (down e * down d)) v.has.0 w.has.0
    ∙ round_same f (unlike s t) (m * up e * (n * up d)) (down e * down d) (X * Y) (2 ^ low f * 2 ^ low f) (mul-pos (down_pos e) (down_pos d)) (mul-pos (pow_pos (low f)) (pow_pos (low f)))
    (mul-mul-mul_comm (m * up e) (n * up d) (2 ^ low f) (2 ^ low f) ∙ ap₂ (λ (a b : ℕ). a * b) v.has.1 w.has.1 ∙ mul-mul-mul_comm X (down e) Y (down d))
  where
    opened : (u : Bool) (m : ℕ) (e : ℤ) (r : Bool) (n : ℕ) (d : ℤ) → mul f (fin u m e) (fin r n d) ≡ round f (unlike u r) (m * up e * (n * up d)) (down e * down d)
    opened u m e r n d = unfold mul in refl

pub mul_round : {f : Format} {x y : Float} {s t : Bool} {X Y : ℕ} → Val f x s X → Val f y t Y → mul f x y ≡ round f (unlike s t) (X * Y) (2 ^ low f * 2 ^ low f)
mul_round {f} {x} {y} = mul_round_of f x y

-- ---- the quotient
div_round_of : (f : Format) (x y : Float) {s t : Bool} {X Y : ℕ} → Val f x s X → Val f y t Y → 0 < Y → div f x y ≡ round f (unlike s t) X Y
div_round_of f nan y v w p = absurd v.has
div_round_of f (inf u) y v w p = absurd v.has
div_round_of f (fin u m e) nan v w p = absurd w.has
div_round_of f (fin u m e) (inf r) v w p = absurd w.has
div_round_of f (fin u m e) (fin r n d) {s} {t} {X} {Y} v w p =
    let L = 2 ^ low f in
    let num : 0 < n * up d = first_pos (n * up d) L (subst (λ (z : ℕ). 0 < z) (sym w.has.1) (mul-pos p (down_pos d))) in
    opened u m e r n d
    ∙ ap (λ (b : Bool). cond b (cond (eqb m 0) nan (inf (unlike u r))) (round f (unlike u r) (m * up e * down d) (n * up d * down e))) (ne_eqb n 0 (λ z. lt_irrefl 0 (subst (λ (i : ℕ). 0 < i) z (first_pos n (up d) num))))
    ∙ ap₂ (λ (a b : Bool). round f (unlike a b) (m * up e * down d) (n * up d * down e)) v.has.0 w.has.0
    ∙ round_same f (unlike s t) (m * up e * down d) (n * up d * down e) X Y (mul-pos num (down_pos e)) p
    (eq_of_mul-eq-mul_right L (pow_pos (low f)) (m * up e * down d * Y) (X * (n * up d * down e)) (cross (m * up e) (down e) (n * up d) (down d) X Y L v.has.1 w.has.1))
  where
    opened : (u : Bool) (m : ℕ) (e : ℤ) (r : Bool) (n : ℕ) (d : ℤ) → div f (fin u m e) (fin r n d) ≡ cond (eqb n 0) (cond (eqb m 0) nan (inf (unlike u r))) (round f (unlike u r) (m * up e * down d) (n * up d * down e))
    opened u m e r n d = unfold div in refl

    cross : (a e b d X Y L : ℕ) → a * L ≡ X * e → b * L ≡ Y * d → a * d * Y * L ≡ X * (b * e) * L
    cross a e b d X Y L p q =
        let x : a * L * (d * Y) ≡ X * e * (d * Y) = ap (λ (z : ℕ). z * (d * Y)) p in
        let y : b * L * (X * e) ≡ Y * d * (X * e) = ap (λ (z : ℕ). z * (X * e)) q in
        omega arith

pub div_round : {f : Format} {x y : Float} {s t : Bool} {X Y : ℕ} → Val f x s X → Val f y t Y → 0 < Y → div f x y ≡ round f (unlike s t) X Y
div_round {f} {x} {y} = div_round_of f x y

-- ---- sums
pub opened_add : (f : Format) (u : Bool) (m : ℕ) (e : ℤ) (r : Bool) (n : ℕ) (d : ℤ) → add f (fin u m e) (fin r n d) ≡ sum f u (m * up e * down d) r (n * up d * down e) (down e * down d)
opened_add f u m e r n d = unfold add in refl

sum_like : (f : Format) (s : Bool) (a b c : ℕ) → sum f s a s b c ≡ round f s (a + b) c
sum_like f true a b c = unfold sum in refl
sum_like f false a b c = unfold sum in refl

sum_unlike : (f : Format) (s : Bool) (a b c : ℕ) → b < a → sum f s a (not s) b c ≡ round f s (a - b) c
unfolding sum
sum_unlike f true a b c h = go (ltb a b) (ltb b a) (ltb→lt a b) (lt→ltb b a h)
  where
    go : (x y : Bool) → (T x → a < b) → T y → cond x (round f false (b - a) c) (round f (true && y) (a - b) c) ≡ round f true (a - b) c
    go true y k t = absurd (not-le_of_lt (k tt) (le_of_lt h))
    go false true k t = refl
    go false false k t = absurd t
sum_unlike f false a b c h = go (ltb a b) (ltb→lt a b)
  where
    go : (x : Bool) → (T x → a < b) → cond x (round f true (b - a) c) (round f false (a - b) c) ≡ round f false (a - b) c
    go true k = absurd (not-le_of_lt (k tt) (le_of_lt h))
    go false k = refl

sum_rest : (f : Format) (a b c : ℕ) → b ≤ a → sum f false a true b c ≡ round f false (a - b) c
unfolding sum
sum_rest f a b c h = go (ltb a b) (ltb→lt a b)
  where
    go : (x : Bool) → (T x → a < b) → cond x (round f true (b - a) c) (round f false (a - b) c) ≡ round f false (a - b) c
    go true k = absurd (not-le_of_lt (k tt) h)
    go false k = refl

sum_turned : (f : Format) (a b c : ℕ) → a ≤ b → sum f true a false b c ≡ round f false (b - a) c
unfolding sum
sum_turned f a b c h = go (ltb a b) (ltb b a) (nltb→le a b) (ltb→lt b a)
  where
    go : (x y : Bool) → (T (not x) → b ≤ a) → (T y → b < a) → cond x (round f false (b - a) c) (round f (true && y) (a - b) c) ≡ round f false (b - a) c
    go true y k t = refl
    go false true k t = absurd (not-le_of_lt (t tt) h)
    go false false k t = let g = k tt in ap (λ (n : ℕ). round f false n c) (same a b g h)
      where
        same : (a b : ℕ) → b ≤ a → a ≤ b → a - b ≡ b - a
        same a b g h = omega arith

module _ (a e b d X Y L : ℕ) (p : a * L ≡ X * e) (q : b * L ≡ Y * d) where
  pub left : a * d * L ≡ X * (e * d)
  left = let x : a * L * d ≡ X * e * d = ap (λ (z : ℕ). z * d) p in omega arith

  pub right : b * e * L ≡ Y * (e * d)
  right = let x : b * L * e ≡ Y * d * e = ap (λ (z : ℕ). z * e) q in omega arith

  joined : (a * d + b * e) * L ≡ (X + Y) * (e * d)
  joined = let x = left in let y = right in omega arith

  pub taken : (a * d - b * e) * L ≡ (X - Y) * (e * d)
  taken =
      mul_comm (a * d - b * e) L ∙ mul-sub L (a * d) (b * e) ∙ ap₂ (λ (x y : ℕ). x - y) (mul_comm L (a * d) ∙ left) (mul_comm L (b * e) ∙ right)
      ∙ ap₂ (λ (x y : ℕ). x - y) (mul_comm X (e * d)) (mul_comm Y (e * d)) ∙ sym (mul-sub (e * d) X Y) ∙ mul_comm (e * d) (X - Y)

  less : 0 < e * d → Y < X → b * e < a * d
  less E h = lt_of_mul-lt-mul_right L (subst (λ (z : ℕ). z < a * d * L) (sym right) (subst (λ (z : ℕ). Y * (e * d) < z) (sym left) (mul-lt-mul_of_pos_right h E)))

  no_more : 0 < L → Y ≤ X → b * e ≤ a * d
  no_more P h = le_of_mul-le-mul_right (subst (λ (z : ℕ). z ≤ a * d * L) (sym right) (subst (λ (z : ℕ). Y * (e * d) ≤ z) (sym left) (mul-le-mul_right (e * d) h))) P

add_round_of : (f : Format) (x y : Float) {s : Bool} {X Y : ℕ} → Val f x s X → Val f y s Y → add f x y ≡ round f s (X + Y) (2 ^ low f)
add_round_of f nan y v w = absurd v.has
add_round_of f (inf u) y v w = absurd v.has
add_round_of f (fin u m e) nan v w = absurd w.has
add_round_of f (fin u m e) (inf r) v w = absurd w.has
add_round_of f (fin u m e) (fin r n d) {s} {X} {Y} v w =
    opened_add f u m e r n d
    ∙ ap₂ (λ (a b : Bool). sum f a (m * up e * down d) b (n * up d * down e) (down e * down d)) v.has.0 w.has.0
    ∙ sum_like f s (m * up e * down d) (n * up d * down e) (down e * down d)
    ∙ round_same f s (m * up e * down d + n * up d * down e) (down e * down d) (X + Y) (2 ^ low f) (mul-pos (down_pos e) (down_pos d)) (pow_pos (low f))
    (joined (m * up e) (down e) (n * up d) (down d) X Y (2 ^ low f) v.has.1 w.has.1)

pub add_round : {f : Format} {x y : Float} {s : Bool} {X Y : ℕ} → Val f x s X → Val f y s Y → add f x y ≡ round f s (X + Y) (2 ^ low f)
add_round {f} {x} {y} = add_round_of f x y

-- of unlike signs the larger one's remains
add_unlike_of : (f : Format) (x y : Float) {s : Bool} {X Y : ℕ} → Val f x s X → Val f y (not s) Y → Y < X → add f x y ≡ round f s (X - Y) (2 ^ low f)
add_unlike_of f nan y v w h = absurd v.has
add_unlike_of f (inf u) y v w h = absurd v.has
add_unlike_of f (fin u m e) nan v w h = absurd w.has
add_unlike_of f (fin u m e) (inf r) v w h = absurd w.has
add_unlike_of f (fin u m e) (fin r n d) {s} {X} {Y} v w h =
    opened_add f u m e r n d
    ∙ ap₂ (λ (a b : Bool). sum f a (m * up e * down d) b (n * up d * down e) (down e * down d)) v.has.0 w.has.0
    ∙ sum_unlike f s (m * up e * down d) (n * up d * down e) (down e * down d) (less (m * up e) (down e) (n * up d) (down d) X Y (2 ^ low f) v.has.1 w.has.1 (mul-pos (down_pos e) (down_pos d)) h)
    ∙ round_same f s (m * up e * down d - n * up d * down e) (down e * down d) (X - Y) (2 ^ low f) (mul-pos (down_pos e) (down_pos d)) (pow_pos (low f))
    (taken (m * up e) (down e) (n * up d) (down d) X Y (2 ^ low f) v.has.1 w.has.1)

pub add_unlike : {f : Format} {x y : Float} {s : Bool} {X Y : ℕ} → Val f x s X → Val f y (not s) Y → Y < X → add f x y ≡ round f s (X - Y) (2 ^ low f)
add_unlike {f} {x} {y} = add_unlike_of f x y

add_rest_of : (f : Format) (x y : Float) {X Y : ℕ} → Val f x false X → Val f y true Y → Y ≤ X → add f x y ≡ round f false (X - Y) (2 ^ low f)
add_rest_of f nan y v w h = absurd v.has
add_rest_of f (inf u) y v w h = absurd v.has
add_rest_of f (fin u m e) nan v w h = absurd w.has
add_rest_of f (fin u m e) (inf r) v w h = absurd w.has
add_rest_of f (fin u m e) (fin r n d) {X} {Y} v w h =
    opened_add f u m e r n d
    ∙ ap₂ (λ (a b : Bool). sum f a (m * up e * down d) b (n * up d * down e) (down e * down d)) v.has.0 w.has.0
    ∙ sum_rest f (m * up e * down d) (n * up d * down e) (down e * down d) (no_more (m * up e) (down e) (n * up d) (down d) X Y (2 ^ low f) v.has.1 w.has.1 (pow_pos (low f)) h)
    ∙ round_same f false (m * up e * down d - n * up d * down e) (down e * down d) (X - Y) (2 ^ low f) (mul-pos (down_pos e) (down_pos d)) (pow_pos (low f))
    (taken (m * up e) (down e) (n * up d) (down d) X Y (2 ^ low f) v.has.1 w.has.1)

pub add_rest : {f : Format} {x y : Float} {X Y : ℕ} → Val f x false X → Val f y true Y → Y ≤ X → add f x y ≡ round f false (X - Y) (2 ^ low f)
add_rest {f} {x} {y} = add_rest_of f x y

add_turned_of : (f : Format) (x y : Float) {X Y : ℕ} → Val f x true X → Val f y false Y → X ≤ Y → add f x y ≡ round f false (Y - X) (2 ^ low f)
add_turned_of f nan y v w h = absurd v.has
add_turned_of f (inf u) y v w h = absurd v.has
add_turned_of f (fin u m e) nan v w h = absurd w.has
add_turned_of f (fin u m e) (inf r) v w h = absurd w.has
add_turned_of f (fin u m e) (fin r n d) {X} {Y} v w h =
    let a = m * up e in
    let b = n * up d in
    let L = 2 ^ low f in
    opened_add f u m e r n d
    ∙ ap₂ (λ (i j : Bool). sum f i (a * down d) j (b * down e) (down e * down d)) v.has.0 w.has.0
    ∙ sum_turned f (a * down d) (b * down e) (down e * down d) (le_of_mul-le-mul_right (order a (down e) b (down d) X Y L v.has.1 w.has.1 h) (pow_pos (low f)))
    ∙ round_same f false (b * down e - a * down d) (down e * down d) (Y - X) L (mul-pos (down_pos e) (down_pos d)) (pow_pos (low f))
    (taken b (down d) a (down e) Y X L w.has.1 v.has.1 ∙ ap (λ (z : ℕ). (Y - X) * z) (mul_comm (down d) (down e)))
  where
    order : (a e b d X Y L : ℕ) → a * L ≡ X * e → b * L ≡ Y * d → X ≤ Y → a * d * L ≤ b * e * L
    order a e b d X Y L p q h =
        let l = left a e b d X Y L p q in
        let r = right a e b d X Y L p q in
        let x = mul-le-mul_right (e * d) h in
        omega arith

pub add_turned : {f : Format} {x y : Float} {X Y : ℕ} → Val f x true X → Val f y false Y → X ≤ Y → add f x y ≡ round f false (Y - X) (2 ^ low f)
add_turned {f} {x} {y} = add_turned_of f x y

neg_val_of : (f : Format) (x : Float) {s : Bool} {X : ℕ} → Val f x s X → Val f (neg x) (not s) X
unfolding neg
neg_val_of f nan v = absurd v.has
neg_val_of f (inf u) v = absurd v.has
neg_val_of f (fin u m e) v = record { has = (ap not v.has.0, v.has.1) }

pub neg_val : {f : Format} {x : Float} {s : Bool} {X : ℕ} → Val f x s X → Val f (neg x) (not s) X
neg_val {f} {x} = neg_val_of f x

pub sub_is : (f : Format) (x y : Float) → sub f x y ≡ add f x (neg y)
sub_is f x y = unfold sub in refl

pub sub_rest : {f : Format} {x y : Float} {X Y : ℕ} → Val f x false X → Val f y false Y → Y ≤ X → sub f x y ≡ round f false (X - Y) (2 ^ low f)
sub_rest {f} {x} {y} v w h = sub_is f x y ∙ add_rest v (neg_val w) h

-- ---- the narrower format
narrow_round_of : (x : Float) {s : Bool} {X : ℕ} → Val binary64 x s X → narrow_of x ≡ round binary32 s X (2 ^ low binary64)
unfolding narrow_of
narrow_round_of nan v = absurd v.has
narrow_round_of (inf u) v = absurd v.has
narrow_round_of (fin u m e) {s} {X} v =
    ap (λ (b : Bool). round binary32 b (m * up e) (down e)) v.has.0
    ∙ round_same binary32 s (m * up e) (down e) X (2 ^ low binary64) (down_pos e) (pow_pos (low binary64)) v.has.1

pub narrow_round : {x : Float} {s : Bool} {X : ℕ} → Val binary64 x s X → narrow_of x ≡ round binary32 s X (2 ^ low binary64)
narrow_round {x} = narrow_round_of x

pub narrow_fits : (x : Float) → T (fits binary32 (narrow_of x))
unfolding narrow_of
narrow_fits nan = nan-fits binary32
narrow_fits (inf s) = inf-fits binary32 s
narrow_fits (fin s m e) = round-fits binary32 s (m * up e) (down e)

-- ---- a value that the format holds
pub own_units : (f : Format) (x : Float) → T (finite x) → T (fits f x) → (s : Bool) × (X : ℕ) × Val f x s X
unfolding fits
own_units f nan p h = absurd p
own_units f (inf s) p h = absurd p
own_units f (fin s zero e) p h = (s, 0, record { has = (refl, ap (λ (z : ℕ). z * 2 ^ low f) (zero-mul (up e)) ∙ zero-mul (2 ^ low f) ∙ sym (zero-mul (down e))) })
own_units f (fin s (suc m) (pos k)) p h = (s, suc m * 2 ^ k * 2 ^ low f, record { has = (refl, sym (mul-one (suc m * 2 ^ k * 2 ^ low f))) })
own_units f (fin s (suc m) (negsuc k)) p h =
    let A = eqb (suc m % 2) 1 in
    let B = ltb (suc m) (2 ^ prec f) in
    let C = leb (2 ^ suc k) (2 ^ low f) in
    let D = ltb (suc m * 1) (2 ^ suc (emax f) * 2 ^ suc k) in
    let l : suc k ≤ low f = pow_back (suc k) (low f) (leb→le (2 ^ suc k) (2 ^ low f) (and_r (A && B) C (and_l (A && B && C) D h))) in (
      s,
      suc m * 2 ^ (low f - suc k),
      record { has = (refl, ap (λ (z : ℕ). suc m * 1 * 2 ^ z) (sym (back (low f) (suc k) l)) ∙ ap (λ (z : ℕ). suc m * 1 * z) (pow-add 2 (low f - suc k) (suc k)) ∙ ap (λ (z : ℕ). z * (2 ^ (low f - suc k) * 2 ^ suc k)) (mul-one (suc m)) ∙ sym (mul_assoc (suc m) (2 ^ (low f - suc k)) (2 ^ suc k))) },
    )
