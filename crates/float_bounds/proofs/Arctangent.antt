-- The arctangent of what lies from 0 to 1 lies from 0 to 1 (three halvings bring the argument to 1/8 at most, and the coefficients fall), and so `atan2` of any two finite values is at most PI64 in size. Assumes nothing.
use mathlib.Core.Path.{◌≡◌, refl, sym, ap, ◌∙◌, subst}
use mathlib.Core.Logic.{inl, inr}
use Prim.Native.Nat.{ℕ, ◌+◌, ◌*◌, ◌^◌, ◌≤◌, ◌<◌, zero-le}
use native.Mathlib.Nat.{le_refl, le_trans, le_of_eq, le_of_lt, lt_of_lt_of_le, mul_comm, mul-one, zero-mul, mul-le-mul_right, eq-zero-or-pos}
use native.Mathlib.Omega.{arith}
use mathlib.Core.Bool.{Bool, true, false, not, cond, ◌&&◌, false≢true}
use lib.Dec.{T, lit≤, lit<, eqb, eqb_refl}
use lib.Pow.{pow_pos}
use lib.Ieee.{Float, nan, inf, fin, binary64, up, down, add, sub, mul, div, le, eq}
use lib.Ieee.Fits.{and_i, add-fits}
use lib.Ieee.Scale.{overflow}
use Rattle.float_order.specs.Values.{+0, 1·0, sign_bit}
use Rattle.float_sine.specs.Pi.{half_pi}
use Rattle.float_arctangent.specs.Arctangent.{8·0, halved_of, eightfold_of, atan_of, ratio_of, first_quadrant_of, with_sign_of_x, with_sign_of_y, atan2_of}
use Rattle.float_widths.proofs.Grid.{zero_is}
use Rattle.float_bounds.proofs.Units.{Val, add_round, div_round}
use Rattle.float_bounds.proofs.Held.{Held, held}
use Rattle.float_bounds.proofs.Size.{Most, Mag, Between, mag_of, mag_neg, mag_cond, most_more, round_most, round_between, times_most, square_most, rest_most, div_most}
use Rattle.float_bounds.proofs.Compare.{abs_val, le_val, not_le_val}
use Rattle.float_bounds.proofs.Root.{sqrt_val}
use Rattle.float_bounds.proofs.Pi.{H, half_val, half_held, pi_val, pi_held}
use Rattle.float_bounds.proofs.Sum.{sum_most, arctangent_falling}

-- 1, in smallest values
abbrev L : ℕ
L = 2 ^ 1074

one_held : Held binary64 L
one_held = held binary64 1 1074 (lit≤ tt)

one_val : Val binary64 1·0 false L
one_val = record { has = (refl, refl) }

-- 1 plus a value
plus_one : {x : Float} {X : ℕ} (A C : ℕ) → Val binary64 x false X → Held binary64 A → Held binary64 C → C < overflow binary64 → A ≤ L + X → L + X ≤ C → Between binary64 (add binary64 1·0 x) false A C
plus_one {x} {X} A C v h k l a b = round_between false (L + X) L A C (add_round one_val v) (pow_pos 1074) h k l (mul-le-mul_right L a) (mul-le-mul_right L b)

-- the divisor 1 + √(1 + q·q) is 2 at least
halved_most : {q : Float} (B : ℕ) → Most binary64 q false (2 * B) → 2 * B ≤ L → Held binary64 B → Most binary64 (halved_of q) false B
unfolding halved_of
halved_most {q} B h le c =
    let z = square_most (most_more le h) one_held (lit< tt) in
    let s = plus_one L (2 * L) z.val one_held (held binary64 2 1074 (lit≤ tt)) (lit< tt) (first L z.X) (twice L z.X z.most) in
    let r = sqrt_val (add-fits binary64 1·0 (mul binary64 q q)) s.val (lt_of_lt_of_le (lit< tt) s.least) in
    let R-ge : L ≤ r.R = r.least L one_held (lit< tt) (mul-le-mul_right L s.least) in
    let R-le : r.R ≤ 2 * L = r.most (2 * L) (held binary64 2 1074 (lit≤ tt)) (lit< tt) (le_trans (mul-le-mul_right L s.most) (lit≤ tt)) in
    let d = plus_one (2 * L) (4 * L) r.val (held binary64 2 1074 (lit≤ tt)) (held binary64 4 1074 (lit≤ tt)) (lit< tt) (both L r.R R-ge) (third L r.R R-le) in
    div_most {Y = d.X} B (2 * L) h d.val d.least (lit< tt) c (small B L le (lit< tt)) (le_of_eq (turn B L))
  where
    first : (l x : ℕ) → l ≤ l + x
    first l x = omega arith

    twice : (l x : ℕ) → x ≤ l → l + x ≤ 2 * l
    twice l x h = omega arith

    both : (l r : ℕ) → l ≤ r → 2 * l ≤ l + r
    both l r h = omega arith

    third : (l r : ℕ) → r ≤ 2 * l → l + r ≤ 4 * l
    third l r h = omega arith

    small : (B l : ℕ) {o : ℕ} → 2 * B ≤ l → l < o → B < o
    small B l h k = omega arith

    turn : (B l : ℕ) → 2 * B * l ≡ B * (2 * l)
    turn B l = omega arith

pub atan_most : {q : Float} → Most binary64 q false L → Most binary64 (atan_of q) false L
unfolding atan_of eightfold_of
atan_most {q} h =
    let a = halved_most (2 ^ 1071) (halved_most (2 ^ 1072) (halved_most (2 ^ 1073) h (lit≤ tt) (held binary64 1 1073 (lit≤ tt))) (lit≤ tt) (held binary64 1 1072 (lit≤ tt))) (lit≤ tt) (held binary64 1 1071 (lit≤ tt)) in
    let z = square_most (most_more (lit≤ tt) a) one_held (lit< tt) in
    let p = times_most (2 ^ 1071) a (sum_most z arctangent_falling) (held binary64 1 1071 (lit≤ tt)) (lit< tt) (lit≤ tt) in
    times_most L eight p one_held (lit< tt) (lit≤ tt)
  where
    eight : Most binary64 8·0 false (8 * L)
    eight = record { X = 8 * L; val = record { has = (refl, refl) }; most = le_refl (8 * L) }

-- ---- the quotient of the smaller by the larger

-- a zero equals +0
eq_zero : (x : Float) {X : ℕ} → Val binary64 x false X → X ≡ 0 → T (eq x +0)
unfolding eq
eq_zero nan v z = absurd v.has
eq_zero (inf t) v z = absurd v.has
eq_zero (fin true m e) v z = absurd (false≢true (sym v.has.0))
eq_zero (fin false m e) {X} v z =
    let a : m * up e * L ≡ 0 = v.has.1 ∙ ap (λ (k : ℕ). k * down e) z ∙ zero-mul (down e) in
    let b : m * up e ≡ 0 = zero_is (m * up e) L (pow_pos 1074) a in
    let c : T (eqb (m * up e * 1) (0 * 1 * down e)) = subst (λ (k : ℕ). T (eqb k (0 * 1 * down e))) (sym (mul-one (m * up e) ∙ b)) (subst (λ (k : ℕ). T (eqb 0 k)) (sym (zero-mul (down e))) (eqb_refl 0)) in
    and_i (eqb (m * up e * 1) (0 * 1 * down e)) true c tt

ratio_most : {y x : Float} {Y X : ℕ} → Val binary64 y false Y → Val binary64 x false X → Y ≤ X → Most binary64 (ratio_of y x) false L
unfolding ratio_of
ratio_most {y} {x} {Y} {X} v w le = go (eq y +0 && eq x +0) (λ z. and_i (eq y +0) (eq x +0) (eq_zero y v (none Y X le z)) (eq_zero x w z))
  where
    none : (Y X : ℕ) → Y ≤ X → X ≡ 0 → Y ≡ 0
    none Y X h e = omega arith

    go : (t : Bool) → (X ≡ 0 → T t) → Most binary64 (cond t +0 (div binary64 y x)) false L
    go true h = record { X = 0; val = record { has = (refl, refl) }; most = zero-le }
    go false h = elim (eq-zero-or-pos X) [
      | inl z ↦ absurd (h z)
      | inr p ↦ round_most false Y X L (div_round v w p) p one_held (lit< tt) (le_trans (mul-le-mul_right L le) (le_of_eq (mul_comm X L)))
    ]

-- ---- the quadrants

first_most : {y x : Float} {Y X : ℕ} → Val binary64 y false Y → Val binary64 x false X → Most binary64 (first_quadrant_of y x) false H
unfolding first_quadrant_of
first_most {y} {x} {Y} {X} v w = go (le y x) (le_val v w) (not_le_val v w)
  where
    go : (t : Bool) → (T t → Y ≤ X) → (T (not t) → X < Y) → Most binary64 (cond t (atan_of (ratio_of y x)) (sub binary64 half_pi (atan_of (ratio_of x y)))) false H
    go true h k = most_more (lit≤ tt) (atan_most (ratio_most v w (h tt)))
    go false h k = rest_most half_val (most_more (lit≤ tt) (atan_most (ratio_most w v (le_of_lt (k tt))))) half_held (lit< tt)

-- at most pi
pub atan2_mag : {y x : Float} {A B : ℕ} → Mag binary64 y A → Mag binary64 x B → Mag binary64 (atan2_of y x) (2 * H)
unfolding atan2_of with_sign_of_x with_sign_of_y
atan2_mag {y} {x} h k =
    let a = first_most (abs_val h.val) (abs_val k.val) in
    let b = mag_cond (sign_bit x) (mag_of (rest_most pi_val (most_more (lit≤ tt) a) pi_held (lit< tt))) (mag_of (most_more (lit≤ tt) a)) in
    mag_cond (sign_bit y) (mag_neg b) b
