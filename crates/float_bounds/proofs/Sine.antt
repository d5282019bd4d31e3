-- Sine and cosine of any finite value: finite, and at most 1 in size. Of the reduced argument, five cases of the quarter are computed; of the sums, only that the coefficients fall. Assumes nothing.
use mathlib.Core.Path.{◌≡◌, refl, sym, ap, ◌∙◌, subst}
use mathlib.Core.Logic.{◌⊎◌, inl, inr}
use Prim.Native.Nat.{ℕ, zero, suc, ◌+◌, ◌-◌, ◌*◌, ◌/◌, ◌^◌, ◌≤◌, ◌<◌}
use native.Mathlib.Nat.{le_refl, le_trans, lt_of_le_of_lt, mul-pos, mul-le-mul_right, le_of_mul-le-mul_right, lt_of_mul-lt-mul_right, zero-lt-suc, div-mul-le_self, lt-div-mul-add, le_of_suc-le-suc}
use native.Mathlib.Omega.{arith}
use mathlib.Core.Bool.{Bool, true, false, ◌&&◌, ◌||◌}
use lib.IntN.{pos, neg_ℤ}
use lib.Dec.{T, lit≤, lit<, leb, ltb, leb→le, ltb→lt}
use lib.Ieee.{Float, nan, inf, fin, binary32, binary64, up, down, size, round, add, sub, neg, mul, div, of_int}
use lib.Ieee.Fits.{down_pos, and_l, and_r}
use lib.Ieee.Scale.{grid, overflow}
use Rattle.float_sine.specs.Pi.{half_pi}
use Rattle.float_sine.specs.Sine.{S, C, remainder, quotient, nearest_whole, quarter, reduced, mod4, sine_by, cosine_by, sin_of, cos_of, sin32_of, cos32_of}
use Rattle.float_bounds.proofs.Units.{Val, round_Val, mul_round, div_round, neg_val}
use Rattle.float_bounds.proofs.Held.{Held, held, grid_le}
use Rattle.float_bounds.proofs.Size.{Most, Mag, mag_of, most_of, most_sign, unlike_plus, mul_most, square_most, mag_neg, mag_sub, mag_mul, mag_narrow, mag_widen, round_mag, distance_of}
use Rattle.float_bounds.proofs.Error.{steps, round_error}
use Rattle.float_bounds.proofs.Pi.{H, two_val, two_held, half_val}
use Rattle.float_bounds.proofs.Remainder.{rem_most}
use Rattle.float_bounds.proofs.Sum.{sum_most, sine_falling, cosine_falling}

-- 1, in smallest values
abbrev L : ℕ
L = 2 ^ 1074

one_held : Held binary64 L
one_held = held binary64 1 1074 (lit≤ tt)

-- ---- C(y) is from 0 to 1, and S(y) has y's sign and is at most 1, for |y| ≤ 1

pub C-most : {y : Float} {s : Bool} → Most binary64 y s L → Most binary64 (C y) false L
unfolding C
C-most h = sum_most (square_most h one_held (lit< tt)) cosine_falling

pub S-most : {y : Float} {s : Bool} → Most binary64 y s L → Most binary64 (S y) s L
unfolding S
S-most {y} {s} h = most_sign (unlike_plus s) (mul_most h (sum_most (square_most h one_held (lit< tt)) sine_falling) one_held (lit< tt))

-- ---- the nearest whole number k: 2k - 1 ≤ 2q ≤ 2k + 1 in size, and its float
pub record Whole (q : Float) (s : Bool) (Q : ℕ) : Type 0 where
  pub K : ℕ
  pub least : 2 * K * L ≤ 2 * Q + L
  pub most : 2 * Q ≤ (2 * K + 1) * L
  pub float : ((K ≡ 0) × (of_int binary64 (nearest_whole q) ≡ round binary64 false 0 1)) ⊎ (of_int binary64 (nearest_whole q) ≡ round binary64 s K 1)

module _ (a d Q l : ℕ) (D : 0 < d) (e : a * l ≡ Q * d) where
  -- c is 2a + d or one less
  low_end : (c : ℕ) → c ≤ 2 * a + d → 2 * (c / (2 * d)) * l ≤ 2 * Q + l
  low_end c h =
      let k = c / (2 * d) in
      le_of_mul-le-mul_right (go k (le_trans (div-mul-le_self c (2 * d)) h)) D
    where
      go : (k : ℕ) → k * (2 * d) ≤ 2 * a + d → 2 * k * l * d ≤ (2 * Q + l) * d
      go k g = let x = mul-le-mul_right l g in omega arith

  high_end : (c : ℕ) → 2 * a + d ≤ suc c → 2 * Q ≤ (2 * (c / (2 * d)) + 1) * l
  high_end c h =
      let k = c / (2 * d) in
      le_of_mul-le-mul_right (go k (le_trans h (lt-div-mul-add (mul-pos (zero-lt-suc 1) D)))) D
    where
      go : (k : ℕ) → 2 * a + d ≤ k * (2 * d) + 2 * d → 2 * Q * d ≤ (2 * k + 1) * l * d
      go k g = let x = mul-le-mul_right l g in omega arith

pub whole_of : (q : Float) {s : Bool} {Q : ℕ} → Val binary64 q s Q → Whole q s Q
unfolding nearest_whole of_int
whole_of nan v = absurd v.has
whole_of (inf t) v = absurd v.has
whole_of (fin false m e) {s} {Q} v = record {
  K = (2 * (m * up e) + down e) / (2 * down e);
  least = low_end (m * up e) (down e) Q L (down_pos e) v.has.1 (2 * (m * up e) + down e) (le_refl (2 * (m * up e) + down e));
  most = high_end (m * up e) (down e) Q L (down_pos e) v.has.1 (2 * (m * up e) + down e) (grow (2 * (m * up e) + down e));
  float = inr (ap (λ (t : Bool). round binary64 t ((2 * (m * up e) + down e) / (2 * down e)) 1) v.has.0);
}
  where
    grow : (n : ℕ) → n ≤ suc n
    grow n = omega arith
whole_of (fin true m e) {s} {Q} v = record {
  K = (2 * (m * up e) + down e - 1) / (2 * down e);
  least = low_end (m * up e) (down e) Q L (down_pos e) v.has.1 (2 * (m * up e) + down e - 1) (less (2 * (m * up e) + down e));
  most = high_end (m * up e) (down e) Q L (down_pos e) v.has.1 (2 * (m * up e) + down e - 1) (more (2 * (m * up e) + down e));
  float = go ((2 * (m * up e) + down e - 1) / (2 * down e));
}
  where
    less : (n : ℕ) → n - 1 ≤ n
    less n = omega arith

    more : (n : ℕ) → n ≤ suc (n - 1)
    more n = omega arith

    go : (k : ℕ) → ((k ≡ 0) × (of_int binary64 (neg_ℤ (pos k)) ≡ round binary64 false 0 1)) ⊎ (of_int binary64 (neg_ℤ (pos k)) ≡ round binary64 s k 1)
    go zero = inl (refl, refl)
    go (suc n) = inr (ap (λ (t : Bool). round binary64 t (suc n) 1) v.has.0)

-- ---- the reduced argument
abbrev D : ℕ
D = steps binary64

-- k * (pi/2) rounded, in smallest values
abbrev multiple : ℕ → ℕ
multiple K = grid binary64 (grid binary64 K 1 * H) (L * L)

test : ℕ → Bool
test K = leb (((2 * K + 1) * L * H + 2 * H) * suc D) (2 * (multiple K + L) * L * D) && (leb (multiple K) L || leb (2 * (multiple K - L) * L * suc D + 2 * H * suc D + L * H * D) (2 * K * L * H * D)) && ltb (grid binary64 K 1) (overflow binary64) && ltb (multiple K) (overflow binary64)

table : (K : ℕ) → K ≤ 4 → T (test K)
unfolding size test
table zero h = tt
table (suc zero) h = tt
table (suc (suc zero)) h = tt
table (suc (suc (suc zero))) h = tt
table (suc (suc (suc (suc zero)))) h = tt
table (suc (suc (suc (suc (suc K))))) h = absurd (no K h)
  where
    no : (K : ℕ) → suc (suc (suc (suc (suc K)))) ≤ 4 → ⊥
    no K h = omega arith

or_case : (a b : Bool) → T (a || b) → T a ⊎ T b
or_case true b t = inl tt
or_case false b t = inr t

four : (K Q l : ℕ) → 0 < l → 2 * K * l ≤ 2 * Q + l → Q ≤ 4 * l → K ≤ 4
four K Q l p a b = le_of_suc-le-suc (half (suc K) (le_of_mul_le_mul_right_lt (go K Q l p a b)))
  where
    go : (K Q l : ℕ) → 0 < l → 2 * K * l ≤ 2 * Q + l → Q ≤ 4 * l → 2 * K * l < 10 * l
    go K Q l p a b = omega arith

    le_of_mul_le_mul_right_lt : 2 * K * l < 10 * l → 2 * K < 10
    le_of_mul_le_mul_right_lt h = lt_of_mul-lt-mul_right l h

    half : (k : ℕ) → 2 * K < 10 → suc K ≤ 5
    half k h = omega arith

upper : (R Q K P l h d e : ℕ) → 0 < l → 0 < d → R * l * d ≤ (Q * h + h) * e → 2 * Q ≤ (2 * K + 1) * l → ((2 * K + 1) * l * h + 2 * h) * e ≤ 2 * (P + l) * l * d → R ≤ P + l
upper R Q K P l h d e p q a b t = le_of_mul-le-mul_right (go R Q K P l h d e a b t) (mul-pos (zero-lt-suc 1) (mul-pos p q))
  where
    go : (R Q K P l h d e : ℕ) → R * l * d ≤ (Q * h + h) * e → 2 * Q ≤ (2 * K + 1) * l → ((2 * K + 1) * l * h + 2 * h) * e ≤ 2 * (P + l) * l * d → R * (2 * (l * d)) ≤ (P + l) * (2 * (l * d))
    go R Q K P l h d e a b t = let x = mul-le-mul_right (h * e) b in omega arith

lower : (R Q K P l h d e : ℕ) → 0 < l → 0 < e → Q * h * d ≤ (R * l + h) * e → 2 * K * l ≤ 2 * Q + l → 2 * P * l * e + 2 * h * e + l * h * d ≤ 2 * K * l * h * d → P ≤ R
lower R Q K P l h d e p q a b t = le_of_mul-le-mul_right (go R Q K P l h d e a b t) (mul-pos (zero-lt-suc 1) (mul-pos p q))
  where
    go : (R Q K P l h d e : ℕ) → Q * h * d ≤ (R * l + h) * e → 2 * K * l ≤ 2 * Q + l → 2 * P * l * e + 2 * h * e + l * h * d ≤ 2 * K * l * h * d → P * (2 * (l * e)) ≤ R * (2 * (l * e))
    go R Q K P l h d e a b t = let x = mul-le-mul_right (h * d) b in omega arith

-- r less k * (pi/2), with k the whole number nearest to r / (pi/2)
pub reduced_mag : (r : Float) {s : Bool} → Most binary64 r s (4 * H) → Mag binary64 (sub binary64 r (mul binary64 (of_int binary64 (nearest_whole (div binary64 r half_pi))) half_pi)) L
unfolding test size
reduced_mag r {s} h =
    let R = h.X in
    let Q = grid binary64 R H in
    let Q-le : Q ≤ 4 * L = grid_le binary64 R H (4 * L) (lit< tt) (held binary64 4 1074 (lit≤ tt)) (lit< tt) (le_trans (mul-le-mul_right L h.most) (lit≤ tt)) in
    let vq : Val binary64 (div binary64 r half_pi) s Q = subst (λ (z : Float). Val binary64 z s Q) (sym (div_round h.val half_val (lit< tt) ∙ ap (λ (t : Bool). round binary64 t R H) (unlike_plus s))) (round_Val binary64 s R H (lt_of_le_of_lt Q-le (lit< tt))) in
    let w = whole_of (div binary64 r half_pi) vq in
    let K = w.K in
    let K-le : K ≤ 4 = four K Q L (lit< tt) w.least Q-le in
    let err = round_error binary64 R H (lit< tt) in
    let a : R * L * D ≤ (Q * H + H) * suc D = err.1 in
    let b : Q * H * D ≤ (R * L + H) * suc D = err.0 in
    finish K R Q (of_int binary64 (nearest_whole (div binary64 r half_pi))) h refl K-le a b w.least w.most w.float
  where
    finish : (K R Q : ℕ) (k : Float) (h : Most binary64 r s (4 * H)) → R ≡ h.X → K ≤ 4 → R * L * D ≤ (Q * H + H) * suc D → Q * H * D ≤ (R * L + H) * suc D → 2 * K * L ≤ 2 * Q + L → 2 * Q ≤ (2 * K + 1) * L
        → ((K ≡ 0) × (k ≡ round binary64 false 0 1)) ⊎ (k ≡ round binary64 s K 1) → Mag binary64 (sub binary64 r (mul binary64 k half_pi)) L
    finish K R Q k h is le a b lo hi float =
        let P = multiple K in
        let t1 = leb (((2 * K + 1) * L * H + 2 * H) * suc D) (2 * (P + L) * L * D) in
        let t2a = leb P L in
        let t2b = leb (2 * (P - L) * L * suc D + 2 * H * suc D + L * H * D) (2 * K * L * H * D) in
        let t2 = t2a || t2b in
        let t3 = ltb (grid binary64 K 1) (overflow binary64) in
        let t4 = ltb P (overflow binary64) in
        let t = table K le in
        let R-le : R ≤ P + L = upper R Q K P L H D (suc D) (lit< tt) (lit< tt) a hi (leb→le _ _ (and_l t1 t2 (and_l (t1 && t2) t3 (and_l (t1 && t2 && t3) t4 t)))) in
        let P-le : P - L ≤ R = elim (or_case t2a t2b (and_r t1 t2 (and_l (t1 && t2) t3 (and_l (t1 && t2 && t3) t4 t)))) [
          | inl g ↦ gone P L R (leb→le P L g)
          | inr g ↦ lower R Q K (P - L) L H D (suc D) (lit< tt) (lit< tt) b lo (leb→le _ _ g)
        ] in
        elim float [
          | inl g ↦
              let R0 : R ≤ L = subst (λ (z : ℕ). R ≤ multiple z + L) g.0 R-le in
              let k0 : Mag binary64 k 0 = round_mag false 0 1 0 g.1 (lit< tt) (held binary64 0 0 (lit≤ tt)) (lit< tt) (lit≤ tt) in
              let hp : Mag binary64 half_pi H = record { s = false; X = H; val = half_val; most = le_refl H } in
              mag_sub L (record { s = s; X = h.X; val = h.val; most = subst (λ (z : ℕ). z ≤ L) is R0 }) (mag_mul 0 k0 hp (held binary64 0 0 (lit≤ tt)) (lit< tt) (lit≤ tt)) one_held (lit< tt) (lit≤ tt)
          | inr g ↦
              let vk : Val binary64 k s (grid binary64 K 1) = subst (λ (z : Float). Val binary64 z s (grid binary64 K 1)) (sym g) (round_Val binary64 s K 1 (ltb→lt _ _ (and_r (t1 && t2) t3 (and_l (t1 && t2 && t3) t4 t)))) in
              let vp : Val binary64 (mul binary64 k half_pi) s P = subst (λ (z : Float). Val binary64 z s P) (sym (mul_round vk half_val ∙ ap (λ (b : Bool). round binary64 b (grid binary64 K 1 * H) (L * L)) (unlike_plus s))) (round_Val binary64 s (grid binary64 K 1 * H) (L * L) (ltb→lt _ _ (and_r (t1 && t2 && t3) t4 t))) in
              let d = distance_of binary64 r (neg (mul binary64 k half_pi)) (subst (λ (z : ℕ). Val binary64 r s z) (sym is) h.val) (neg_val vp) in
              let N-le : d.1 ≤ L = elim d.3 [ inl z ↦ near R P L d.1 R-le z.1 | inr z ↦ near' R P L d.1 P-le z.1 ] in
              round_mag d.0 d.1 L L (opened r (mul binary64 k half_pi) ∙ d.2) (lit< tt) one_held (lit< tt) (mul-le-mul_right L N-le)
        ]
      where
        gone : (P l R : ℕ) → P ≤ l → P - l ≤ R
        gone P l R h = omega arith

        near : (R P l N : ℕ) → R ≤ P + l → N ≡ R - P → N ≤ l
        near R P l N h e = omega arith

        near' : (R P l N : ℕ) → P - l ≤ R → N ≡ P - R → N ≤ l
        near' R P l N h e = omega arith

        opened : (x y : Float) → sub binary64 x y ≡ add binary64 x (neg y)
        opened x y = unfold sub in refl

-- ---- any finite value

pub reduced_most : {v : Float} {A : ℕ} → Mag binary64 v A → Mag binary64 (reduced v) L
unfolding reduced quarter quotient remainder
reduced_most {v} h = reduced_mag (remainder v) (rem_most h.val two_val (lit< tt) two_held (lit< tt))

sine_by_mag : (k : ℕ) (y : Float) → Mag binary64 y L → Mag binary64 (sine_by k y) L
unfolding sine_by
sine_by_mag zero y h = mag_of (S-most (most_of h))
sine_by_mag (suc zero) y h = mag_of (C-most (most_of h))
sine_by_mag (suc (suc zero)) y h = mag_neg (mag_of (S-most (most_of h)))
sine_by_mag (suc (suc (suc k))) y h = mag_neg (mag_of (C-most (most_of h)))

cosine_by_mag : (k : ℕ) (y : Float) → Mag binary64 y L → Mag binary64 (cosine_by k y) L
unfolding cosine_by
cosine_by_mag zero y h = mag_of (C-most (most_of h))
cosine_by_mag (suc zero) y h = mag_neg (mag_of (S-most (most_of h)))
cosine_by_mag (suc (suc zero)) y h = mag_neg (mag_of (C-most (most_of h)))
cosine_by_mag (suc (suc (suc k))) y h = mag_of (S-most (most_of h))

pub sin_mag : {v : Float} {A : ℕ} → Mag binary64 v A → Mag binary64 (sin_of v) L
unfolding sin_of
sin_mag {v} h = sine_by_mag (mod4 (quarter v)) (reduced v) (reduced_most h)

pub cos_mag : {v : Float} {A : ℕ} → Mag binary64 v A → Mag binary64 (cos_of v) L
unfolding cos_of
cos_mag {v} h = cosine_by_mag (mod4 (quarter v)) (reduced v) (reduced_most h)

-- of any finite f32, in 32 bits
pub sin32_mag : {v : Float} {A : ℕ} → Mag binary32 v A → Mag binary32 (sin32_of v) (2 ^ 149)
unfolding sin32_of
sin32_mag h = mag_narrow (2 ^ 149) (sin_mag (mag_widen h)) (held binary32 1 149 (lit≤ tt)) (lit< tt) (lit≤ tt)

pub cos32_mag : {v : Float} {A : ℕ} → Mag binary32 v A → Mag binary32 (cos32_of v) (2 ^ 149)
unfolding cos32_of
cos32_mag h = mag_narrow (2 ^ 149) (cos_mag (mag_widen h)) (held binary32 1 149 (lit≤ tt)) (lit< tt) (lit≤ tt)
