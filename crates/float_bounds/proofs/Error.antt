-- How far `round` moves a number. In units of the format's smallest value the fraction is num * 2 ^ low / den, and the result `grid`:
-- one factor (D + 1) / D with D = 2 ^ prec - 1, or one smallest value. Assumes nothing.
use mathlib.Core.Path.{◌≡◌, refl, sym, ap, ◌∙◌, subst}
use mathlib.Core.Logic.{inl, inr}
use Prim.Native.Nat.{ℕ, suc, ◌+◌, ◌-◌, ◌*◌, ◌/◌, ◌%◌, ◌^◌, ◌≤◌, ◌<◌, compare}
use native.Mathlib.Nat.{le_trans, le_of_eq, le-suc, mul-one, mul_comm, mul_assoc, mul_left_comm, mul-pos, mul-le-mul, mul-le-mul_right, le-div_iff_mul-le, div-add-mod', mod-lt, eq-zero-or-pos}
use native.Mathlib.Omega.{arith}
use lib.Pow.{pow-add, pow_pos}
use lib.Ieee.{Format, binary32, binary64, prec, low, size}
use lib.Ieee.Digits.{size_reaches}
use lib.Ieee.Fits.{two, two-le_pos}
use lib.Ieee.Nearest.{closest}
use lib.Ieee.Order.{drop}
use lib.Ieee.Scale.{grid}
use Rattle.float_order.proofs.Laws.{double}
use Rattle.float_widths.proofs.Grid.{le_or_lt, cmp, picks, inside}

-- 2 ^ prec - 1
abbrev pub steps : Format → ℕ
steps f = 2 ^ prec f - 1

pub steps_suc : (f : Format) → suc (steps f) ≡ 2 ^ prec f
steps_suc binary32 = refl
steps_suc binary64 = refl

-- ---- `closest` is off by half of the divisor at the most
abbrev Half : ℕ → ℕ → ℕ → Type 0
Half c n u = (2 * (c * u) ≤ 2 * n + u) × (2 * n ≤ 2 * (c * u) + u)

pub closest_half : (n u : ℕ) → 0 < u → Half (closest n u) n u
closest_half n u U = elim (picks (n / u) (compare (n % u * 2) u) (n % u * 2) u (cmp (n % u * 2) u)) [
  | inl a ↦ subst (λ (c : ℕ). Half c n u) (sym a.0) (down (n / u) (n % u) n u (div-add-mod' n u) a.1)
  | inr a ↦ subst (λ (c : ℕ). Half c n u) (sym a.0) (up (n / u) (n % u) n u (div-add-mod' n u) a.1 (mod-lt n U))
]
  where
    down : (q r n u : ℕ) → q * u + r ≡ n → r * 2 ≤ u → Half q n u
    down q r n u e h = (omega arith, omega arith)

    up : (q r n u : ℕ) → q * u + r ≡ n → u ≤ r * 2 → r < u → Half (suc q) n u
    up q r n u e h l = (omega arith, omega arith)

-- ---- where digits are dropped, the whole part has all of them
full : (p n den : ℕ) → 2 ≤ p → 0 < den → 0 < drop p n den → 2 ^ (p - 1) * (den * 2 ^ drop p n den) ≤ n
full p n den P D K =
    let k = drop p n den in
    let a : 2 ^ (p - 1 + k) ≤ n / den = size_reaches (n / den) (p - 1 + k) (inside (size (n / den)) p P K) in
    let b : 2 ^ (p - 1 + k) * den ≤ n = (le-div_iff_mul-le D).0 a in
    le_trans (le_of_eq (simp (mul_assoc, mul_comm, mul_left_comm, pow-add))) b

-- ---- with x the result and n the fraction, both times den; u the unit, h = 2 ^ (prec - 1)
above_by : (x n u h D : ℕ) → 2 * x ≤ 2 * n + u → h * u ≤ n → suc D ≡ 2 * h → x * D ≤ n * suc D
above_by x n u h D a b e = elim (le_or_lt x n) [
  | inl l ↦ let y = mul-le-mul_right D l in omega arith
  | inr l ↦
      let y = mul-le-mul_right h a in
      let z : x * suc D ≡ x * (2 * h) = ap (λ (w : ℕ). x * w) e in
      let t : n * suc D ≡ n * (2 * h) = ap (λ (w : ℕ). n * w) e in
      omega arith
]

below_by : (x n u h D : ℕ) → 2 * n ≤ 2 * x + u → h * u ≤ n → suc D ≡ 2 * h → n * D ≤ x * suc D
below_by x n u h D a b e =
    let y = mul-le-mul_right h a in
    let z : x * suc D ≡ x * (2 * h) = ap (λ (w : ℕ). x * w) e in
    let t : n * suc D ≡ n * (2 * h) = ap (λ (w : ℕ). n * w) e in
    omega arith

exact_above : (x n den D : ℕ) → 2 * x ≤ 2 * n + den → x * D ≤ (n + den) * suc D
exact_above x n den D h = let y : x ≤ n + den = omega arith in mul-le-mul y (le-suc D)

no_more : (n D den : ℕ) → n * suc D ≤ (n + den) * suc D
no_more n D den = omega arith

-- a is at most b and e, and one factor more
abbrev pub Over : Format → ℕ → ℕ → ℕ → Type 0
Over f e a b = a * steps f ≤ (b + e) * suc (steps f)

-- ---- the law of `round`, both ways
pub round_error : (f : Format) (num den : ℕ) → 0 < den → Over f den (grid f num den * den) (num * 2 ^ low f) × Over f den (num * 2 ^ low f) (grid f num den * den)
round_error f num den D =
    let n = num * 2 ^ low f in
    let k = drop (prec f) n den in
    let u = den * 2 ^ k in
    let c = closest n u in
    let half = closest_half n u (mul-pos D (pow_pos k)) in
    let same : c * u ≡ c * 2 ^ k * den = simp (mul_assoc, mul_comm, mul_left_comm) in
    go n k u (c * u) (c * 2 ^ k * den) same half.0 half.1 (λ z. full (prec f) n den (two f) D z) refl
  where
    go : (n k u x y : ℕ) → x ≡ y → 2 * x ≤ 2 * n + u → 2 * n ≤ 2 * x + u → (0 < k → 2 ^ (prec f - 1) * u ≤ n) → u ≡ den * 2 ^ k → Over f den y n × Over f den n y
    go n k u x y s a b w e =
        subst (λ (z : ℕ). Over f den z n × Over f den n z) s
        (elim (eq-zero-or-pos k) [
          | inl z ↦
              let g : u ≡ den = e ∙ ap (λ (i : ℕ). den * 2 ^ i) z ∙ mul-one den in
              let a' : 2 * x ≤ 2 * n + den = subst (λ (i : ℕ). 2 * x ≤ 2 * n + i) g a in
              let b' : 2 * n ≤ 2 * x + den = subst (λ (i : ℕ). 2 * n ≤ 2 * x + i) g b in
              (exact_above x n den (steps f) a', exact_above n x den (steps f) b')
          | inr z ↦
              let H = 2 ^ (prec f - 1) in
              let t : suc (steps f) ≡ 2 * H = steps_suc f ∙ double (prec f) (two-le_pos (prec f) (two f)) in (
                le_trans (above_by x n u H (steps f) a (w z) t) (no_more n (steps f) den),
                le_trans (below_by x n u H (steps f) b (w z) t) (no_more x (steps f) den),
              )
        ])
