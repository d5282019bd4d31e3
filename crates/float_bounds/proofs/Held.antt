-- `grid` keeps the order, and keeps what the format holds. So a bound that the format holds passes through a rounding unchanged. Assumes nothing.
use mathlib.Core.Path.{◌≡◌, refl, sym, ap, ◌∙◌, subst}
use mathlib.Core.Logic.{inl, inr}
use Prim.Native.Nat.{ℕ, ◌+◌, ◌-◌, ◌*◌, ◌/◌, ◌%◌, ◌^◌, ◌≤◌, ◌<◌, zero-le, compare}
use native.Mathlib.Nat.{le_trans, le_of_eq, le_of_lt, lt_of_le_of_lt, eq-or-lt_of_le, mul_assoc, mul_right_comm, one-mul, mul-le-mul_right, mul-pos, le-div_iff_mul-le, div-div-eq-div-mul}
use native.Mathlib.Omega.{arith}
use mathlib.Core.Bool.{Bool, false}
use lib.Dec.{T, lit<}
use lib.Pow.{pow-add, pow_pos, pow_mono}
use lib.Ieee.{Float, Format, binary32, binary64, prec, low, size, round, fits}
use lib.Ieee.Digits.{size-lt, size-le, size_reaches}
use lib.Ieee.Fits.{kept-lt, nearest-le, round_is, two, two-le_pos}
use lib.Ieee.Exact.{HasValue, round_exact}
use lib.Ieee.Nearest.{closest, closest_mono, nearest-ge, div_mono}
use lib.Ieee.Order.{drop, kept}
use lib.Ieee.Scale.{grid, overflow}
use Rattle.float_widths.proofs.Grid.{units_size, on_grid}
use Rattle.float_bounds.proofs.Units.{Val, round_Val}

-- ---- private in lib.Ieee.Order, so written again here
size_mono : (a b : ℕ) → a ≤ b → size a ≤ size b
size_mono a b h = size-le a (size b) (lt_of_le_of_lt h (size-lt b))

same_drop : (k a b c d : ℕ) → 0 < b → 0 < d → a * d ≤ c * b → closest a (b * 2 ^ k) * 2 ^ k ≤ closest c (d * 2 ^ k) * 2 ^ k
same_drop k a b c d B D h =
    mul-le-mul_right (2 ^ k)
    (closest_mono a (b * 2 ^ k) c (d * 2 ^ k) (mul-pos B (pow_pos k)) (mul-pos D (pow_pos k))
    (le_trans (le_of_eq (sym (mul_assoc a d (2 ^ k)))) (le_trans (mul-le-mul_right (2 ^ k) h) (le_of_eq (mul_assoc c b (2 ^ k))))))

pub kept_le : (p n den : ℕ) → kept p n den ≤ 2 ^ p
kept_le p n den =
    let k = drop p n den in
    let u = den * 2 ^ k in
    le_trans (nearest-le (n / u) (compare (n % u * 2) u)) (subst (λ (x : ℕ). x < 2 ^ p) (div-div-eq-div-mul n den (2 ^ k)) (kept-lt p (n / den)))

all_in_use : (z p : ℕ) → 0 < p → 0 < z - p → p - 1 + (z - p) < z
all_in_use z p P h = omega arith

-- where digits are dropped, the kept number has at least p digits
kept_ge : (p n den : ℕ) → 0 < p → 0 < drop p n den → 2 ^ (p - 1) ≤ kept p n den
kept_ge p n den P K =
    let k = drop p n den in
    let u = den * 2 ^ k in
    let w = n / den in
    let a : 2 ^ (p - 1) * 2 ^ k ≤ w = le_trans (le_of_eq (sym (pow-add 2 (p - 1) k))) (size_reaches w (p - 1 + k) (all_in_use (size w) p P K)) in
    le_trans (subst (λ (x : ℕ). 2 ^ (p - 1) ≤ x) (div-div-eq-div-mul n den (2 ^ k)) ((le-div_iff_mul-le (pow_pos k)).1 a)) (nearest-ge (n / u) (compare (n % u * 2) u))

fewer : (x y p : ℕ) → x ≤ y → x - p ≤ y - p
fewer x y p h = omega arith

room : (p j k : ℕ) → 0 < p → j < k → p + j ≤ p - 1 + k
room p j k P h = omega arith

-- Either both drop as many digits, and then the kept numbers are in order. Or the smaller drops fewer, and then a power of two lies between the two results.
pub grid_mono : (p a b c d : ℕ) → 0 < p → 0 < b → 0 < d → a * d ≤ c * b → kept p a b * 2 ^ drop p a b ≤ kept p c d * 2 ^ drop p c d
grid_mono p a b c d P B D h =
    let j = drop p a b in
    let k = drop p c d in
    elim (eq-or-lt_of_le (fewer (size (a / b)) (size (c / d)) p (size_mono (a / b) (c / d) (div_mono a b c d B D h)))) [
      | inl e ↦ subst (λ (x : ℕ). closest a (b * 2 ^ x) * 2 ^ x ≤ kept p c d * 2 ^ k) (sym e) (same_drop k a b c d B D h)
      | inr l ↦
          le_trans (mul-le-mul_right (2 ^ j) (kept_le p a b))
          (le_trans (le_of_eq (sym (pow-add 2 p j)))
          (le_trans (pow_mono (room p j k P l))
          (le_trans (le_of_eq (pow-add 2 (p - 1) k)) (mul-le-mul_right (2 ^ k) (kept_ge p c d P (lt_of_le_of_lt zero-le l))))))
    ]

-- ---- what a format holds: q * 2 ^ j smallest values, with a q of no more than prec digits
pub record Held (f : Format) (n : ℕ) : Type 0 where
  pub q : ℕ
  pub j : ℕ
  pub few : q ≤ 2 ^ prec f
  pub is : n ≡ q * 2 ^ j

pub grid_held : (f : Format) (num den : ℕ) → Held f (grid f num den)
grid_held f num den = record { q = kept (prec f) (num * 2 ^ low f) den; j = drop (prec f) (num * 2 ^ low f) den; few = kept_le (prec f) (num * 2 ^ low f) den; is = refl }

-- by literals
pub held : (f : Format) (q j : ℕ) → q ≤ 2 ^ prec f → Held f (q * 2 ^ j)
held f q j h = record { q = q; j = j; few = h; is = refl }

at : (f : Format) (q j : ℕ) → q < 2 ^ prec f → q * 2 ^ j < overflow f → grid f (q * 2 ^ j) (2 ^ low f) ≡ q * 2 ^ j
at f q j few h =
    let v = q * 2 ^ j in
    let x = round_exact f false v (2 ^ low f) q j (pow_pos (low f)) few h refl in
    sym (units_size f false false (kept (prec f) (v * 2 ^ low f) (2 ^ low f)) (drop (prec f) (v * 2 ^ low f) (2 ^ low f)) v (subst (λ (z : Float). HasValue z false v (2 ^ low f)) (round_is f false v (2 ^ low f)) x))

pub grid_at : (f : Format) (n : ℕ) → Held f n → n < overflow f → grid f n (2 ^ low f) ≡ n
grid_at f n h l = subst (λ (z : ℕ). z < overflow f → grid f z (2 ^ low f) ≡ z) (sym h.is) (elim (eq-or-lt_of_le h.few) [
  | inl e ↦
      let same : h.q * 2 ^ h.j ≡ 1 * 2 ^ (prec f + h.j) = ap (λ (z : ℕ). z * 2 ^ h.j) e ∙ sym (pow-add 2 (prec f) h.j) ∙ sym (one-mul (2 ^ (prec f + h.j))) in
      subst (λ (z : ℕ). z < overflow f → grid f z (2 ^ low f) ≡ z) (sym same) (at f 1 (prec f + h.j) (one f))
  | inr k ↦ at f h.q h.j k
]) l
  where
    one : (f : Format) → 1 < 2 ^ prec f
    one binary32 = lit< tt
    one binary64 = lit< tt

-- the float of a number that the format holds
pub held_val : (f : Format) (n : ℕ) → Held f n → n < overflow f → Val f (round f false n (2 ^ low f)) false n
held_val f n h l =
    let e = grid_at f n h l in
    subst (λ (z : ℕ). Val f (round f false n (2 ^ low f)) false z) e (round_Val f false n (2 ^ low f) (subst (λ (z : ℕ). z < overflow f) (sym e) l))

pub grid_le : (f : Format) (num den n : ℕ) → 0 < den → Held f n → n < overflow f → num * 2 ^ low f ≤ n * den → grid f num den ≤ n
grid_le f num den n D h l k =
    le_trans (grid_mono (prec f) (num * 2 ^ low f) den (n * 2 ^ low f) (2 ^ low f) (two-le_pos (prec f) (two f)) D (pow_pos (low f)) (le_trans (mul-le-mul_right (2 ^ low f) k) (le_of_eq (mul_right_comm n den (2 ^ low f))))) (le_of_eq (grid_at f n h l))

pub grid_ge : (f : Format) (num den n : ℕ) → 0 < den → Held f n → n < overflow f → n * den ≤ num * 2 ^ low f → n ≤ grid f num den
grid_ge f num den n D h l k =
    le_trans (le_of_eq (sym (grid_at f n h l))) (grid_mono (prec f) (n * 2 ^ low f) (2 ^ low f) (num * 2 ^ low f) den (two-le_pos (prec f) (two f)) (pow_pos (low f)) D (le_trans (le_of_eq (mul_right_comm n (2 ^ low f) den)) (mul-le-mul_right (2 ^ low f) k)))

pub grid_numbers : (f : Format) (m n : ℕ) → m ≤ n → grid f m (2 ^ low f) ≤ grid f n (2 ^ low f)
grid_numbers f m n h =
    grid_mono (prec f) (m * 2 ^ low f) (2 ^ low f) (n * 2 ^ low f) (2 ^ low f) (two-le_pos (prec f) (two f)) (pow_pos (low f)) (pow_pos (low f)) (mul-le-mul_right (2 ^ low f) (mul-le-mul_right (2 ^ low f) h))

-- ---- a value that the format holds, in smallest values
pub fits_held : (f : Format) (v : Float) {s : Bool} {y : ℕ} → T (fits f v) → Val f v s y → Held f y
fits_held f v {s} {y} h w = let g = on_grid f v s y h w.has in record { q = g.0; j = g.1; few = le_of_lt g.2; is = g.3 }
