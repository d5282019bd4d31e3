-- Laws of remainders, and of `units_of`. Assumes nothing.
use Rattle.std.proofs.Common.{◌≡◌, ℕ, ◌+◌, ◌-◌, ◌*◌, ◌/◌, ◌%◌, ◌^◌, ◌<◌, ◌≤◌, refl, ap, arith, ◌∙◌, sym, add-one, pow-suc, pow_mono, mul_assoc}
use Rattle.std.proofs.Math.Nat.{mod-lt, mod-eq_of_lt, mul-lt-mul_of_pos_right, mul-le-mul_left, mul-le-mul_right}
use Rattle.std.proofs.lemmas.Nat.{div-add-mod', mod-mul-add, div-mul-add, mul-mod_first, pow_pos, pow-add}
use Rattle.std.proofs.lemmas.Bool.{cond_below, cond_above}
use Rattle.float_remainder.specs.Patterns.{units_of}

-- the power one further
pub twice : (i : ℕ) → 2 ^ (i + 1) ≡ 2 ^ i * 2
twice i = ap (λ (x : ℕ). 2 ^ x) (add-one i) ∙ pow-suc 2 i

-- Both sides of a remainder scaled.
pub scaled : (x y c : ℕ) → 0 < y → 0 < c → (x * c) % (y * c) ≡ x % y * c
scaled x y c p q =
    let d : (x / y * y + x % y) * c ≡ x * c = ap (λ (n : ℕ). n * c) (div-add-mod' x y) in
    let e : x * c ≡ x / y * (y * c) + x % y * c = omega arith in
    let l : x % y * c < y * c = mul-lt-mul_of_pos_right (mod-lt x p) q in
    ap (λ (n : ℕ). n % (y * c)) e ∙ mod-mul-add (x / y) (y * c) (x % y * c) l

-- One doubling of a remainder.
pub doubled : (m n r i : ℕ) → r ≡ (m * 2 ^ i) % n → (r * 2) % n ≡ (m * 2 ^ (i + 1)) % n
doubled m n r i h =
    let e : m * 2 ^ i * 2 ≡ m * 2 ^ (i + 1) = mul_assoc m (2 ^ i) 2 ∙ ap (λ (x : ℕ). m * x) (sym (twice i)) in
    ap (λ (x : ℕ). (x * 2) % n) h ∙ mul-mod_first (m * 2 ^ i) 2 n ∙ ap (λ (x : ℕ). x % n) e

-- One doubling in exchange for a power of two less.
pub kept : (d e v : ℕ) → 0 < e → d * 2 ^ e ≡ v → d * 2 * 2 ^ (e - 1) ≡ v
kept d e v p h =
    let s : e ≡ e - 1 + 1 = omega arith in
    let k : 2 ^ e ≡ 2 ^ (e - 1) * 2 = ap (λ (x : ℕ). 2 ^ x) s ∙ twice (e - 1) in
    let g : d * 2 ^ e ≡ d * (2 ^ (e - 1) * 2) = ap (λ (x : ℕ). d * x) k in
    omega arith

-- `units_of` below the weight, and from it on.
pub units_below : (w b : ℕ) → b < w → units_of w b ≡ b
unfolding units_of
units_below w b h = sym (cond_below b w b ((b % w + w) * 2 ^ (b / w - 1)) h)

pub units_above : (w b : ℕ) → w ≤ b → units_of w b ≡ (b % w + w) * 2 ^ (b / w - 1)
unfolding units_of
units_above w b h = sym (cond_above b w b ((b % w + w) * 2 ^ (b / w - 1)) ((b % w + w) * 2 ^ (b / w - 1)) h refl)

-- The pattern of digits that have the leading one.
pub units_normal : (w e d : ℕ) → 0 < w → w ≤ d → d < 2 * w → units_of w (e * w + d) ≡ d * 2 ^ e
units_normal w e d p l u =
    let s : e * w + d ≡ (e + 1) * w + (d - w) = omega arith in
    let below : d - w < w = omega arith in
    let q : (e * w + d) / w ≡ e + 1 = ap (λ (x : ℕ). x / w) s ∙ div-mul-add (e + 1) w (d - w) below in
    let r : (e * w + d) % w ≡ d - w = ap (λ (x : ℕ). x % w) s ∙ mod-mul-add (e + 1) w (d - w) below in
    let t : (e * w + d) % w + w ≡ d = omega arith in
    let f : (e * w + d) / w - 1 ≡ e = omega arith in
    units_above w (e * w + d) (omega arith) ∙ ap (λ (x : ℕ). x * 2 ^ ((e * w + d) / w - 1)) t ∙ ap (λ (x : ℕ). d * 2 ^ x) f

-- The pattern of digits below the weight, where the power is the least.
pub units_least : (w e d : ℕ) → d < w → e ≡ 0 → units_of w (e * w + d) ≡ d * 2 ^ e
units_least w e d h z =
    let s : e * w ≡ 0 * w = ap (λ (x : ℕ). x * w) z in
    let p : d * 2 ^ e ≡ d * 2 ^ 0 = ap (λ (x : ℕ). d * 2 ^ x) z in
    let u = units_below w (e * w + d) (omega arith) in
    omega arith

-- A dividend whose power of two is the lesser one is the remainder.
pub early : (m n j k w : ℕ) → j < k → m < 2 * w → w ≤ n → (m * 2 ^ j) % (n * 2 ^ k) ≡ m * 2 ^ j
early m n j k w h a b =
    let g : 2 ^ (j + 1) ≤ 2 ^ k = pow_mono (omega arith) in
    let t : 2 ^ (j + 1) ≡ 2 ^ j * 2 = twice j in
    let x : m * 2 ^ j < 2 * w * 2 ^ j = mul-lt-mul_of_pos_right a (pow_pos j) in
    let y : w * 2 ^ (j + 1) ≤ w * 2 ^ k = mul-le-mul_left w g in
    let z : w * 2 ^ k ≤ n * 2 ^ k = mul-le-mul_right (2 ^ k) b in
    let u : w * 2 ^ (j + 1) ≡ w * (2 ^ j * 2) = ap (λ (x : ℕ). w * x) t in
    mod-eq_of_lt (omega arith)

-- The remainder at the divisor's power of two.
pub late : (m n j k : ℕ) → k ≤ j → 0 < n → (m * 2 ^ (j - k)) % n * 2 ^ k ≡ (m * 2 ^ j) % (n * 2 ^ k)
late m n j k h p =
    let e : 2 ^ (j - k) * 2 ^ k ≡ 2 ^ j = sym (pow-add 2 (j - k) k) ∙ ap (λ (x : ℕ). 2 ^ x) (omega arith) in
    let f : m * 2 ^ (j - k) * 2 ^ k ≡ m * 2 ^ j = mul_assoc m (2 ^ (j - k)) (2 ^ k) ∙ ap (λ (x : ℕ). m * x) e in
    sym (scaled (m * 2 ^ (j - k)) n (2 ^ k) p (pow_pos k)) ∙ ap (λ (x : ℕ). x % (n * 2 ^ k)) f
