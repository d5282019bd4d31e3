-- The digits of a root: what a candidate is tested for, and the number it is tested by. Assumes nothing.
use Rattle.std.proofs.Common.{◌≡◌, ℕ, ◌+◌, ◌-◌, ◌*◌, ◌^◌, ◌<◌, ◌≤◌, sym, ap, ◌∙◌, inl, inr, eq-zero-or-pos, mul-one, arith}

-- q is the root of n to the nearest whole number
abbrev pub IsNearest : ℕ → ℕ → Type 0
IsNearest n q = (q * q < n + q) × (n ≤ q * q + q)

-- ---- m digits, twice where the exponent's field e is even, so that what is left of the exponent is even
module _ (m i : ℕ) where
  pub once : i ≡ 1 → m ≡ m * 2 ^ (1 - i)
  once h = sym (ap (λ (x : ℕ). m * 2 ^ (1 - x)) h ∙ mul-one m)

  pub twice : i ≡ 0 → m * 2 ≡ m * 2 ^ (1 - i)
  twice h = sym (ap (λ (x : ℕ). m * 2 ^ (1 - x)) h)

pub doubled : (m i : ℕ) → i < 2 → (m ≤ m * 2 ^ (1 - i)) × (m * 2 ^ (1 - i) ≤ m * 2)
doubled m i h = elim (eq-zero-or-pos i) [
  | inl z ↦ let e = twice m i z in (omega arith, omega arith)
  | inr p ↦ let e = once m i (omega arith) in (omega arith, omega arith)
]
