-- The root by a value's pattern, at weights that are equal to the format's. Assumes nothing.
use Rattle.std.proofs.Common.{◌≡◌, ℕ, ◌+◌, ◌-◌, ◌*◌, ◌/◌, ◌%◌, ◌^◌, ◌<◌, ◌≤◌, sym, subst}
use borrow.Author.Tests.{le-leb, lt-leb}
use lib.Ieee.{Float, nan, Format, low, hid, ones, top, to_bits}
use Rattle.float_order.specs.Width.{Weights, Patterned}
use Rattle.float_order.proofs.Weights.{at_weights}
use Rattle.float_root.specs.Root.{round_root, sqrt_of}
use Rattle.float_root.proofs.Sqrt.{no_fields, some_digits, sqrt_zero, sqrt_inf, sqrt_low, sqrt_mid, sqrt_negative}

module _ {f : Format} {S H O : ℕ} (w : Weights f S H O) {x : Float} {p : ℕ} (v : Patterned f x p) where
  at_pattern : (P : ℕ → ℕ → ℕ → ℕ → Type 0) → P (top f) (hid f) (ones f) (to_bits f x) → P S H O p
  at_pattern P t = at_weights w (λ (s h o : ℕ). P s h o p) (subst (λ (n : ℕ). P (top f) (hid f) (ones f) n) (sym v.pattern) t)

  pub zero_root : p % S ≡ 0 → x ≡ sqrt_of f x
  zero_root =
      at_pattern (λ (s h o n : ℕ). n % s ≡ 0 → x ≡ sqrt_of f x)
      (λ e. let z = no_fields f (to_bits f x) e in sqrt_zero f x v.held z.0 z.1)

  pub negative_root : S ≤ p → (p % S ≡ 0 → ⊥) → nan ≡ sqrt_of f x
  negative_root =
      at_pattern (λ (s h o n : ℕ). s ≤ n → (n % s ≡ 0 → ⊥) → nan ≡ sqrt_of f x)
      (λ l e. sqrt_negative f x v.held v.number (le-leb _ _ l) (some_digits f (to_bits f x) e))

  pub infinite_root : p < S → p % S / H ≡ O → x ≡ sqrt_of f x
  infinite_root =
      at_pattern (λ (s h o n : ℕ). n < s → n % s / h ≡ o → x ≡ sqrt_of f x)
      (λ l e. sqrt_inf f x v.held e v.number (lt-leb _ _ l))

  pub low_root : p < S → (p % S ≡ 0 → ⊥) → p % S / H ≡ 0 → round_root f (p % H * 2 ^ 0 * 2 ^ low f) ≡ sqrt_of f x
  low_root =
      at_pattern (λ (s h o n : ℕ). n < s → (n % s ≡ 0 → ⊥) → n % s / h ≡ 0 → round_root f (n % h * 2 ^ 0 * 2 ^ low f) ≡ sqrt_of f x)
      (λ l e z. sqrt_low f x v.held z (lt-leb _ _ l) (some_digits f (to_bits f x) e z))

  pub mid_root : p < S → (p % S / H ≡ 0 → ⊥) → (p % S / H ≡ O → ⊥) → round_root f ((p % H + H) * 2 ^ (p % S / H - 1) * 2 ^ low f) ≡ sqrt_of f x
  mid_root =
      at_pattern (λ (s h o n : ℕ). n < s → (n % s / h ≡ 0 → ⊥) → (n % s / h ≡ o → ⊥) → round_root f ((n % h + h) * 2 ^ (n % s / h - 1) * 2 ^ low f) ≡ sqrt_of f x)
      (λ l z o. sqrt_mid f x v.held z o (lt-leb _ _ l))
