-- `decimal_of` gives the nearest number of steps: by twice the remainder, and at a tie the even one. Assumes nothing.
use mathlib.Core.Path.{◌≡◌, sym, ap, ◌∙◌, subst}
use mathlib.Core.Bool.{Bool, true, false, not, cond}
use mathlib.Core.Logic.{◌⊎◌, inl, inr}
use Prim.Native.Nat.{ℕ, ◌+◌, ◌*◌, ◌/◌, ◌%◌, ◌^◌, ◌≤◌, ◌<◌}
use native.Mathlib.Nat.{le_trans, le_of_eq, eq-or-lt_of_le, mod-lt, div-add-mod', mul-le-mul_right, add-mul, one-mul}
use native.Mathlib.Omega.{arith}
use lib.Dec.{T, ltb, ltb→lt, nltb→le}
use lib.Ieee.{up, down}
use lib.Ieee.Fits.{down_pos}
use lib.Ieee.Nearest.{closest}
use Rattle.float_widths.specs.Meaning.{apart}
use Rattle.float_widths.proofs.Grid.{sides, parity}
use Rattle.demo_decimal.specs.declared.Size.TheVariants.{Steps, Large}
use Rattle.demo_decimal.specs.Decimal.{decimal_of}
use Rattle.demo_decimal.specs.Meaning.{Nearest, DecimalNearest}
use Rattle.demo_decimal.proofs.Steps.{below_half, at_half, above_half}

-- ---- two multiples of b are the same, or lie b or more apart
one_more : (w b : ℕ) → (w + 1) * b ≡ w * b + b
one_more w b = add-mul w 1 b ∙ ap (λ (n : ℕ). w * b + n) (one-mul b)

next_up : (j k b : ℕ) → j < k → j * b + b ≤ k * b
next_up j k b h =
    let l : j + 1 ≤ k = omega arith in
    le_trans (le_of_eq (sym (one_more j b))) (mul-le-mul_right b l)

multiples : (n k b : ℕ) → (n ≡ k) ⊎ ((k * b + b ≤ n * b) ⊎ (n * b + b ≤ k * b))
multiples n k b = go (ltb n k) (ltb→lt n k) (nltb→le n k)
  where
    go : (x : Bool) → (T x → n < k) → (T (not x) → k ≤ n) → (n ≡ k) ⊎ ((k * b + b ≤ n * b) ⊎ (n * b + b ≤ k * b))
    go true l g = inr (inr (next_up n k b (l tt)))
    go false l g = elim (eq-or-lt_of_le (g tt)) [
      | inl e ↦ inl (sym e)
      | inr h ↦ inr (inl (next_up k n b h))
    ]

same_multiple : (n k b : ℕ) → n ≡ k → n * b ≡ k * b
same_multiple n k b e = ap (λ (x : ℕ). x * b) e

-- ---- a = w * b + r
module _ (a b w r : ℕ) (split : w * b + r ≡ a) (small : r < b) where
  lower : r * 2 < b → Nearest a b w
  lower h = record { near = near; even = even }
    where
      near : (k : ℕ) → apart a (w * b) ≤ apart a (k * b)
      near k = elim (multiples w k b) [
        | inl e ↦ omega (arith, same_multiple w k b e)
        | inr (inl g) ↦ omega arith
        | inr (inr g) ↦ omega arith
      ]

      even : (k : ℕ) → (w ≡ k → ⊥) → apart a (w * b) ≡ apart a (k * b) → w % 2 ≡ 0
      even k other e = elim (multiples w k b) [
        | inl s ↦ absurd (other s)
        | inr (inl g) ↦ omega arith
        | inr (inr g) ↦ omega arith
      ]

  upper : b < r * 2 → Nearest a b (w + 1)
  upper h = record { near = near; even = even }
    where
      up : (w + 1) * b ≡ w * b + b
      up = one_more w b

      near : (k : ℕ) → apart a ((w + 1) * b) ≤ apart a (k * b)
      near k = elim (multiples (w + 1) k b) [
        | inl e ↦ omega (arith, same_multiple (w + 1) k b e)
        | inr (inl g) ↦ omega (arith, up)
        | inr (inr g) ↦ omega (arith, up)
      ]

      even : (k : ℕ) → (w + 1 ≡ k → ⊥) → apart a ((w + 1) * b) ≡ apart a (k * b) → (w + 1) % 2 ≡ 0
      even k other e = elim (multiples (w + 1) k b) [
        | inl s ↦ absurd (other s)
        | inr (inl g) ↦ omega (arith, up)
        | inr (inr g) ↦ omega (arith, up)
      ]

  half : r * 2 ≡ b → Nearest a b (w + w % 2)
  half h = record { near = near; even = λ k other e. even w }
    where
      even : (w : ℕ) → (w + w % 2) % 2 ≡ 0
      even w = omega arith

      -- both neighbours are r away
      away : (w % 2 ≡ 0) ⊎ (w % 2 ≡ 1) → apart a ((w + w % 2) * b) ≡ r
      away (inl z) = let e = same_multiple (w + w % 2) w b (omega arith) in omega arith
      away (inr o) = let e = same_multiple (w + w % 2) (w + 1) b (omega arith) in omega (arith, one_more w b)

      near : (k : ℕ) → apart a ((w + w % 2) * b) ≤ apart a (k * b)
      near k = elim (multiples w k b) [
        | inl e ↦ omega (arith, same_multiple w k b e, away (parity w))
        | inr (inl g) ↦ omega (arith, away (parity w))
        | inr (inr g) ↦ omega (arith, away (parity w))
      ]

-- the nearest whole number to a / b
closest_nearest : (a b : ℕ) → 0 < b → Nearest a b (closest a b)
closest_nearest a b B = elim (sides (a % b * 2) b) [
  | inl h ↦ subst (Nearest a b) (below_half a b h) (lower a b (a / b) (a % b) (div-add-mod' a b) (mod-lt a B) h)
  | inr (inl h) ↦ subst (Nearest a b) (at_half a b h) (half a b (a / b) (a % b) (div-add-mod' a b) (mod-lt a B) h)
  | inr (inr h) ↦ subst (Nearest a b) (above_half a b h) (upper a b (a / b) (a % b) (div-add-mod' a b) (mod-lt a B) h)
]

steps_only : (x : Bool) (c n : ℕ) → cond x (Steps c) Large ≡ Steps n → c ≡ n
steps_only true c n h = cc
steps_only false c n h = let z : ◌≡◌ {A = ℕ} 0 1 = cc in omega arith

pub decimal_nearest : DecimalNearest
unfolding decimal_of
decimal_nearest d n s m e h =
    subst (Nearest (m * up e * 10 ^ d) (down e)) (steps_only (ltb (m * up e) (2 ^ 24 * down e)) (closest (m * up e * 10 ^ d) (down e)) n h)
    (closest_nearest (m * up e * 10 ^ d) (down e) (down_pos e))
