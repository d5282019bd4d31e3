-- Any finite value in 32 bits is at most the largest one, and something far smaller added to it does not overflow. Assumes nothing.
use mathlib.Core.Path.{◌≡◌, sym, ap, ◌∙◌, subst}
use mathlib.Core.Logic.{inl, inr}
use Prim.Native.Nat.{ℕ, ◌-◌, ◌*◌, ◌^◌, ◌≤◌, ◌<◌}
use native.Mathlib.Nat.{le_trans, le_of_eq, lt_of_le_of_lt, le_of_suc-le-suc, mul_assoc, mul-le-mul, mul-le-mul_right, lt_of_mul-lt-mul_right}
use native.Mathlib.Omega.{arith}
use lib.Dec.{T, lit≤, lit<}
use lib.Pow.{pow-add, pow_mono}
use lib.Ieee.{Float, binary32, size, sub, fits}
use lib.Ieee.Digits.{back}
use lib.Ieee.Scale.{finite}
use Rattle.float_widths.proofs.Grid.{le_or_lt}
use Rattle.float_bounds.proofs.Units.{sub_is}
use Rattle.float_bounds.proofs.Held.{Held, fits_held}
use Rattle.float_bounds.proofs.Size.{Mag, mag_max, mag_neg, mag_absorb}

-- (2 ^ 24 - 1) · 2 ^ 104
abbrev pub top32 : ℕ
top32 = (2 ^ 24 - 1) * 2 ^ 253

under_top : (X : ℕ) → Held binary32 X → X < 2 ^ 277 → X ≤ top32
under_top X h l = elim (le_or_lt 253 h.j) [
  | inl g ↦
      let n = h.q * 2 ^ (h.j - 253) in
      let is : X ≡ n * 2 ^ 253 = h.is ∙ ap (λ (z : ℕ). h.q * 2 ^ z) (sym (back h.j 253 g)) ∙ ap (λ (z : ℕ). h.q * z) (pow-add 2 (h.j - 253) 253) ∙ sym (mul_assoc h.q (2 ^ (h.j - 253)) (2 ^ 253)) in
      let few : n < 2 ^ 24 = lt_of_mul-lt-mul_right (2 ^ 253) (subst (λ (z : ℕ). z < 2 ^ 277) is l) in
      le_trans (le_of_eq is) (mul-le-mul_right (2 ^ 253) (less n (2 ^ 24) few))
  | inr g ↦ le_trans (le_of_eq h.is) (le_trans (mul-le-mul h.few (pow_mono (le_of_suc-le-suc g))) (lit≤ tt))
]
  where
    less : (n m : ℕ) → n < m → n ≤ m - 1
    less n m h = omega arith

pub mag_top : (x : Float) → T (finite x) → T (fits binary32 x) → Mag binary32 x top32
mag_top x p h =
    let m = mag_max binary32 x p h in
    record { s = m.s; X = m.X; val = m.val; most = under_top m.X (fits_held binary32 x h m.val) (lt_of_le_of_lt m.most (lit< tt)) }

-- as an azimuth less the start of a pair
pub mag_sub_top : {x y : Float} → Mag binary32 x top32 → Mag binary32 y (2 ^ 100 * 2 ^ 149) → Mag binary32 (sub binary32 x y) top32
unfolding size
mag_sub_top {x} {y} h k = subst (λ (z : Float). Mag binary32 z top32) (sym (sub_is binary32 x y)) (mag_absorb h (mag_neg k) (lit≤ tt) (lit< tt))
