-- The root of a sum of squares in 32 bits, where it is above 2 ^ -40, is at least half of each number whose square is in the sum. Assumes nothing.
use mathlib.Core.Path.{◌≡◌, refl, ap, ◌∙◌}
use mathlib.Core.Logic.{inl, inr}
use Prim.Native.Nat.{ℕ, zero, suc, ◌+◌, ◌*◌, ◌^◌, ◌≤◌, ◌<◌}
use native.Mathlib.Nat.{le_trans, le_of_eq, le_of_lt, lt_of_le_of_lt, lt_irrefl, lt_of_lt_of_le, mul_comm, mul-pos, mul-le-mul, mul-le-mul_right, mul-le-mul_left, le_of_mul-le-mul_right, pow-suc}
use native.Mathlib.Omega.{arith}
use lib.Dec.{lit≤, lit<}
use lib.Pow.{pow_pos}
use lib.Ieee.{Float, binary32}
use lib.Ieee.Scale.{grid, overflow}
use Rattle.float_widths.proofs.Grid.{le_or_lt}
use Rattle.float_bounds.proofs.Held.{Held}
use Rattle.float_bounds.proofs.Error.{steps, round_error}
use Rattle.float_bounds.proofs.Root.{RootOf}

abbrev L : ℕ
L = 2 ^ 149

-- ---- twice a number that the format holds

record Half (X : ℕ) : Type 0 where
  pub C : ℕ
  pub held : Held binary32 C
  pub is : X ≡ 2 * C

half_of : (X : ℕ) → Held binary32 X → 2 ^ 109 < X → Half X
half_of X h l = go h.j h.is
  where
    go : (j : ℕ) → X ≡ h.q * 2 ^ j → Half X
    go zero e = absurd (lt_irrefl (2 ^ 109) (lt_of_lt_of_le l (le_trans (le_of_eq e) (le_trans (mul-le-mul_right 1 h.few) (lit≤ tt)))))
    go (suc j) e = record {
      C = h.q * 2 ^ j;
      held = record { q = h.q; j = j; few = h.few; is = refl };
      is = e ∙ turn h.q (2 ^ suc j) (2 ^ j) (one j);
    }
      where
        one : (j : ℕ) → 2 ^ suc j ≡ 2 ^ j * 2
        one j = pow-suc 2 j

        turn : (q a b : ℕ) → a ≡ b * 2 → q * a ≡ 2 * (q * b)
        turn q a b e = ap (λ (z : ℕ). q * z) e ∙ omega arith

-- ---- S is the sum, at least the rounded square, and R its root
pub norm_part : {x : Float} (X S : ℕ) → Held binary32 X → X < overflow binary32 → grid binary32 (X * X) (L * L) ≤ S → (r : RootOf binary32 x S) → 2 ^ 109 ≤ r.R → X ≤ 2 * r.R
norm_part X S h o s r b = elim (le_or_lt X (2 ^ 109)) [
  | inl l ↦ le_trans l (le_trans b (twice r.R))
  | inr l ↦
      let k = half_of X h l in
      let C = k.C in
      let e = k.is in
      let Q = grid binary32 (X * X) (L * L) in
      let big : L ≤ C * C = le_trans (lit≤ tt) (mul-le-mul (large C X k.is l) (large C X k.is l)) in
      let err = (round_error binary32 (X * X) (L * L) (mul-pos (pow_pos 149) (pow_pos 149))).1 in
      let over : C * C * 4 * steps binary32 ≤ (Q * L + L) * suc (steps binary32) = le_of_mul-le-mul_right (cancel C X Q L (steps binary32) e err) (pow_pos 149) in
      let under : C * C ≤ Q * L = squares (C * C) (Q * L) L (steps binary32) over big (lit≤ tt) in
      le_trans (le_of_eq e) (mul-le-mul_left 2 (r.least C k.held (lt_of_le_of_lt (half C X e) o) (le_trans under (mul-le-mul_right L s))))
]
  where
    twice : (n : ℕ) → n ≤ 2 * n
    twice n = omega arith

    half : (C X : ℕ) → X ≡ 2 * C → C ≤ X
    half C X e = omega arith

    large : (C X : ℕ) → X ≡ 2 * C → 2 ^ 109 < X → 2 ^ 108 ≤ C
    large C X e h = le_of_mul-le-mul_right (le_trans (lit≤ tt) (le_trans (le_of_lt h) (le_of_eq (e ∙ mul_comm 2 C)))) (lit< tt)

    cancel : (C X Q l D : ℕ) → X ≡ 2 * C → X * X * l * D ≤ (Q * (l * l) + l * l) * suc D → C * C * 4 * D * l ≤ (Q * l + l) * suc D * l
    cancel C X Q l D e h =
        let x : X * X ≡ 2 * C * (2 * C) = ap (λ (z : ℕ). z * z) e in
        let y : X * X * (l * D) ≡ 2 * C * (2 * C) * (l * D) = ap (λ (z : ℕ). z * (l * D)) x in
        omega arith

    squares : (a b l D : ℕ) → a * 4 * D ≤ (b + l) * suc D → l ≤ a → 1 ≤ D → a ≤ b
    squares a b l D h k d = elim (le_or_lt a b) [
      | inl g ↦ g
      | inr g ↦
          let x = mul-le-mul_right D g in
          let y = mul-le-mul_right D k in
          let z = mul-le-mul_right a d in
          absurd (omega arith)
    ]
