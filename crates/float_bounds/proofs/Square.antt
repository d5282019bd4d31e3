-- The square of a 32-bit value is exact in 64 bits: 24 digits make 48, and 53 are kept. Assumes nothing.
use mathlib.Core.Path.{◌≡◌, refl, sym, ap, ◌∙◌, subst}
use Prim.Native.Nat.{ℕ, ◌+◌, ◌*◌, ◌^◌, ◌≤◌}
use native.Mathlib.Nat.{le_trans, lt_of_le_of_lt, mul-pos, mul-le-mul, mul-le-mul_right, mul_assoc, mul-mul-mul_comm}
use mathlib.Core.Bool.{Bool, false}
use lib.Dec.{T, lit≤, lit<}
use lib.Pow.{pow_pos, pow-add}
use lib.Ieee.{Float, binary32, binary64, round, mul, fits}
use lib.Ieee.Scale.{finite, round_same}
use Rattle.float_bounds.proofs.Units.{Val, mul_round}
use Rattle.float_bounds.proofs.Held.{Held, fits_held, held_val}
use Rattle.float_bounds.proofs.Size.{mag_max, widen_val, unlike_self}

-- 1, in smallest values
abbrev L : ℕ
L = 2 ^ 1074

-- x is X smallest values, and its square n, which the format holds
pub record SquareOf (x : Float) : Type 0 where
  pub s : Bool
  pub X : ℕ
  pub val : Val binary64 x s X
  pub held : Held binary64 X
  pub most : X ≤ 2 ^ 1202
  pub n : ℕ
  pub square : Val binary64 (mul binary64 x x) false n
  pub square_held : Held binary64 n
  pub square_most : n ≤ 2 ^ 1330
  pub is : n * L ≡ X * X

pub square_of_lem : (x : Float) → T (finite x) → T (fits binary32 x) → SquareOf x
square_of_lem x p h =
    let m = mag_max binary32 x p h in
    let Y = m.X in
    let k = fits_held binary32 x h m.val in
    let v = widen_val m.val in
    let X = Y * 2 ^ 925 in
    let n = Y * Y * 2 ^ 776 in
    let Y-le : Y ≤ 2 ^ 277 = le_trans m.most (lit≤ tt) in
    let n_held : Held binary64 n = record { q = k.q * k.q; j = k.j + k.j + 776; few = le_trans (mul-le-mul k.few k.few) (lit≤ tt); is = twice k.q k.j Y k.is } in
    let n_le : n ≤ 2 ^ 1330 = le_trans (mul-le-mul_right (2 ^ 776) (mul-le-mul Y-le Y-le)) (lit≤ tt) in
    let e : n * L ≡ X * X = turn Y (2 ^ 776) (2 ^ 1074) (2 ^ 925) refl in
    record {
      s = m.s;
      X = X;
      val = v;
      held = record { q = k.q; j = k.j + 925; few = le_trans k.few (lit≤ tt); is = ap (λ (z : ℕ). z * 2 ^ 925) k.is ∙ mul_assoc k.q (2 ^ k.j) (2 ^ 925) ∙ ap (λ (z : ℕ). k.q * z) (sym (pow-add 2 k.j 925)) };
      most = le_trans (mul-le-mul_right (2 ^ 925) Y-le) (lit≤ tt);
      n = n;
      square = subst (λ (z : Float). Val binary64 z false n) (sym (mul_round v v ∙ ap (λ b. round binary64 b (X * X) (L * L)) (unlike_self m.s) ∙ round_same binary64 false (X * X) (L * L) n L (mul-pos (pow_pos 1074) (pow_pos 1074)) (pow_pos 1074) (cross (X * X) n L e))) (held_val binary64 n n_held (lt_of_le_of_lt n_le (lit< tt)));
      square_held = n_held;
      square_most = n_le;
      is = e;
    }
  where
    twice : (q j Y : ℕ) → Y ≡ q * 2 ^ j → Y * Y * 2 ^ 776 ≡ q * q * 2 ^ (j + j + 776)
    twice q j Y e =
        ap (λ (z : ℕ). z * z * 2 ^ 776) e ∙ ap (λ (z : ℕ). z * 2 ^ 776) (mul-mul-mul_comm q (2 ^ j) q (2 ^ j) ∙ ap (λ (z : ℕ). q * q * z) (sym (pow-add 2 j j)))
        ∙ mul_assoc (q * q) (2 ^ (j + j)) (2 ^ 776) ∙ ap (λ (z : ℕ). q * q * z) (sym (pow-add 2 (j + j) 776))

    turn : (Y u v w : ℕ) → u * v ≡ w * w → Y * Y * u * v ≡ Y * w * (Y * w)
    turn Y u v w e = mul_assoc (Y * Y) u v ∙ ap (λ (z : ℕ). Y * Y * z) e ∙ mul-mul-mul_comm Y Y w w

    cross : (a n l : ℕ) → n * l ≡ a → a * l ≡ n * (l * l)
    cross a n l e = ap (λ (z : ℕ). z * l) (sym e) ∙ mul_assoc n l l
