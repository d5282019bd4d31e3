-- `sqrt_of`, by the fields of a value's bit pattern, at either format. Assumes nothing.
use mathlib.Core.Path.{◌≡◌, refl, sym, ap, ◌∙◌, subst}
use Prim.Native.Nat.{ℕ, zero, suc, ◌+◌, ◌-◌, ◌*◌, ◌/◌, ◌%◌, ◌^◌, ◌<◌}
use native.Mathlib.Nat.{lt_irrefl, lt_of_lt_of_le, mul_assoc, mul_right_comm, mul-pos, mul-div_cancel, mul-one, zero-mul, zero-lt-suc, le-add_left}
use native.Mathlib.Omega.{arith}
use mathlib.Core.Bool.{Bool, true, false, not, true≢false, false≢true}
use lib.Dec.{T, leb, eqb}
use lib.Pow.{pow_pos}
use lib.Ieee.{Float, nan, inf, fin, Format, binary32, binary64, prec, low, up, down, add, fits, is_nan, hid, ones, top, to_bits}
use lib.Ieee.Fits.{up_pos, down_pos}
use lib.Ieee.Exact.{HasValue}
use borrow.Author.Tests.{eqb-true, eqb-false}
use Rattle.float_root.specs.Root.{round_root, sqrt_of}
use Rattle.float_root.proofs.Root.{four}
use Rattle.float_order.proofs.Read.{value_low, value_mid, value_top}

-- ---- the fields of a pattern b without its sign
pub no_fields : (f : Format) (b : ℕ) → b % top f ≡ 0 → (b % top f / hid f ≡ 0) × (b % hid f ≡ 0)
no_fields binary32 b e = (omega arith, omega arith)
no_fields binary64 b e = (omega arith, omega arith)

pub some_digits : (f : Format) (b : ℕ) → (b % top f ≡ 0 → ⊥) → b % top f / hid f ≡ 0 → 0 < b % hid f
some_digits binary32 b n e = omega arith
some_digits binary64 b n e = omega arith

-- ---- by the value
pub of_positive : (f : Format) (x : Float) (s : Bool) (a : ℕ) → HasValue x s a (2 ^ low f) → s ≡ false → 0 < a → round_root f (a * 2 ^ low f) ≡ sqrt_of f x
unfolding sqrt_of
of_positive f nan s a v z p = absurd v
of_positive f (inf t) s a v z p = absurd v
of_positive f (fin t zero e) s a v z p = absurd (lt_irrefl 0 (subst (λ (x : ℕ). 0 < x) (sym v.1 ∙ ap (λ (x : ℕ). x * 2 ^ low f) (zero-mul (up e)) ∙ zero-mul (2 ^ low f)) (mul-pos p (down_pos e))))
of_positive f (fin true (suc m) e) s a v z p = absurd (true≢false (v.0 ∙ z))
of_positive f (fin false (suc m) e) s a v z p =
    sym (ap (round_root f)
    (ap (λ (x : ℕ). suc m * up e * x / down e) (four (low f))
    ∙ ap (λ (x : ℕ). x / down e) (sym (mul_assoc (suc m * up e) (2 ^ low f) (2 ^ low f)) ∙ ap (λ (x : ℕ). x * 2 ^ low f) v.1 ∙ mul_right_comm a (down e) (2 ^ low f))
    ∙ mul-div_cancel (a * 2 ^ low f) (down_pos e)))

of_zero : (f : Format) (x : Float) (s : Bool) (a c : ℕ) → 0 < c → HasValue x s a c → a ≡ 0 → x ≡ sqrt_of f x
unfolding sqrt_of
of_zero f nan s a c p v z = absurd v
of_zero f (inf t) s a c p v z = absurd v
of_zero f (fin t zero e) s a c p v z = refl
of_zero f (fin t (suc m) e) s a c p v z =
    absurd (lt_irrefl 0 (subst (λ (x : ℕ). 0 < x) (v.1 ∙ ap (λ (x : ℕ). x * down e) z ∙ zero-mul (down e)) (mul-pos (mul-pos (zero-lt-suc m) (up_pos e)) p)))

of_negative : (f : Format) (x : Float) (s : Bool) (a c : ℕ) → HasValue x s a c → s ≡ true → 0 < a → nan ≡ sqrt_of f x
unfolding sqrt_of
of_negative f nan s a c v z p = absurd v
of_negative f (inf t) s a c v z p = absurd v
of_negative f (fin t zero e) s a c v z p = absurd (lt_irrefl 0 (subst (λ (x : ℕ). 0 < x) (sym v.1 ∙ ap (λ (x : ℕ). x * c) (zero-mul (up e)) ∙ zero-mul c) (mul-pos p (down_pos e))))
of_negative f (fin false (suc m) e) s a c v z p = absurd (false≢true (v.0 ∙ z))
of_negative f (fin true (suc m) e) s a c v z p = refl

of_inf : (f : Format) (x : Float) (s : Bool) → x ≡ inf s → (s ≡ true → nan ≡ sqrt_of f x) × (s ≡ false → x ≡ sqrt_of f x)
unfolding sqrt_of
of_inf f x s e = ((λ z. sym (ap (sqrt_of f) (e ∙ ap inf z))), (λ z. e ∙ ap inf z ∙ sym (ap (sqrt_of f) (e ∙ ap inf z))))

pub sqrt_nan : (f : Format) (x : Float) → x ≡ nan → add f x x ≡ sqrt_of f x
unfolding sqrt_of add
sqrt_nan f x e = ap (λ (v : Float). add f v v) e ∙ sym (ap (sqrt_of f) e)

-- ---- by the fields: the sign's bit, the exponent's field and the digits
high : (f : Format) (t k : ℕ) → 0 < (t + hid f) * 2 ^ k
high f t k = mul-pos (lt_of_lt_of_le (pow_pos (prec f - 1)) (le-add_left (hid f) t)) (pow_pos k)

module _ (f : Format) (x : Float) (h : T (fits f x)) where
  pub sqrt_zero : to_bits f x % top f / hid f ≡ 0 → to_bits f x % hid f ≡ 0 → x ≡ sqrt_of f x
  sqrt_zero e t = of_zero f x _ _ (2 ^ low f) (pow_pos (low f)) (value_low f x h e) (mul-one (to_bits f x % hid f) ∙ t)

  pub sqrt_inf : to_bits f x % top f / hid f ≡ ones f → T (not (is_nan x)) → leb (top f) (to_bits f x) ≡ false → x ≡ sqrt_of f x
  sqrt_inf e n s = (of_inf f x _ (value_top f x h e n)).1 s

  pub sqrt_low : to_bits f x % top f / hid f ≡ 0 → leb (top f) (to_bits f x) ≡ false → 0 < to_bits f x % hid f → round_root f (to_bits f x % hid f * 2 ^ 0 * 2 ^ low f) ≡ sqrt_of f x
  sqrt_low e s p = of_positive f x _ _ (value_low f x h e) s (mul-pos p (pow_pos 0))

  pub sqrt_mid : (to_bits f x % top f / hid f ≡ 0 → ⊥) → (to_bits f x % top f / hid f ≡ ones f → ⊥) → leb (top f) (to_bits f x) ≡ false
      → round_root f ((to_bits f x % hid f + hid f) * 2 ^ (to_bits f x % top f / hid f - 1) * 2 ^ low f) ≡ sqrt_of f x
  sqrt_mid z o s = of_positive f x _ _ (value_mid f x h z o) s (high f (to_bits f x % hid f) (to_bits f x % top f / hid f - 1))

  pub sqrt_negative : T (not (is_nan x)) → leb (top f) (to_bits f x) ≡ true → (to_bits f x % top f / hid f ≡ 0 → 0 < to_bits f x % hid f) → nan ≡ sqrt_of f x
  sqrt_negative n s p = go (eqb (to_bits f x % top f / hid f) 0) refl (eqb (to_bits f x % top f / hid f) (ones f)) refl
    where
      go : (a : Bool) → eqb (to_bits f x % top f / hid f) 0 ≡ a → (b : Bool) → eqb (to_bits f x % top f / hid f) (ones f) ≡ b → nan ≡ sqrt_of f x
      go true i b j = let e = eqb-true (to_bits f x % top f / hid f) 0 i in of_negative f x _ _ (2 ^ low f) (value_low f x h e) s (mul-pos (p e) (pow_pos 0))
      go false i true j = (of_inf f x _ (value_top f x h (eqb-true (to_bits f x % top f / hid f) (ones f) j) n)).0 s
      go false i false j =
          of_negative f x _ _ (2 ^ low f) (value_mid f x h (eqb-false (to_bits f x % top f / hid f) 0 i) (eqb-false (to_bits f x % top f / hid f) (ones f) j)) s (high f (to_bits f x % hid f) (to_bits f x % top f / hid f - 1))
