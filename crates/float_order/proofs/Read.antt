-- What a value is, from the fields of its bit pattern. Assumes nothing.
use mathlib.Core.Path.{◌≡◌, refl, sym, ap, ◌∙◌, subst}
use Prim.Native.Nat.{ℕ, zero, suc, ◌+◌, ◌-◌, ◌*◌, ◌/◌, ◌%◌, ◌^◌}
use native.Mathlib.Nat.{add_comm}
use native.Mathlib.Omega.{arith}
use mathlib.Core.Bool.{Bool, true, false, not, cond}
use lib.Dec.{T, leb, eqb}
use lib.Ieee.{Float, nan, inf, fin, Format, prec, emax, low, odd, fits, is_nan, ne, hid, ones, top, of_fields, of_bits, to_bits}
use lib.Ieee.Bits.{of_bits-to_bits}
use lib.Ieee.Exact.{HasValue, odd_sign}
use lib.Ieee.Compare.{nan_differs}
use borrow.Author.Tests.{eq-eqb, ne_eqb}

pub nan_not : (x : Float) → ne x x ≡ false → T (not (is_nan x))
unfolding is_nan
nan_not nan h = subst T (sym nan_differs ∙ h) tt
nan_not (inf s) h = tt
nan_not (fin s m e) h = tt

pub read_is : (f : Format) (x : Float) → T (fits f x) → x ≡ of_fields f (leb (top f) (to_bits f x)) (to_bits f x % top f / hid f) (to_bits f x % hid f)
unfolding of_bits
read_is f x h = sym (of_bits-to_bits f x h)

low_fields : (f : Format) (s : Bool) (e t : ℕ) → e ≡ 0 → HasValue (of_fields f s e t) s (t * 2 ^ 0) (2 ^ low f)
unfolding of_fields
low_fields f s zero t z = odd_sign (prec f) s t 0 (low f)
low_fields f s (suc e) t z = absurd (no e z)
  where
    no : (e : ℕ) → suc e ≡ 0 → ⊥
    no e h = omega arith

mid_fields : (f : Format) (s : Bool) (e t : ℕ) → (e ≡ 0 → ⊥) → (e ≡ ones f → ⊥) → HasValue (of_fields f s e t) s ((t + hid f) * 2 ^ (e - 1)) (2 ^ low f)
unfolding of_fields
mid_fields f s zero t z o = absurd (z refl)
mid_fields f s (suc e) t z o =
    subst (λ (v : Float). HasValue v s ((t + hid f) * 2 ^ (suc e - 1)) (2 ^ low f)) (sym (ap (λ (b : Bool). cond b (cond (eqb t 0) (inf s) nan) (odd (prec f) s (hid f + t) e (low f))) (ne_eqb (suc e) (ones f) o)))
    (subst (λ (k : ℕ). HasValue (odd (prec f) s (hid f + t) e (low f)) s ((t + hid f) * 2 ^ k) (2 ^ low f)) (pred_is e)
    (subst (λ (q : ℕ). HasValue (odd (prec f) s (hid f + t) e (low f)) s (q * 2 ^ e) (2 ^ low f)) (add_comm (hid f) t) (odd_sign (prec f) s (hid f + t) e (low f))))
  where
    pred_is : (e : ℕ) → e ≡ suc e - 1
    pred_is e = omega arith

top_fields : (f : Format) (s : Bool) (e t : ℕ) → e ≡ ones f → T (not (is_nan (of_fields f s e t))) → of_fields f s e t ≡ inf s
unfolding of_fields is_nan
top_fields f s zero t o n = absurd (no (emax f) o)
  where
    no : (e : ℕ) → 0 ≡ 2 * e + 1 → ⊥
    no e h = omega arith
top_fields f s (suc e) t o n =
    let a = ap (λ (b : Bool). cond b (cond (eqb t 0) (inf s) nan) (odd (prec f) s (hid f + t) e (low f))) (eq-eqb (suc e) (ones f) o) in
    a ∙ go (eqb t 0) (subst (λ (v : Float). T (not (is_nan v))) a n)
  where
    go : (b : Bool) → T (not (is_nan (cond b (inf s) nan))) → cond b (inf s) nan ≡ inf s
    go true h = refl
    go false h = absurd h

-- ---- of a value that the format holds
module _ (f : Format) (x : Float) (h : T (fits f x)) where
  pub value_low : to_bits f x % top f / hid f ≡ 0 → HasValue x (leb (top f) (to_bits f x)) (to_bits f x % hid f * 2 ^ 0) (2 ^ low f)
  value_low z = subst (λ (v : Float). HasValue v (leb (top f) (to_bits f x)) (to_bits f x % hid f * 2 ^ 0) (2 ^ low f)) (sym (read_is f x h)) (low_fields f (leb (top f) (to_bits f x)) (to_bits f x % top f / hid f) (to_bits f x % hid f) z)

  pub value_mid : (to_bits f x % top f / hid f ≡ 0 → ⊥) → (to_bits f x % top f / hid f ≡ ones f → ⊥)
      → HasValue x (leb (top f) (to_bits f x)) ((to_bits f x % hid f + hid f) * 2 ^ (to_bits f x % top f / hid f - 1)) (2 ^ low f)
  value_mid z o =
      subst (λ (v : Float). HasValue v (leb (top f) (to_bits f x)) ((to_bits f x % hid f + hid f) * 2 ^ (to_bits f x % top f / hid f - 1)) (2 ^ low f)) (sym (read_is f x h))
      (mid_fields f (leb (top f) (to_bits f x)) (to_bits f x % top f / hid f) (to_bits f x % hid f) z o)

  pub value_top : to_bits f x % top f / hid f ≡ ones f → T (not (is_nan x)) → x ≡ inf (leb (top f) (to_bits f x))
  value_top o n =
      read_is f x h ∙ top_fields f (leb (top f) (to_bits f x)) (to_bits f x % top f / hid f) (to_bits f x % hid f) o (subst (λ (v : Float). T (not (is_nan v))) (read_is f x h) n)
