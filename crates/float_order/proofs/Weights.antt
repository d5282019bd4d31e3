-- What is stated of a format's own weights and of a value's pattern, at weights and patterns that are equal to those. Assumes nothing.
use Rattle.std.proofs.Common.{◌≡◌, ℕ, ◌+◌, ◌-◌, ◌*◌, ◌/◌, ◌%◌, ◌^◌, ◌<◌, ◌≤◌, T, Bool, true, false, not, cond, refl, sym, ◌∙◌, subst, arith, le_of_eq, lt_of_lt_of_le, lit≤, lit<}
use Rattle.std.proofs.Math.Nat.{mod-lt, div-lt_iff_lt-mul}
use lib.Dec.{leb}
use lib.Ieee.{Float, inf, Format, binary32, binary64, low, hid, ones, top, of_bits, to_bits, nan_bits, rem}
use lib.Ieee.Bits.{to_bits-lt}
use lib.Ieee.Exact.{HasValue}
use Rattle.float_remainder.specs.Patterns.{units_of}
use Rattle.float_remainder.proofs.Laws.{units_below}
use Rattle.float_order.specs.Values.{sign_bit}
use Rattle.float_order.specs.Width.{Weights, Patterned}
use Rattle.float_order.proofs.Read.{value_top}
use Rattle.float_order.proofs.Patterns.{value_units, rem_patterned, rem_not_nan, sign_part, hid_pos}
use Rattle.float_order.proofs.Values.{sign_of_pattern}

-- ---- bounds of the weights
field_most : (f : Format) → hid f ≤ 2 ^ 52
field_most binary32 = lit≤ tt
field_most binary64 = lit≤ tt

sign_most : (f : Format) → top f ≤ 2 ^ 63
sign_most binary32 = lit≤ tt
sign_most binary64 = lit≤ tt

sign_least : (f : Format) → 0 < top f
sign_least binary32 = lit< tt
sign_least binary64 = lit< tt

fields_are : (f : Format) → top f ≡ (ones f + 1) * hid f
fields_are binary32 = refl
fields_are binary64 = refl

fields_most : (f : Format) → ones f + 1 ≤ 2 ^ 11
fields_most binary32 = lit≤ tt
fields_most binary64 = lit≤ tt

pub record Bounds (S H O : ℕ) : Type 0 where
  pub sign_some : 0 < S
  pub sign_few : S ≤ 2 ^ 63
  pub field_some : 0 < H
  pub field_few : H ≤ 2 ^ 52
  pub fields : S ≡ (O + 1) * H
  pub fields_few : O + 1 ≤ 2 ^ 11

parted : (S H O : ℕ) → S ≡ (O + 1) * H → O * H ≤ S
parted S H O e = omega arith

sign_room : (s t r : ℕ) (c : Bool) (n : ℕ) → n ≡ cond c s 0 → t ≤ s → r < t → n + r < 2 * s
sign_room s t r true n e l h = omega arith
sign_room s t r false n e l h = omega arith

-- weights that are equal to a format's
pub weights_read : {f : Format} {S H O s h o : ℕ} → Weights f S H O → s ≡ S → h ≡ H → o ≡ O → Weights f s h o
weights_read w a b c = record { sign_is = a ∙ w.sign_is; field_is = b ∙ w.field_is; highest_is = c ∙ w.highest_is }

module _ {f : Format} {S H O : ℕ} (w : Weights f S H O) where
  pub at_weights : (P : ℕ → ℕ → ℕ → Type 0) → P (top f) (hid f) (ones f) → P S H O
  at_weights P p =
      subst (λ (s : ℕ). P s H O) (sym w.sign_is) (subst (λ (h : ℕ). P (top f) h O) (sym w.field_is) (subst (λ (o : ℕ). P (top f) (hid f) o) (sym w.highest_is) p))

  pub bounds : Bounds S H O
  bounds =
      at_weights (λ (s h o : ℕ). Bounds s h o)
      (record { sign_some = sign_least f; sign_few = sign_most f; field_some = hid_pos f; field_few = field_most f; fields = fields_are f; fields_few = fields_most f })

  -- the exponent's field is no higher than the highest
  pub field_in : (n : ℕ) → n % S / H < O + 1
  field_in n =
      let b = bounds in
      (div-lt_iff_lt-mul b.field_some).1 (lt_of_lt_of_le (mod-lt n b.sign_some) (le_of_eq b.fields))

  -- ---- of one pattern
  module _ {x : Float} {p : ℕ} (v : Patterned f x p) where
    at_pattern : (P : ℕ → ℕ → ℕ → ℕ → Type 0) → P (top f) (hid f) (ones f) (to_bits f x) → P S H O p
    at_pattern P t = at_weights (λ (s h o : ℕ). P s h o p) (subst (λ (n : ℕ). P (top f) (hid f) (ones f) n) (sym v.pattern) t)

    -- the sign's part with a finite value's pattern
    pub pattern_room : (r : ℕ) → r < O * H → p - p % S + r < 2 * S
    pattern_room r h =
        let b = bounds in
        let e : p - p % S ≡ cond (leb S p) S 0 = at_pattern (λ (s h o n : ℕ). n - n % s ≡ cond (leb s n) s 0) (sign_part f (to_bits f x) (to_bits-lt f x v.held)) in
        sign_room S (O * H) r (leb S p) (p - p % S) e (parted S H O b.fields) h

    pub pattern_sign : leb S p ≡ sign_bit x
    pattern_sign = at_pattern (λ (s h o n : ℕ). leb s n ≡ sign_bit x) (sign_of_pattern f x v.held v.number)

    pub pattern_infinite : p % S / H ≡ O → x ≡ inf (leb S p)
    pattern_infinite =
        at_pattern (λ (s h o n : ℕ). n % s / h ≡ o → x ≡ inf (leb s n)) (λ e. value_top f x v.held e v.number)

    pub pattern_finite : (p % S / H ≡ O → ⊥) → HasValue x (leb S p) (units_of H (p % S)) (2 ^ low f)
    pattern_finite =
        at_pattern (λ (s h o n : ℕ). (n % s / h ≡ o → ⊥) → HasValue x (leb s n) (units_of h (n % s)) (2 ^ low f)) (value_units f x v.held)

    pub pattern_zero : (p % S / H ≡ O → ⊥) → p % S ≡ 0 → HasValue x (leb S p) 0 (2 ^ low f)
    pattern_zero o z =
        let b = bounds in
        subst (λ (n : ℕ). HasValue x (leb S p) n (2 ^ low f)) (units_below H 0 b.field_some)
        (subst (λ (n : ℕ). HasValue x (leb S p) (units_of H n) (2 ^ low f)) z (pattern_finite o))

    -- ---- of two: the pattern r of their remainder
    module _ {y : Float} {q : ℕ} (u : Patterned f y q) where
      at_patterns : (P : ℕ → ℕ → ℕ → ℕ → ℕ → Type 0) → P (top f) (hid f) (ones f) (to_bits f x) (to_bits f y) → P S H O p q
      at_patterns P t = at_pattern (λ (s h o n : ℕ). P s h o n q) (subst (λ (m : ℕ). P (top f) (hid f) (ones f) (to_bits f x) m) (sym u.pattern) t)

      pub pattern_found : (r : ℕ) → (p % S / H ≡ O → ⊥) → (q % S / H ≡ O → ⊥) → 0 < q % S → r < O * H → units_of H r ≡ units_of H (p % S) % units_of H (q % S) → of_bits f (p - p % S + r) ≡ rem f x y
      pattern_found r =
          at_patterns (λ (s h o n m : ℕ). (n % s / h ≡ o → ⊥) → (m % s / h ≡ o → ⊥) → 0 < m % s → r < o * h → units_of h r ≡ units_of h (n % s) % units_of h (m % s) → of_bits f (n - n % s + r) ≡ rem f x y)
          (rem_patterned f x y r v.held u.held)

    pub pattern_number : (r : ℕ) → r < O * H → T (not (nan_bits f (p - p % S + r)))
    pattern_number r =
        at_pattern (λ (s h o n : ℕ). r < o * h → T (not (nan_bits f (n - n % s + r)))) (rem_not_nan f x r v.held)
