-- The values of a format as whole numbers of its smallest values, and which of them is nearest to a point between two neighbours. Assumes nothing.
use Rattle.std.proofs.Common.{◌≡◌, ℕ, zero, suc, ◌+◌, ◌-◌, ◌*◌, ◌/◌, ◌%◌, ◌^◌, ◌<◌, ◌≤◌, Bool, true, false, cond, not, ◌&&◌, T, eqb, ltb, leb, ◌⊎◌, ℤ, pos, negsuc, sym, refl, ap, ◌∙◌, subst, inl, inr, le_trans, le_of_eq, le_of_lt, mul-le-mul_right, mul_assoc, suc-mul, add-mul, eq-zero-or-pos, eq-or-lt_of_le, le-div_iff_mul-le, zero-mul, mul-one, arith, eqb→eq, ltb→lt, leb→le, pow_pos, pow_mono, pow-add}
use Prim.Native.Nat.{compare, Ordering}
use native.Mathlib.Nat.{eq_of_mul-eq-mul_right}
use lib.Dec.{is_le, compare_is_eq, nleb→lt, eqb_refl}
use lib.Arith.{lt_of_le-ne}
use lib.Ieee.{Float, nan, inf, fin, Format, binary32, binary64, prec, emax, low, up, down, size, nearest, odd, units, fits, hid, top, to_bits}
use lib.Ieee.Digits.{back, size_reaches}
use lib.Ieee.Fits.{two, down_pos, and_l, and_r}
use lib.Ieee.Exact.{HasValue, odd_sign}
use Rattle.float_order.specs.Values.{sign_bit}
use Rattle.float_order.proofs.Laws.{pow_back, to_bits_units, too_large}
use Rattle.float_order.proofs.Values.{odd_signed}

-- ---- whole numbers
pub le_or_lt : (a b : ℕ) → (a ≤ b) ⊎ (b < a)
le_or_lt a b = go (leb a b) (leb→le a b) (nleb→lt a b)
  where
    go : (t : Bool) → (T t → a ≤ b) → (T (not t) → b < a) → (a ≤ b) ⊎ (b < a)
    go true x y = inl (x tt)
    go false x y = inr (y tt)

pub sides : (a b : ℕ) → (a < b) ⊎ ((a ≡ b) ⊎ (b < a))
sides a b = elim (le_or_lt a b) [ inl h ↦ elim (eq-or-lt_of_le h) [ inl e ↦ inr (inl e) | inr l ↦ inl l ] | inr h ↦ inr (inr h) ]

pub zero_is : (y d : ℕ) → 0 < d → y * d ≡ 0 → y ≡ 0
zero_is y d p e = eq_of_mul-eq-mul_right d p y 0 (e ∙ sym (zero-mul d))

pub parity : (n : ℕ) → (n % 2 ≡ 0) ⊎ (n % 2 ≡ 1)
parity n = elim (eq-zero-or-pos (n % 2)) [ inl z ↦ inl z | inr z ↦ inr (omega arith) ]

-- ---- a value of the format, in its smallest values: m * 2 ^ j with an m of prec digits
abbrev pub OnGrid : Format → ℕ → Type 0
OnGrid f y = (m : ℕ) × (j : ℕ) × (m < 2 ^ prec f) × (y ≡ m * 2 ^ j)

place : (f : Format) (m y : ℕ) (e : ℤ) → m < 2 ^ prec f → down e ≤ 2 ^ low f → m * up e * 2 ^ low f ≡ y * down e → OnGrid f y
place f m y (pos a) h d v = (m, a + low f, h, sym (mul-one y) ∙ sym v ∙ mul_assoc m (2 ^ a) (2 ^ low f) ∙ ap (λ (x : ℕ). m * x) (sym (pow-add 2 a (low f))))
place f m y (negsuc a) h d v =
    let l : suc a ≤ low f = pow_back (suc a) (low f) d in (
      m,
      low f - suc a,
      h,
      eq_of_mul-eq-mul_right (2 ^ suc a) (pow_pos (suc a)) y (m * 2 ^ (low f - suc a))
          (sym v ∙ ap (λ (x : ℕ). x * 2 ^ low f) (mul-one m) ∙ ap (λ (x : ℕ). m * x) (ap (λ (x : ℕ). 2 ^ x) (sym (back (low f) (suc a) l)) ∙ pow-add 2 (low f - suc a) (suc a)) ∙ sym (mul_assoc m (2 ^ (low f - suc a)) (2 ^ suc a))),
    )

pub on_grid : (f : Format) (v : Float) (s : Bool) (y : ℕ) → T (fits f v) → HasValue v s y (2 ^ low f) → OnGrid f y
unfolding fits
on_grid f nan s y h v = absurd v
on_grid f (inf t) s y h v = absurd v
on_grid f (fin t zero e) s y h v =
    (0, 0, pow_pos (prec f), zero_is y (down e) (down_pos e) (sym v.1 ∙ ap (λ (x : ℕ). x * 2 ^ low f) (zero-mul (up e)) ∙ zero-mul (2 ^ low f)))
on_grid f (fin t (suc m) e) s y h v =
    let A = eqb (suc m % 2) 1 in
    let B = ltb (suc m) (2 ^ prec f) in
    let C = leb (down e) (2 ^ low f) in
    let D = ltb (suc m * up e) (2 ^ suc (emax f) * down e) in
    place f (suc m) y e
    (ltb→lt (suc m) (2 ^ prec f) (and_r A B (and_l (A && B) C (and_l (A && B && C) D h))))
    (leb→le (down e) (2 ^ low f) (and_r (A && B) C (and_l (A && B && C) D h)))
    v.1

-- ---- between q * 2 ^ k and the next multiple of 2 ^ k the format has no value, where q has all its digits or k is 0
pub gap : (f : Format) (q k y : ℕ) → (0 < k → 2 ^ (prec f - 1) ≤ q) → OnGrid f y → (y ≤ q * 2 ^ k) ⊎ (suc q * 2 ^ k ≤ y)
gap f q k y lo g = elim (le_or_lt k g.1) [
  | inl h ↦
      let t = g.0 * 2 ^ (g.1 - k) in
      let e : y ≡ t * 2 ^ k = g.3 ∙ ap (λ (x : ℕ). g.0 * x) (ap (λ (x : ℕ). 2 ^ x) (sym (back g.1 k h)) ∙ pow-add 2 (g.1 - k) k) ∙ sym (mul_assoc g.0 (2 ^ (g.1 - k)) (2 ^ k)) in
      elim (le_or_lt t q) [ inl l ↦ inl (le_trans (le_of_eq e) (mul-le-mul_right (2 ^ k) l)) | inr l ↦ inr (le_trans (mul-le-mul_right (2 ^ k) l) (le_of_eq (sym e))) ]
  | inr h ↦
      inl (le_trans (le_of_eq g.3)
      (le_trans (mul-le-mul_right (2 ^ g.1) (le_of_lt g.2))
      (le_trans (le_of_eq (sym (pow-add 2 (prec f) g.1)))
      (le_trans (pow_mono (room (prec f) g.1 k (two f) h)) (le_trans (le_of_eq (pow-add 2 (prec f - 1) k)) (mul-le-mul_right (2 ^ k) (lo (some g.1 k h))))))))
]
  where
    room : (p j k : ℕ) → 2 ≤ p → j < k → p + j ≤ p - 1 + k
    room p j k a b = omega arith

    some : (j k : ℕ) → j < k → 0 < k
    some j k h = omega arith

-- ---- what `nearest` picks
abbrev pub Cmp : Ordering → ℕ → ℕ → Type 0
Cmp Ordering.lt a b = a < b
Cmp Ordering.eq a b = a ≡ b
Cmp Ordering.gt a b = b < a

pub cmp : (a b : ℕ) → Cmp (compare a b) a b
cmp a b = go (compare a b) (leb→le a b) (nleb→lt a b) (eqb→eq a b) (λ e. subst (λ (x : ℕ). T (eqb a x)) e (eqb_refl a))
  where
    go : (o : Ordering) → (T (is_le o) → a ≤ b) → (T (not (is_le o)) → b < a) → (T (compare_is_eq o) → a ≡ b) → (a ≡ b → T (compare_is_eq o)) → Cmp o a b
    go Ordering.lt h k e n = lt_of_le-ne (h tt) n
    go Ordering.eq h k e n = e tt
    go Ordering.gt h k e n = k tt

pub picks : (q : ℕ) (o : Ordering) (a b : ℕ) → Cmp o a b → ((nearest q o ≡ q) × (a ≤ b)) ⊎ ((nearest q o ≡ suc q) × (b ≤ a))
picks q Ordering.lt a b h = inl (refl, le_of_lt h)
picks q Ordering.eq a b h = elim (parity q) [ inl e ↦ inl (e, le_of_eq h) | inr e ↦ inr (e, le_of_eq (sym h)) ]
  where
    parity : (q : ℕ) → (q + q % 2 ≡ q) ⊎ (q + q % 2 ≡ suc q)
    parity q = elim (eq-zero-or-pos (q % 2)) [ inl z ↦ inl (omega arith) | inr z ↦ inr (omega arith) ]
picks q Ordering.gt a b h = inr (refl, le_of_lt h)

middle : (q u : ℕ) → (2 * q + 1) * u ≡ q * u + (q * u + u)
middle q u = ap (λ (x : ℕ). x * u) (twice q) ∙ add-mul q (suc q) u ∙ ap (λ (x : ℕ). q * u + x) (suc-mul q u)
  where
    twice : (q : ℕ) → 2 * q + 1 ≡ q + suc q
    twice q = omega arith

-- ---- a point p, by what is known of 2 * p: `Le h` that it is at most h, `GE h` that it is at least h
-- what a comparison of p with h / 2 rules out
abbrev pub Strict : (ℕ → Type 0) → (ℕ → Type 0) → Ordering → ℕ → Type 0
Strict Le GE Ordering.lt h = GE h → ⊥
Strict Le GE Ordering.eq h = Unit {0}
Strict Le GE Ordering.gt h = Le h → ⊥

module _ (Le GE : ℕ → Type 0) (more : (a b : ℕ) → a ≤ b → Le a → Le b) (less : (a b : ℕ) → a ≤ b → GE b → GE a) where
  pub closer : (q k r y : ℕ) → GE (2 * (q * 2 ^ k)) → Le (2 * (suc q * 2 ^ k)) → ((r ≡ q) × Le ((2 * q + 1) * 2 ^ k)) ⊎ ((r ≡ suc q) × GE ((2 * q + 1) * 2 ^ k)) → (y ≤ q * 2 ^ k) ⊎ (suc q * 2 ^ k ≤ y)
      → (r * 2 ^ k < y → Le (r * 2 ^ k + y)) × (y < r * 2 ^ k → GE (r * 2 ^ k + y))
  closer q k r y lo hi way g =
      let u = 2 ^ k in
      let n : suc q * u ≡ q * u + u = suc-mul q u in
      let m = middle q u in
      elim way [
        | inl a ↦
            let e : r * u ≡ q * u = ap (λ (x : ℕ). x * u) a.0 in (
              (λ h. elim g [
                | inl b ↦ absurd (clash y (r * u) (q * u) h e b)
                | inr b ↦ more ((2 * q + 1) * u) (r * u + y) (omega arith) a.1
              ]),
              (λ h. less (r * u + y) (2 * (q * u)) (omega arith) lo),
            )
        | inr a ↦
            let e : r * u ≡ suc q * u = ap (λ (x : ℕ). x * u) a.0 in (
              (λ h. more (2 * (suc q * u)) (r * u + y) (omega arith) hi),
              (λ h. elim g [
                | inl b ↦ less (r * u + y) ((2 * q + 1) * u) (omega arith) a.1
                | inr b ↦ absurd (clash' y (r * u) (suc q * u) h e b)
              ]),
            )
      ]
    where
      clash : (y r q : ℕ) → r < y → r ≡ q → y ≤ q → ⊥
      clash y r q a b c = omega arith

      clash' : (y r q : ℕ) → y < r → r ≡ q → q ≤ y → ⊥
      clash' y r q a b c = omega arith

  -- where y is another number and as near, the comparison was a tie: so the kept number is even
  pub tie_even : ((a b : ℕ) → a < b → Le a → GE b → ⊥) → (q k y : ℕ) (o : Ordering) → GE (2 * (q * 2 ^ k)) → Le (2 * (suc q * 2 ^ k)) → Strict Le GE o ((2 * q + 1) * 2 ^ k) → (y ≤ q * 2 ^ k) ⊎ (suc q * 2 ^ k ≤ y)
      → (nearest q o * 2 ^ k ≡ y → ⊥) → Le (nearest q o * 2 ^ k + y) → GE (nearest q o * 2 ^ k + y) → nearest q o % 2 ≡ 0
  tie_even clash q k y Ordering.eq lo hi st g ne le ge = omega arith
  tie_even clash q k y Ordering.lt lo hi st g ne le ge =
      let u = 2 ^ k in
      let m = middle q u in
      elim g [
        | inl b ↦ let l : y < q * u = lt_of_le-ne b (λ e. ne (sym e)) in absurd (clash (q * u + y) (2 * (q * u)) (omega arith) le lo)
        | inr b ↦ absurd (st (less ((2 * q + 1) * u) (q * u + y) (let n : suc q * u ≡ q * u + u = suc-mul q u in omega arith) ge))
      ]
  tie_even clash q k y Ordering.gt lo hi st g ne le ge =
      let u = 2 ^ k in
      let m = middle q u in
      elim g [
        | inl b ↦ absurd (st (more (suc q * u + y) ((2 * q + 1) * u) (let n : suc q * u ≡ q * u + u = suc-mul q u in omega arith) le))
        | inr b ↦ let l : suc q * u < y = lt_of_le-ne b ne in absurd (clash (2 * (suc q * u)) (suc q * u + y) (omega arith) hi ge)
      ]

-- ---- the number of smallest values in a finite result
pub same_value : (v : Float) (s t : Bool) (a b c : ℕ) → 0 < c → HasValue v s a c → HasValue v t b c → a ≡ b
same_value nan s t a b c p x y = absurd x
same_value (inf u) s t a b c p x y = absurd x
same_value (fin u m e) s t a b c p x y = eq_of_mul-eq-mul_right (down e) (down_pos e) a b (sym x.1 ∙ y.1)

pub units_size : (f : Format) (s t : Bool) (q k r : ℕ) → HasValue (units f s q k) t r (2 ^ low f) → r ≡ q * 2 ^ k
unfolding units
units_size f s t q k r = go (ltb (q * 2 ^ k) (2 ^ (low f + suc (emax f))))
  where
    go : (b : Bool) → HasValue (cond b (odd (suc (prec f)) s q k (low f)) (inf s)) t r (2 ^ low f) → r ≡ q * 2 ^ k
    go true v = same_value (odd (suc (prec f)) s q k (low f)) t s r (q * 2 ^ k) (2 ^ low f) (pow_pos (low f)) v (odd_sign (suc (prec f)) s q k (low f))
    go false v = absurd v

-- the first kept digit is one of the number's
pub inside : (z p : ℕ) → 2 ≤ p → 0 < z - p → p - 1 + (z - p) < z
inside z p a b = omega arith

-- the kept digits: all prec of them where any is dropped
pub leading : (p w : ℕ) → 2 ≤ p → 0 < size w - p → 2 ^ (p - 1) ≤ w / 2 ^ (size w - p)
leading p w h k =
    (le-div_iff_mul-le (pow_pos (size w - p))).1 (le_trans (le_of_eq (sym (pow-add 2 (p - 1) (size w - p)))) (size_reaches w (p - 1 + (size w - p)) (inside (size w) p h k)))

-- ---- a finite result's sign, and its last digit
pub units_signed : (f : Format) (s : Bool) (q k : ℕ) → sign_bit (units f s q k) ≡ s
unfolding units sign_bit
units_signed f s q k = go (ltb (q * 2 ^ k) (2 ^ (low f + suc (emax f))))
  where
    go : (b : Bool) → sign_bit (cond b (odd (suc (prec f)) s q k (low f)) (inf s)) ≡ s
    go true = odd_signed (suc (prec f)) s q k (low f)
    go false = refl

pub units_even : (f : Format) (s : Bool) (q k : ℕ) → q ≤ 2 ^ prec f → (0 < k → hid f ≤ q) → q % 2 ≡ 0 → to_bits f (units f s q k) % 2 ≡ 0
units_even f s q k hi lo e = elim (le_or_lt (2 * emax f) k) [
  | inl g ↦ ap (λ (v : Float). to_bits f v % 2) (too_large f s q k (lo (some f k g)) g) ∙ infinite f s
  | inr g ↦ ap (λ (x : ℕ). x % 2) (to_bits_units f s q k hi lo g) ∙ sum f s k q e
]
  where
    some : (f : Format) (k : ℕ) → 2 * emax f ≤ k → 0 < k
    some binary32 k h = omega arith
    some binary64 k h = omega arith

    infinite : (f : Format) (s : Bool) → to_bits f (inf s) % 2 ≡ 0
    infinite binary32 true = unfold to_bits in refl
    infinite binary32 false = unfold to_bits in refl
    infinite binary64 true = unfold to_bits in refl
    infinite binary64 false = unfold to_bits in refl

    sum : (f : Format) (s : Bool) (k q : ℕ) → q % 2 ≡ 0 → (cond s (top f) 0 + (k * hid f + q)) % 2 ≡ 0
    sum binary32 true k q e = omega arith
    sum binary32 false k q e = omega arith
    sum binary64 true k q e = omega arith
    sum binary64 false k q e = omega arith
