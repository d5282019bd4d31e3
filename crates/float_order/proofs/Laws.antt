-- Laws of `units`, `closest` and `round` at either format. Assumes nothing.
use mathlib.Core.Path.{◌≡◌, refl, sym, ap, ◌∙◌, subst}
use mathlib.Core.Logic.{inl, inr}
use Prim.Native.Nat.{ℕ, zero, suc, ◌+◌, ◌-◌, ◌*◌, ◌/◌, ◌%◌, ◌^◌, ◌≤◌, ◌<◌, compare, Ordering}
use native.Mathlib.Nat.{le_antisymm, le_trans, le_of_eq, le_of_lt, lt_of_lt_of_le, lt_of_le_of_lt, lt_irrefl, eq-or-lt_of_le, eq-zero-or-pos, le_of_suc-le-suc, lt_of_not-le, mul-one, one-mul, mul_comm, mul_assoc, mul_left_comm, mul-pos, mul-div_cancel, mul-le-mul_right, mul-lt-mul_of_pos_right, lt_of_mul-lt-mul_right, le_of_mul-le-mul_right, le-div_iff_mul-le, div-lt_iff_lt-mul, pow-succ', suc-mul, add_assoc, not-le_of_lt, zero-mul, zero-add, add-zero, add-mul, mod-lt, div-add-mod'}
use native.Mathlib.Numerals.{add-one}
use native.Mathlib.Omega.{arith}
use mathlib.Core.Bool.{Bool, true, false, not, cond}
use lib.IntN.{ℤ, pos}
use lib.Dec.{T, is_le, compare_is_eq, ltb, eqb, leb→le, nleb→lt, ltb→lt, nltb→le, eqb→eq, eqb_refl}
use lib.Arith.{digits_div, digits_mod}
use lib.Pow.{pow-add, pow_pos, pow_mono, pow-lt, shl_lt}
use lib.Count.{count_trailing_zeros, count_leading_zeros, leading_length}
use lib.Ieee.{Float, inf, fin, Format, prec, emax, low, down, minus, size, nearest, odd, units, round, fits, is_nan, hid, ones, top, of_bits, nan_bits, to_bits}
use lib.Ieee.Digits.{Equals, odd_val, size-lt, size-le}
use lib.Ieee.Fits.{two, two-le_pos, odd-fits, inf-fits, round_is, down_pos, nearest-le}
use lib.Ieee.Bits.{of_bits-to_bits, nan_bits_is}
use lib.Ieee.Nearest.{closest, closest_same, nearest-ge}

-- ---- powers of two
pub double : (sh : ℕ) → 0 < sh → 2 ^ sh ≡ 2 * 2 ^ (sh - 1)
double sh h = ap (λ (x : ℕ). 2 ^ x) (pred_of sh h) ∙ pow-succ' 2 (sh - 1)
  where
    pred_of : (p : ℕ) → 0 < p → p ≡ suc (p - 1)
    pred_of p h = omega arith

pub pow_back : (i j : ℕ) → 2 ^ i ≤ 2 ^ j → i ≤ j
pow_back i j h = le_of_suc-le-suc (lt_of_not-le (λ (g : suc j ≤ i). lt_irrefl (2 ^ j) (lt_of_lt_of_le (pow-lt g) h)))

-- ---- what `compare` says
pub is_lt : (a b : ℕ) → a < b → compare a b ≡ Ordering.lt
is_lt a b h = go (compare a b) (leb→le a b) (nleb→lt a b) (eqb→eq a b)
  where
    go : (o : Ordering) → (T (is_le o) → a ≤ b) → (T (not (is_le o)) → b < a) → (T (compare_is_eq o) → a ≡ b) → o ≡ Ordering.lt
    go Ordering.lt x y z = refl
    go Ordering.eq x y z = absurd (lt_irrefl b (subst (λ (n : ℕ). n < b) (z tt) h))
    go Ordering.gt x y z = absurd (not-le_of_lt h (le_of_lt (y tt)))

pub is_gt : (a b : ℕ) → b < a → compare a b ≡ Ordering.gt
is_gt a b h = go (compare a b) (leb→le a b)
  where
    go : (o : Ordering) → (T (is_le o) → a ≤ b) → o ≡ Ordering.gt
    go Ordering.lt x = absurd (not-le_of_lt h (x tt))
    go Ordering.eq x = absurd (not-le_of_lt h (x tt))
    go Ordering.gt x = refl

pub is_eq : (a b : ℕ) → a ≡ b → compare a b ≡ Ordering.eq
is_eq a b h = go (compare a b) (subst (λ (n : ℕ). T (eqb a n)) h (eqb_refl a))
  where
    go : (o : Ordering) → T (compare_is_eq o) → o ≡ Ordering.eq
    go Ordering.lt x = absurd x
    go Ordering.eq x = refl
    go Ordering.gt x = absurd x

-- ---- how many digits a number has
pub size_gt : (n j : ℕ) → 2 ^ j ≤ n → j < size n
size_gt n j h = lt_of_not-le (λ (g : size n ≤ j). not-le_of_lt (lt_of_lt_of_le (size-lt n) (pow_mono g)) h)

pub size_exact : (a n : ℕ) → 2 ^ a ≤ n → n < 2 ^ suc a → size n ≡ suc a
size_exact a n lo hi = le_antisymm (size-le n (suc a) hi) (size_gt n a lo)

-- ---- `round`, where the number k of dropped digits is known, and the fraction in units of 2 ^ k smallest values is a / b
few : (z p : ℕ) → z ≤ p → z - p ≡ 0
few z p h = omega arith

over : (z p k : ℕ) → 2 ≤ p → z ≡ suc (p - 1 + k) → z - p ≡ k
over z p k h e = omega arith

one_more : (p k : ℕ) → 2 ≤ p → p + k ≡ suc (p - 1 + k)
one_more p k h = omega arith

-- w is the whole part of the fraction in smallest values
pub drop_is : (f : Format) (w k : ℕ) → w < 2 ^ (prec f + k) → (0 < k → 2 ^ (prec f - 1 + k) ≤ w) → size w - prec f ≡ k
drop_is f w k hi lo = elim (eq-zero-or-pos k) [
  | inl z ↦ few (size w) (prec f) (size-le w (prec f) (subst (λ (x : ℕ). w < 2 ^ x) (ap (λ (x : ℕ). prec f + x) z ∙ omega arith) hi)) ∙ sym z
  | inr p ↦ over (size w) (prec f) k (two f) (size_exact (prec f - 1 + k) w (lo p) (subst (λ (x : ℕ). w < 2 ^ x) (one_more (prec f) k (two f)) hi))
]

pub round_at : (f : Format) (s : Bool) (num den k a b : ℕ) → 0 < den → 0 < b → num * 2 ^ low f * b ≡ a * (den * 2 ^ k) → a < 2 ^ prec f * b → (0 < k → 2 ^ (prec f - 1) * b ≤ a)
    → round f s num den ≡ units f s (closest a b) k
round_at f s num den k a b D B e hi lo =
    let n = num * 2 ^ low f in
    let P = pow_pos k in
    -- n < 2 ^ (prec + k) * den
    let hi' : n < 2 ^ (prec f + k) * den =
    lt_of_mul-lt-mul_right b
    (subst (λ (x : ℕ). x < 2 ^ (prec f + k) * den * b) (sym e)
    (lt_of_lt_of_le (mul-lt-mul_of_pos_right hi (mul-pos D P)) (le_of_eq (simp (mul_assoc, mul_comm, mul_left_comm, pow-add))))) in
    let lo' : 0 < k → 2 ^ (prec f - 1 + k) * den ≤ n = λ z.
    le_of_mul-le-mul_right
    (subst (λ (x : ℕ). 2 ^ (prec f - 1 + k) * den * b ≤ x) (sym e)
    (le_trans (le_of_eq (simp (mul_assoc, mul_comm, mul_left_comm, pow-add))) (mul-le-mul_right (den * 2 ^ k) (lo z))))
    B in
    let d : size (n / den) - prec f ≡ k = drop_is f (n / den) k ((div-lt_iff_lt-mul D).1 hi') (λ z. (le-div_iff_mul-le D).1 (lo' z)) in
    round_is f s num den
    ∙ ap (λ (z : ℕ). units f s (closest n (den * 2 ^ z)) z) d
    ∙ ap (λ (z : ℕ). units f s z k) (closest_same n (den * 2 ^ k) a b (mul-pos D P) B e)

-- ---- `closest`, by a quotient and a remainder
pub closest_by : (q b r : ℕ) → r < b → closest (q * b + r) b ≡ nearest q (compare (r * 2) b)
closest_by q b r h =
    ap (λ (x : ℕ). nearest x (compare ((q * b + r) % b * 2) b)) (digits_div q h) ∙ ap (λ (x : ℕ). nearest q (compare (x * 2) b)) (digits_mod q h)

-- ---- the bit pattern of q * 2 ^ k smallest values
to_bits_of_value : (f : Format) (s : Bool) (m : ℕ) (e : ℤ) (a : ℕ) → Equals (fin s m e) a (2 ^ low f) → to_bits f (fin s m e) ≡ cond s (top f) 0 + (size a - prec f) * hid f + a / 2 ^ (size a - prec f)
unfolding to_bits
to_bits_of_value f s m e a h =
    ap (λ (x : ℕ). cond s (top f) 0 + (size x - prec f) * hid f + x / 2 ^ (size x - prec f)) (ap (λ (x : ℕ). x / down e) h ∙ mul-div_cancel a (down_pos e))

to_bits_odd : (f : Format) (d : ℕ) (s : Bool) (q k : ℕ) → to_bits f (odd d s q k (low f)) ≡ cond s (top f) 0 + (size (q * 2 ^ k) - prec f) * hid f + q * 2 ^ k / 2 ^ (size (q * 2 ^ k) - prec f)
unfolding odd
to_bits_odd f d s zero k = to_bits_of_value f s 0 (pos 0) (0 * 2 ^ k) (odd_val d s zero k (low f))
to_bits_odd f d s (suc q) k =
    to_bits_of_value f s (suc q / 2 ^ count_trailing_zeros d (suc q)) (minus (k + count_trailing_zeros d (suc q)) (low f)) (suc q * 2 ^ k) (odd_val d s (suc q) k (low f))

-- the number in the two lower fields
field_of : (f : Format) (q k : ℕ) → q ≤ 2 ^ prec f → (0 < k → hid f ≤ q) → (size (q * 2 ^ k) - prec f) * hid f + q * 2 ^ k / 2 ^ (size (q * 2 ^ k) - prec f) ≡ k * hid f + q
field_of f q k hi lo = elim (eq-or-lt_of_le hi) [
  | inl e ↦
      let p = prec f in
      let d : size (q * 2 ^ k) - p ≡ suc k =
      ap (λ (x : ℕ). size x - p) (ap (λ (x : ℕ). x * 2 ^ k) e ∙ sym (pow-add 2 p k)) ∙ ap (λ (x : ℕ). x - p) (size_exact (p + k) (2 ^ (p + k)) (le_of_eq refl) (pow-lt (step (p + k)))) ∙ past p k in
      let t : 2 ^ p ≡ 2 * hid f = double p (two-le_pos p (two f)) in
      let v : q * 2 ^ k ≡ hid f * 2 ^ suc k = ap (λ (x : ℕ). x * 2 ^ k) (e ∙ t) ∙ simp (mul_assoc, mul_left_comm, pow-succ') in
      ap (λ (z : ℕ). z * hid f + q * 2 ^ k / 2 ^ z) d
      ∙ ap (λ (z : ℕ). suc k * hid f + z) (ap (λ (z : ℕ). z / 2 ^ suc k) v ∙ mul-div_cancel (hid f) (pow_pos (suc k)))
      ∙ ap (λ (z : ℕ). z + hid f) (suc-mul k (hid f))
      ∙ carried (k * hid f) (hid f) q (e ∙ t)
  | inr l ↦
      let d : size (q * 2 ^ k) - prec f ≡ k =
      drop_is f (q * 2 ^ k) k (shl_lt (prec f) k l) (λ z. le_trans (le_of_eq (pow-add 2 (prec f - 1) k)) (mul-le-mul_right (2 ^ k) (lo z))) in
      ap (λ (z : ℕ). z * hid f + q * 2 ^ k / 2 ^ z) d ∙ ap (λ (z : ℕ). k * hid f + z) (mul-div_cancel q (pow_pos k))
]
  where
    step : (x : ℕ) → x < suc x
    step x = omega arith

    past : (p k : ℕ) → suc (p + k) - p ≡ suc k
    past p k = omega arith

    carried : (a h q : ℕ) → q ≡ 2 * h → a + h + h ≡ a + q
    carried a h q e = omega arith

-- past the largest value the pattern is the infinity's, as long as k is below twice emax
at_top : (f : Format) (q k : ℕ) → q ≤ 2 ^ prec f → k < 2 * emax f → 2 ^ (low f + suc (emax f)) ≤ q * 2 ^ k → k * hid f + q ≡ ones f * hid f
at_top f q k hi kt big =
    let a : 2 ^ (low f + suc (emax f)) ≤ 2 ^ (prec f + k) = le_trans big (le_trans (mul-le-mul_right (2 ^ k) hi) (le_of_eq (sym (pow-add 2 (prec f) k)))) in
    let b : low f + suc (emax f) ≤ prec f + k = pow_back (low f + suc (emax f)) (prec f + k) a in
    let c : suc k ≡ 2 * emax f = last (prec f) (emax f) k (two f) kt b in
    let g : 2 ^ prec f * 2 ^ k ≤ q * 2 ^ k = le_trans (le_of_eq (sym (pow-add 2 (prec f) k) ∙ ap (λ (x : ℕ). 2 ^ x) (sym (same (prec f) (emax f) k (two f) c)))) big in
    let h : q ≡ 2 ^ prec f = le_antisymm hi (le_of_mul-le-mul_right g (pow_pos k)) in
    ends k (hid f) q (emax f) c (h ∙ double (prec f) (two-le_pos (prec f) (two f)))
  where
    last : (p e k : ℕ) → 2 ≤ p → k < 2 * e → e + p - 2 + suc e ≤ p + k → suc k ≡ 2 * e
    last p e k a b c = omega arith

    same : (p e k : ℕ) → 2 ≤ p → suc k ≡ 2 * e → e + p - 2 + suc e ≡ p + k
    same p e k a b = omega arith

    ends : (k h q e : ℕ) → suc k ≡ 2 * e → q ≡ 2 * h → k * h + q ≡ (2 * e + 1) * h
    ends k h q e c d =
        let x : suc (suc k) * h ≡ (2 * e + 1) * h = ap (λ (z : ℕ). z * h) (up_one k e c) in
        let y : suc (suc k) * h ≡ k * h + h + h = suc-mul (suc k) h ∙ ap (λ (z : ℕ). z + h) (suc-mul k h) in
        omega arith
      where
        up_one : (k e : ℕ) → suc k ≡ 2 * e → suc (suc k) ≡ 2 * e + 1
        up_one k e c = omega arith

pub to_bits_units : (f : Format) (s : Bool) (q k : ℕ) → q ≤ 2 ^ prec f → (0 < k → hid f ≤ q) → k < 2 * emax f → to_bits f (units f s q k) ≡ cond s (top f) 0 + (k * hid f + q)
unfolding units
to_bits_units f s q k hi lo kt = go (ltb (q * 2 ^ k) (2 ^ (low f + suc (emax f)))) (nltb→le (q * 2 ^ k) (2 ^ (low f + suc (emax f))))
  where
    infinity : to_bits f (inf s) ≡ cond s (top f) 0 + ones f * hid f
    infinity = unfold to_bits in refl

    go : (b : Bool) → (T (not b) → 2 ^ (low f + suc (emax f)) ≤ q * 2 ^ k) → to_bits f (cond b (odd (suc (prec f)) s q k (low f)) (inf s)) ≡ cond s (top f) 0 + (k * hid f + q)
    go true h =
        to_bits_odd f (suc (prec f)) s q k
        ∙ add_assoc (cond s (top f) 0) ((size (q * 2 ^ k) - prec f) * hid f) (q * 2 ^ k / 2 ^ (size (q * 2 ^ k) - prec f))
        ∙ ap (λ (x : ℕ). cond s (top f) 0 + x) (field_of f q k hi lo)
    go false h = infinity ∙ ap (λ (x : ℕ). cond s (top f) 0 + x) (sym (at_top f q k hi kt (h tt)))

pub units_fits : (f : Format) (s : Bool) (q k : ℕ) → q ≤ 2 ^ prec f → T (fits f (units f s q k))
unfolding units
units_fits f s q k a = go (ltb (q * 2 ^ k) (2 ^ (low f + suc (emax f)))) (ltb→lt (q * 2 ^ k) (2 ^ (low f + suc (emax f))))
  where
    go : (b : Bool) → (T b → q * 2 ^ k < 2 ^ (low f + suc (emax f))) → T (fits f (cond b (odd (suc (prec f)) s q k (low f)) (inf s)))
    go true h = odd-fits f (suc (prec f)) s q k (lt_of_le_of_lt a (pow-lt (step (prec f)))) a (h tt)
      where
        step : (x : ℕ) → x < suc x
        step x = omega arith
    go false h = inf-fits f s

units_no_nan : (f : Format) (s : Bool) (q k : ℕ) → is_nan (units f s q k) ≡ false
unfolding units is_nan
units_no_nan f s q k = go (ltb (q * 2 ^ k) (2 ^ (low f + suc (emax f))))
  where
    plain : (d : ℕ) (q : ℕ) → is_nan (odd d s q k (low f)) ≡ false
    plain d zero = unfold odd in refl
    plain d (suc q) = unfold odd in refl

    go : (b : Bool) → is_nan (cond b (odd (suc (prec f)) s q k (low f)) (inf s)) ≡ false
    go true = plain (suc (prec f)) q
    go false = refl

-- the value that the pattern stands for, and that the pattern is no NaN's
pub of_pattern : (f : Format) (s : Bool) (q k : ℕ) → q ≤ 2 ^ prec f → (0 < k → hid f ≤ q) → k < 2 * emax f → of_bits f (cond s (top f) 0 + (k * hid f + q)) ≡ units f s q k
of_pattern f s q k hi lo kt = ap (of_bits f) (sym (to_bits_units f s q k hi lo kt)) ∙ of_bits-to_bits f (units f s q k) (units_fits f s q k hi)

pub pattern_no_nan : (f : Format) (s : Bool) (q k : ℕ) → q ≤ 2 ^ prec f → (0 < k → hid f ≤ q) → k < 2 * emax f → T (not (nan_bits f (cond s (top f) 0 + (k * hid f + q))))
pattern_no_nan f s q k hi lo kt =
    subst (λ (b : Bool). T (not b)) (sym (nan_bits_is f (cond s (top f) 0 + (k * hid f + q)) ∙ ap is_nan (of_pattern f s q k hi lo kt) ∙ units_no_nan f s q k)) tt

-- from twice emax on q * 2 ^ k smallest values, for a q with its leading digit, are too many
pub too_large : (f : Format) (s : Bool) (q k : ℕ) → hid f ≤ q → 2 * emax f ≤ k → units f s q k ≡ inf s
unfolding units
too_large f s q k lo kt = go (ltb (q * 2 ^ k) (2 ^ (low f + suc (emax f)))) (ltb→lt (q * 2 ^ k) (2 ^ (low f + suc (emax f))))
  where
    room : (p e k : ℕ) → 2 ≤ p → 2 * e ≤ k → e + p - 2 + suc e ≤ p - 1 + k
    room p e k a b = omega arith

    go : (b : Bool) → (T b → q * 2 ^ k < 2 ^ (low f + suc (emax f))) → cond b (odd (suc (prec f)) s q k (low f)) (inf s) ≡ inf s
    go true h = absurd (not-le_of_lt (h tt) (le_trans (pow_mono (room (prec f) (emax f) k (two f) kt)) (le_trans (le_of_eq (pow-add 2 (prec f - 1) k)) (mul-le-mul_right (2 ^ k) lo))))
    go false h = refl

-- a sign that a test found
pub at_sign : (f : Format) (s t : Bool) (q k : ℕ) (x : Float) → t ≡ s → x ≡ units f s q k → x ≡ units f t q k
at_sign f s t q k x e h = h ∙ ap (λ (b : Bool). units f b q k) (sym e)

-- ---- m / (2 * h) to the nearest whole number, from m / h and m % h
halves : (m h e : ℕ) → m / h % 2 ≡ e → m ≡ m / h / 2 * (2 * h) + (e * h + m % h)
halves m h e o =
    let a : m / h * h + m % h ≡ m = div-add-mod' m h in
    let b : m / h ≡ m / h / 2 * 2 + e = omega arith in
    let c : m / h * h ≡ m / h / 2 * (2 * h) + e * h = ap (λ (x : ℕ). x * h) b ∙ add-mul (m / h / 2 * 2) e h ∙ ap (λ (x : ℕ). x + e * h) (mul_assoc (m / h / 2) 2 h) in
    omega arith

pub round_down : (m h : ℕ) → 0 < h → m / h % 2 ≡ 0 → m / h / 2 ≡ closest m (2 * h)
round_down m h H o =
    let r : m % h < h = mod-lt m H in
    let e : m ≡ m / h / 2 * (2 * h) + m % h = halves m h 0 o ∙ ap (λ (x : ℕ). m / h / 2 * (2 * h) + (x + m % h)) (zero-mul h) ∙ ap (λ (x : ℕ). m / h / 2 * (2 * h) + x) (zero-add (m % h)) in
    sym (ap (λ (x : ℕ). closest x (2 * h)) e ∙ closest_by (m / h / 2) (2 * h) (m % h) (omega arith) ∙ ap (nearest (m / h / 2)) (is_lt (m % h * 2) (2 * h) (omega arith)))

pub round_up : (m h : ℕ) → 0 < h → m / h % 2 ≡ 1 → 0 < m % h → m / h / 2 + 1 ≡ closest m (2 * h)
round_up m h H o p =
    let r : m % h < h = mod-lt m H in
    let e : m ≡ m / h / 2 * (2 * h) + (h + m % h) = halves m h 1 o ∙ ap (λ (x : ℕ). m / h / 2 * (2 * h) + (x + m % h)) (one-mul h) in
    add-one (m / h / 2)
    ∙ sym (ap (λ (x : ℕ). closest x (2 * h)) e ∙ closest_by (m / h / 2) (2 * h) (h + m % h) (omega arith) ∙ ap (nearest (m / h / 2)) (is_gt ((h + m % h) * 2) (2 * h) (omega arith)))

pub round_tie : (m h : ℕ) → 0 < h → m / h % 2 ≡ 1 → m % h ≡ 0 → m / h / 2 + m / h / 2 % 2 ≡ closest m (2 * h)
round_tie m h H o p =
    let e : m ≡ m / h / 2 * (2 * h) + (h + m % h) = halves m h 1 o ∙ ap (λ (x : ℕ). m / h / 2 * (2 * h) + (x + m % h)) (one-mul h) in
    sym (ap (λ (x : ℕ). closest x (2 * h)) e ∙ closest_by (m / h / 2) (2 * h) (h + m % h) (omega arith) ∙ ap (nearest (m / h / 2)) (is_eq ((h + m % h) * 2) (2 * h) (omega arith)))

-- nothing is left of a number below half of the divisor
pub none_left : (m b : ℕ) → m * 2 < b → 0 ≡ closest m b
none_left m b h =
    sym (ap (λ (x : ℕ). closest x b) (sym (ap (λ (x : ℕ). x + m) (zero-mul b) ∙ zero-add m)) ∙ closest_by 0 b m (omega arith) ∙ ap (nearest 0) (is_lt (m * 2) b h))

pub whole_left : (m : ℕ) → m ≡ closest m 1
whole_left m = sym (ap (λ (x : ℕ). closest x 1) (sym (add-zero (m * 1) ∙ mul-one m)) ∙ closest_by m 1 0 (omega arith) ∙ ap (nearest m) (is_lt 0 1 (omega arith)))

-- ---- bounds on `closest`
pub closest_le : (a b P : ℕ) → 0 < b → a < P * b → closest a b ≤ P
closest_le a b P B h = le_trans (nearest-le (a / b) (compare (a % b * 2) b)) ((div-lt_iff_lt-mul B).1 h)

pub closest_ge : (a b P : ℕ) → 0 < b → P * b ≤ a → P ≤ closest a b
closest_ge a b P B h = le_trans ((le-div_iff_mul-le B).1 h) (nearest-ge (a / b) (compare (a % b * 2) b))

-- ---- m * 2 ^ j / 2 ^ l, rounded by a shift
pub round_shifted : (f : Format) (s : Bool) (m j l sh k : ℕ) → j + low f + sh ≡ l + k → m < 2 ^ prec f * 2 ^ sh → (0 < k → 2 ^ (prec f - 1) * 2 ^ sh ≤ m)
    → round f s (m * 2 ^ j) (2 ^ l) ≡ units f s (closest m (2 ^ sh)) k
round_shifted f s m j l sh k e hi lo =
    round_at f s (m * 2 ^ j) (2 ^ l) k m (2 ^ sh) (pow_pos l) (pow_pos sh)
    (ap (λ (x : ℕ). x * 2 ^ sh) (mul_assoc m (2 ^ j) (2 ^ low f) ∙ ap (λ (x : ℕ). m * x) (sym (pow-add 2 j (low f))))
    ∙ mul_assoc m (2 ^ (j + low f)) (2 ^ sh)
    ∙ ap (λ (x : ℕ). m * x) (sym (pow-add 2 (j + low f) sh) ∙ ap (λ (x : ℕ). 2 ^ x) e ∙ pow-add 2 l k))
    hi lo

-- ---- a number's length, as the code has it
pub long : (m z i : ℕ) → 2 ^ i ≤ m → m < 2 ^ z → i < z
long m z i a b = lt_of_not-le (λ (g : z ≤ i). not-le_of_lt (lt_of_lt_of_le b (pow_mono g)) a)

abbrev pub Length : ℕ → ℕ → Type 0
Length m z = (m < 2 ^ z) × (0 < z → 2 ^ (z - 1) ≤ m) × (z ≤ 64)

pub length_of_lem : (m : ℕ) → m < 2 ^ 64 → Length m (64 - count_leading_zeros 64 m)
length_of_lem m h =
    let s = leading_length 64 m h in
    let e : s.0 ≡ 64 - count_leading_zeros 64 m = part (count_leading_zeros 64 m) s.0 s.1 in
    subst (λ (z : ℕ). Length m z) e (s.2, (λ p. half m (2 ^ (s.0 - 1)) (subst (λ (x : ℕ). x ≤ 2 * m + 1) (double s.0 p) s.3)), rest (count_leading_zeros 64 m) s.0 s.1)
  where
    part : (l z : ℕ) → l + z ≡ 64 → z ≡ 64 - l
    part l z e = omega arith

    rest : (l z : ℕ) → l + z ≡ 64 → z ≤ 64
    rest l z e = omega arith

    half : (m p : ℕ) → 2 * p ≤ 2 * m + 1 → p ≤ m
    half m p h = omega arith
