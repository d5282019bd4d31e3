-- The remainder of two values by the numbers of smallest values in them, which their bit patterns give. Assumes nothing.
use mathlib.Core.Path.{◌≡◌, refl, sym, ap, ◌∙◌, subst}
use Prim.Native.Nat.{ℕ, zero, suc, ◌+◌, ◌-◌, ◌*◌, ◌/◌, ◌%◌, ◌^◌, ◌≤◌, ◌<◌}
use native.Mathlib.Nat.{lt_of_lt_of_le, le_trans, le_of_eq, le_of_lt, mul-le-mul_right, le-add_right, zero-add, add-mod_left, div-eq_of_lt, mod-eq-sub-mod, lt_irrefl, zero-lt-suc, zero-mul, mul_assoc, mul_comm, mul_right_comm, mul-pos, div-add-mod', mod-lt, mod-mod_of_dvd, dvd-mul_right, mod-eq_of_lt, mul-one}
use native.Mathlib.Omega.{arith}
use mathlib.Core.Bool.{Bool, true, false, not, cond}
use lib.Dec.{T, leb, ltb, eqb, ltb→lt, nltb→le, leb→le, nleb→lt, le→leb}
use lib.Arith.{lt→nleb, le→nltb}
use lib.Pow.{pow_pos}
use lib.Ieee.{Float, nan, inf, fin, Format, prec, low, up, down, unlike, neg, add, div, round, rem, fits, is_nan, nan_bits, hid, ones, top, of_bits, to_bits}
use lib.Ieee.Bits.{is_true, is_false, to_bits-lt, of_bits-fits, to_bits-of_bits, nan_bits_is, nan_bits_above}
use lib.Ieee.Fits.{up_pos, down_pos}
use lib.Ieee.Scale.{round_same}
use lib.Ieee.Exact.{HasValue}
use borrow.Author.Tests.{ne_eqb, eq-eqb}
use Rattle.float_remainder.specs.Patterns.{units_of}
use Rattle.float_remainder.proofs.Laws.{scaled}
use Rattle.float_order.proofs.Order.{is_nan-is}
use Rattle.float_order.proofs.Read.{value_low, value_mid}
use Rattle.float_order.proofs.Rounded.{round_own}

-- ---- a value of so many smallest values is that number, rounded
pub own_round : (f : Format) (x : Float) (s : Bool) (A : ℕ) → T (fits f x) → HasValue x s A (2 ^ low f) → round f s A (2 ^ low f) ≡ x
own_round f nan s A h v = absurd v
own_round f (inf t) s A h v = absurd v
own_round f (fin t m e) s A h v =
    ap (λ (b : Bool). round f b A (2 ^ low f)) (sym v.0)
    ∙ round_same f t A (2 ^ low f) (m * up e) (down e) (pow_pos (low f)) (down_pos e) (sym v.1)
    ∙ round_own f t m e h

-- ---- the remainder, by numbers of smallest values
nonzero : (n a b c : ℕ) → 0 < b → 0 < c → n * a ≡ b * c → n ≡ 0 → ⊥
nonzero n a b c p q h z = lt_irrefl 0 (subst (λ (x : ℕ). 0 < x) (sym h ∙ ap (λ (x : ℕ). x * a) z ∙ zero-mul a) (mul-pos p q))

positive : (n : ℕ) → (n ≡ 0 → ⊥) → 0 < n
positive n h = omega arith

pub rem_units : (f : Format) (x y : Float) (s t : Bool) (A B : ℕ) → 0 < B → HasValue x s A (2 ^ low f) → HasValue y t B (2 ^ low f) → rem f x y ≡ round f s (A % B) (2 ^ low f)
unfolding rem
rem_units f nan y s t A B p v w = absurd v
rem_units f (inf u) y s t A B p v w = absurd v
rem_units f (fin u m e) nan s t A B p v w = absurd w
rem_units f (fin u m e) (inf r) s t A B p v w = absurd w
rem_units f (fin u m e) (fin r n d) s t A B p v w =
    let L : ℕ = 2 ^ low f in
    let K : ℕ = down e * down d in
    let N : ℕ = m * up e * down d % (n * up d * down e) in
    let z : n ≡ 0 → ⊥ = nonzero n (up d * L) B (down d) p (down_pos d) (sym (mul_assoc n (up d) L) ∙ w.1) in
    let k : N * L ≡ A % B * K =
    sym (scaled (m * up e * down d) (n * up d * down e) L (mul-pos (mul-pos (positive n z) (up_pos d)) (down_pos e)) (pow_pos (low f)))
    ∙ ap (λ (x : ℕ). x % (n * up d * down e * L)) (mul_right_comm (m * up e) (down d) L ∙ ap (λ (x : ℕ). x * down d) v.1 ∙ mul_assoc A (down e) (down d))
    ∙ ap (λ (x : ℕ). A * K % x) (mul_right_comm (n * up d) (down e) L ∙ ap (λ (x : ℕ). x * down e) w.1 ∙ mul_assoc B (down d) (down e) ∙ ap (λ (x : ℕ). B * x) (mul_comm (down d) (down e)))
    ∙ scaled A B K p (mul-pos (down_pos e) (down_pos d)) in
    ap (λ (b : Bool). cond b nan (round f u N K)) (ne_eqb n 0 z)
    ∙ round_same f u N K (A % B) L (mul-pos (down_pos e) (down_pos d)) (pow_pos (low f)) k
    ∙ ap (λ (b : Bool). round f b (A % B) L) v.0

-- ---- what a pattern holds

digits : (f : Format) (n : ℕ) → n % top f % hid f ≡ n % hid f
digits f n = mod-mod_of_dvd (hid f) n (dvd-mul_right (hid f) (suc (ones f)))

pub hid_pos : (f : Format) → 0 < hid f
hid_pos f = pow_pos (prec f - 1)

none_above : (a w : ℕ) → 0 < w → w ≤ a → a / w ≡ 0 → ⊥
none_above a w p h z = lt_irrefl a (lt_of_lt_of_le (subst (λ (x : ℕ). x < w) (sym (ap (λ (x : ℕ). x * w + a % w) z ∙ ap (λ (x : ℕ). x + a % w) (zero-mul w) ∙ zero-add (a % w)) ∙ div-add-mod' a w) (mod-lt a p)) h)

-- a finite value by its pattern
pub value_units : (f : Format) (x : Float) → T (fits f x) → (to_bits f x % top f / hid f ≡ ones f → ⊥) → HasValue x (leb (top f) (to_bits f x)) (units_of (hid f) (to_bits f x % top f)) (2 ^ low f)
unfolding units_of
value_units f x h o = go (ltb (to_bits f x % top f) (hid f)) (ltb→lt (to_bits f x % top f) (hid f)) (nltb→le (to_bits f x % top f) (hid f))
  where
    go : (b : Bool) → (T b → to_bits f x % top f < hid f) → (T (not b) → hid f ≤ to_bits f x % top f)
        → HasValue x (leb (top f) (to_bits f x)) (cond b (to_bits f x % top f) ((to_bits f x % top f % hid f + hid f) * 2 ^ (to_bits f x % top f / hid f - 1))) (2 ^ low f)
    go true l g =
        subst (λ (n : ℕ). HasValue x (leb (top f) (to_bits f x)) n (2 ^ low f))
        (mul-one (to_bits f x % hid f) ∙ sym (digits f (to_bits f x)) ∙ mod-eq_of_lt (l tt))
        (value_low f x h (div-eq_of_lt (l tt)))
    go false l g =
        subst (λ (n : ℕ). HasValue x (leb (top f) (to_bits f x)) ((n + hid f) * 2 ^ (to_bits f x % top f / hid f - 1)) (2 ^ low f))
        (sym (digits f (to_bits f x)))
        (value_mid f x h (none_above (to_bits f x % top f) (hid f) (hid_pos f) (g tt)) o)

units_pos : (w b : ℕ) → 0 < w → 0 < b → 0 < units_of w b
unfolding units_of
units_pos w b p q = go (ltb b w)
  where
    more : (x w : ℕ) → 0 < w → 0 < x + w
    more x w h = omega arith

    go : (t : Bool) → 0 < cond t b ((b % w + w) * 2 ^ (b / w - 1))
    go true = q
    go false = mul-pos (more (b % w) w p) (pow_pos (b / w - 1))

-- ---- the value of a pattern with a sign

under_top : (f : Format) (P : ℕ) → P < ones f * hid f → P < top f
under_top f P h = lt_of_lt_of_le h (le_trans (mul-le-mul_right (hid f) (le_suc (ones f))) (le_of_eq (mul_comm (suc (ones f)) (hid f))))
  where
    le_suc : (n : ℕ) → n ≤ suc n
    le_suc n = omega arith

finite_exponent : (f : Format) (P : ℕ) → P < ones f * hid f → P / hid f ≡ ones f → ⊥
finite_exponent f P h e =
    lt_irrefl P (lt_of_lt_of_le h (subst (λ (x : ℕ). x * hid f ≤ P) e (le_trans (le-add_right (P / hid f * hid f) (P % hid f)) (le_of_eq (div-add-mod' P (hid f))))))

module _ (f : Format) (P : ℕ) (h : P < ones f * hid f) where
  bits_under : (s : Bool) → cond s (top f) 0 + P < 2 * top f
  bits_under true = let k = under_top f P h in omega arith
  bits_under false = let k = under_top f P h in omega arith

  bits_rest : (s : Bool) → (cond s (top f) 0 + P) % top f ≡ P
  bits_rest true = add-mod_left (top f) P ∙ mod-eq_of_lt (under_top f P h)
  bits_rest false = ap (λ (x : ℕ). x % top f) (zero-add P) ∙ mod-eq_of_lt (under_top f P h)

  bits_sign : (s : Bool) → leb (top f) (cond s (top f) 0 + P) ≡ s
  bits_sign true = is_true (leb (top f) (top f + P)) (le→leb (top f) (top f + P) (le-add_right (top f) P))
  bits_sign false = ap (λ (x : ℕ). leb (top f) x) (zero-add P) ∙ is_false (leb (top f) P) (lt→nleb (top f) P (under_top f P h))

  not_nan : (s : Bool) → T (not (is_nan (of_bits f (cond s (top f) 0 + P))))
  not_nan s =
      subst (λ (b : Bool). T (not b))
      (sym (is_false (ltb (ones f * hid f) P) (le→nltb (ones f * hid f) P (le_of_lt h))) ∙ ap (λ (x : ℕ). ltb (ones f * hid f) x) (sym (bits_rest s)) ∙ sym (nan_bits_above f (cond s (top f) 0 + P)) ∙ nan_bits_is f (cond s (top f) 0 + P))
      tt

  pub pattern_units : (s : Bool) → HasValue (of_bits f (cond s (top f) 0 + P)) s (units_of (hid f) P) (2 ^ low f)
  pattern_units s =
      let n : ℕ = cond s (top f) 0 + P in
      let e : to_bits f (of_bits f n) ≡ n = to_bits-of_bits f n (bits_under s) (not_nan s) in
      let r : to_bits f (of_bits f n) % top f ≡ P = ap (λ (x : ℕ). x % top f) e ∙ bits_rest s in
      subst (λ (b : Bool). HasValue (of_bits f n) b (units_of (hid f) P) (2 ^ low f)) (ap (λ (x : ℕ). leb (top f) x) e ∙ bits_sign s)
      (subst (λ (x : ℕ). HasValue (of_bits f n) (leb (top f) (to_bits f (of_bits f n))) (units_of (hid f) x) (2 ^ low f)) r
      (value_units f (of_bits f n) (of_bits-fits f n) (λ (z : to_bits f (of_bits f n) % top f / hid f ≡ ones f). finite_exponent f P h (ap (λ (x : ℕ). x / hid f) (sym r) ∙ z))))

-- what is above the rest of a pattern is its sign
pub sign_part : (f : Format) (n : ℕ) → n < 2 * top f → n - n % top f ≡ cond (leb (top f) n) (top f) 0
sign_part f n h = go (leb (top f) n) (leb→le (top f) n) (nleb→lt (top f) n)
  where
    taken : (a c : ℕ) → c ≤ a → a - (a - c) ≡ c
    taken a c h = omega arith

    under : (a c : ℕ) → c ≤ a → a < 2 * c → a - c < c
    under a c h k = omega arith

    self : (a : ℕ) → a - a ≡ 0
    self a = omega arith

    go : (b : Bool) → (T b → top f ≤ n) → (T (not b) → n < top f) → n - n % top f ≡ cond b (top f) 0
    go true l g = ap (λ (x : ℕ). n - x) (mod-eq-sub-mod (l tt) ∙ mod-eq_of_lt (under n (top f) (l tt) h)) ∙ taken n (top f) (l tt)
    go false l g = ap (λ (x : ℕ). n - x) (mod-eq_of_lt (g tt)) ∙ self n

-- ---- the remainder of two finite values by their patterns
pub rem_patterned : (f : Format) (x y : Float) (P : ℕ) → T (fits f x) → T (fits f y) → (to_bits f x % top f / hid f ≡ ones f → ⊥) → (to_bits f y % top f / hid f ≡ ones f → ⊥) → 0 < to_bits f y % top f
    → P < ones f * hid f → units_of (hid f) P ≡ units_of (hid f) (to_bits f x % top f) % units_of (hid f) (to_bits f y % top f) → of_bits f (to_bits f x - to_bits f x % top f + P) ≡ rem f x y
rem_patterned f x y P h k o q b l e =
    let s : Bool = leb (top f) (to_bits f x) in
    ap (λ (z : ℕ). of_bits f (z + P)) (sign_part f (to_bits f x) (to_bits-lt f x h))
    ∙ sym (own_round f (of_bits f (cond s (top f) 0 + P)) s (units_of (hid f) P) (of_bits-fits f (cond s (top f) 0 + P)) (pattern_units f P l s))
    ∙ ap (λ (z : ℕ). round f s z (2 ^ low f)) e
    ∙ sym (rem_units f x y s (leb (top f) (to_bits f y)) (units_of (hid f) (to_bits f x % top f)) (units_of (hid f) (to_bits f y % top f)) (units_pos (hid f) (to_bits f y % top f) (hid_pos f) b) (value_units f x h o) (value_units f y k q))

-- that pattern is no NaN's
pub rem_not_nan : (f : Format) (x : Float) (P : ℕ) → T (fits f x) → P < ones f * hid f → T (not (nan_bits f (to_bits f x - to_bits f x % top f + P)))
rem_not_nan f x P h l =
    let s : Bool = leb (top f) (to_bits f x) in
    subst (λ (z : ℕ). T (not (nan_bits f (z + P)))) (sym (sign_part f (to_bits f x) (to_bits-lt f x h)))
    (subst (λ (b : Bool). T (not b)) (sym (nan_bits_is f (cond s (top f) 0 + P))) (not_nan f P l s))

-- ---- the other values

-- of a NaN, and by one: a sum that is no number either
pub rem_nan : (f : Format) (x y : Float) → is_nan x ≡ true → add f x y ≡ rem f x y
unfolding add rem
rem_nan f x y h = subst (λ (v : Float). add f v y ≡ rem f v y) (sym (is_nan-is x h)) refl

pub rem_by_nan : (f : Format) (x y : Float) → is_nan y ≡ true → add f x y ≡ rem f x y
unfolding add rem
rem_by_nan f x y h = subst (λ (v : Float). add f x v ≡ rem f x v) (sym (is_nan-is y h)) (go x)
  where
    go : (x : Float) → add f x nan ≡ rem f x nan
    go nan = refl
    go (inf s) = refl
    go (fin s m e) = refl

-- of an infinity: the sum with its negative, which is no number
pub rem_of_inf : (f : Format) (x y : Float) (s : Bool) → x ≡ inf s → add f x (neg x) ≡ rem f x y
unfolding add neg rem
rem_of_inf f x y s e = subst (λ (v : Float). add f v (neg v) ≡ rem f v y) (sym e) (go s)
  where
    go : (s : Bool) → add f (inf s) (neg (inf s)) ≡ rem f (inf s) y
    go true = refl
    go false = refl

-- by an infinity: a finite value as it is
pub rem_by_inf : (f : Format) (x y : Float) (s t : Bool) (A c : ℕ) → HasValue x s A c → y ≡ inf t → x ≡ rem f x y
unfolding rem
rem_by_inf f x y s t A c v e = subst (λ (w : Float). x ≡ rem f x w) (sym e) (go x v)
  where
    go : (x : Float) → HasValue x s A c → x ≡ rem f x (inf t)
    go nan v = absurd v
    go (inf r) v = absurd v
    go (fin r m k) v = refl

-- by a zero: its quotient with itself, which is no number
pub rem_by_zero : (f : Format) (x y : Float) (s t : Bool) (A c : ℕ) → 0 < c → HasValue x s A c → HasValue y t 0 c → div f y y ≡ rem f x y
unfolding div rem
rem_by_zero f nan y s t A c p v w = absurd v
rem_by_zero f (inf r) y s t A c p v w = absurd v
rem_by_zero f (fin r m e) nan s t A c p v w = absurd w
rem_by_zero f (fin r m e) (inf u) s t A c p v w = absurd w
rem_by_zero f (fin r m e) (fin u n d) s t A c p v w =
    let z : eqb n 0 ≡ true = eq-eqb n 0 (nothing n (up d) c (up_pos d) p (w.1 ∙ zero-mul (down d))) in
    ap (λ (b : Bool). cond b (cond b nan (inf (unlike u u))) (round f (unlike u u) (n * up d * down d) (n * up d * down d))) z
    ∙ sym (ap (λ (b : Bool). cond b nan (round f r (m * up e * down d % (n * up d * down e)) (down e * down d))) z)
  where
    nothing : (n a b : ℕ) → 0 < a → 0 < b → n * a * b ≡ 0 → n ≡ 0
    nothing zero a b p q h = refl
    nothing (suc n) a b p q h = absurd (lt_irrefl 0 (subst (λ (x : ℕ). 0 < x) h (mul-pos (mul-pos (zero-lt-suc n) p) q)))
