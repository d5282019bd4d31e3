-- A value that the format holds is the only one of its size and sign, so that rounding its size gives it back. Assumes nothing.
use mathlib.Core.Path.{◌≡◌, refl, sym, ap, ◌∙◌, subst}
use Prim.Native.Nat.{ℕ, zero, suc, ◌+◌, ◌-◌, ◌*◌, ◌/◌, ◌%◌, ◌^◌, ◌≤◌, ◌<◌}
use native.Mathlib.Nat.{le_of_eq, lt_of_lt_of_le, mul-one, zero-mul, mul_comm, mul_assoc, mul_right_comm, mul-lt-mul_of_pos_right, lt_of_mul-lt-mul_right}
use mathlib.Core.Bool.{Bool, cond, ◌&&◌}
use lib.IntN.{ℤ, pos, negsuc}
use lib.Dec.{T, leb, ltb, eqb, ltb→lt, leb→le}
use lib.Pow.{pow-add, pow_pos}
use lib.Ieee.{Float, nan, inf, fin, Format, prec, emax, low, up, down, size, round, fits, hid, top, to_bits, of_bits}
use lib.Ieee.Digits.{back}
use lib.Ieee.Fits.{down_pos, and_l, and_r, round-fits}
use lib.Ieee.Exact.{HasValue, round_exact}
use lib.Ieee.Bits.{of_bits-to_bits}
use lib.Ieee.Nearest.{div_same}
use Rattle.float_order.proofs.Laws.{pow_back}

-- ---- `to_bits` sees only the sign and the size
pattern : Format → Bool → ℕ → ℕ
pattern f s n = cond s (top f) 0 + (size n - prec f) * hid f + n / 2 ^ (size n - prec f)

pattern_is : (f : Format) (s : Bool) (m : ℕ) (e : ℤ) → to_bits f (fin s m e) ≡ pattern f s (m * up e * 2 ^ low f / down e)
pattern_is f s m e = unfold to_bits pattern in refl

pub size_unique : (f : Format) (s : Bool) (m : ℕ) (e : ℤ) (n : ℕ) (d : ℤ) → T (fits f (fin s m e)) → T (fits f (fin s n d)) → m * up e * down d ≡ n * up d * down e → fin s m e ≡ fin s n d
size_unique f s m e n d p q h =
    let same : m * up e * 2 ^ low f / down e ≡ n * up d * 2 ^ low f / down d = div_same (m * up e * 2 ^ low f) (down e) (n * up d * 2 ^ low f) (down d) (down_pos e) (down_pos d)
    (mul_right_comm (m * up e) (2 ^ low f) (down d) ∙ ap (λ (z : ℕ). z * 2 ^ low f) h ∙ mul_right_comm (n * up d) (down e) (2 ^ low f)) in
    sym (of_bits-to_bits f (fin s m e) p) ∙ ap (λ (z : ℕ). of_bits f z) (pattern_is f s m e ∙ ap (λ (z : ℕ). pattern f s z) same ∙ sym (pattern_is f s n d)) ∙ of_bits-to_bits f (fin s n d) q

by_value : (f : Format) (x : Float) (s : Bool) (m : ℕ) (e : ℤ) → T (fits f x) → T (fits f (fin s m e)) → HasValue x s (m * up e) (down e) → x ≡ fin s m e
by_value f nan s m e p q v = absurd v
by_value f (inf t) s m e p q v = absurd v
by_value f (fin t n d) s m e p q v =
    let a : fin t n d ≡ fin s n d = ap (λ (b : Bool). fin b n d) v.0 in
    a ∙ size_unique f s n d m e (subst (λ (z : Float). T (fits f z)) a p) q v.1

-- ---- a value that the format holds, rounded
-- in smallest values it is m * 2 ^ j
place : (f : Format) (m : ℕ) (e : ℤ) → down e ≤ 2 ^ low f → (j : ℕ) × (m * up e * 2 ^ low f ≡ m * 2 ^ j * down e)
place f m (pos k) h = (k + low f, mul_assoc m (2 ^ k) (2 ^ low f) ∙ ap (λ (z : ℕ). m * z) (sym (pow-add 2 k (low f))) ∙ sym (mul-one (m * 2 ^ (k + low f))))
place f m (negsuc k) h =
    (low f - suc k, ap (λ (z : ℕ). z * 2 ^ low f) (mul-one m) ∙ ap (λ (z : ℕ). m * z) (ap (λ (z : ℕ). 2 ^ z) (sym (back (low f) (suc k) (pow_back (suc k) (low f) h))) ∙ pow-add 2 (low f - suc k) (suc k)) ∙ sym (mul_assoc m (2 ^ (low f - suc k)) (2 ^ suc k)))

own_value : (f : Format) (s : Bool) (m : ℕ) (e : ℤ) → T (fits f (fin s m e)) → HasValue (round f s (m * up e) (down e)) s (m * up e) (down e)
unfolding fits
own_value f s zero e h = round_exact f s (zero * up e) (down e) 0 0 (down_pos e) (pow_pos (prec f)) (pow_pos (low f + suc (emax f)))
    (ap (λ (z : ℕ). z * 2 ^ low f) (zero-mul (up e)) ∙ zero-mul (2 ^ low f) ∙ sym (zero-mul (down e)))
own_value f s (suc m) e h =
    let A = eqb (suc m % 2) 1 in
    let B = ltb (suc m) (2 ^ prec f) in
    let C = leb (down e) (2 ^ low f) in
    let D = ltb (suc m * up e) (2 ^ suc (emax f) * down e) in
    let p = place f (suc m) e (leb→le (down e) (2 ^ low f) (and_r (A && B) C (and_l (A && B && C) D h))) in
    let under : suc m * 2 ^ p.0 * down e < 2 ^ (low f + suc (emax f)) * down e =
    subst (λ (z : ℕ). z < 2 ^ (low f + suc (emax f)) * down e) p.1
    (lt_of_lt_of_le (mul-lt-mul_of_pos_right (ltb→lt (suc m * up e) (2 ^ suc (emax f) * down e) (and_r (A && B && C) D h)) (pow_pos (low f)))
    (le_of_eq (mul_right_comm (2 ^ suc (emax f)) (down e) (2 ^ low f) ∙ ap (λ (z : ℕ). z * down e) (mul_comm (2 ^ suc (emax f)) (2 ^ low f) ∙ sym (pow-add 2 (low f) (suc (emax f))))))) in
    round_exact f s (suc m * up e) (down e) (suc m) p.0 (down_pos e) (ltb→lt (suc m) (2 ^ prec f) (and_r A B (and_l (A && B) C (and_l (A && B && C) D h)))) (lt_of_mul-lt-mul_right (down e) under) p.1

pub round_own : (f : Format) (s : Bool) (m : ℕ) (e : ℤ) → T (fits f (fin s m e)) → round f s (m * up e) (down e) ≡ fin s m e
round_own f s m e h = by_value f (round f s (m * up e) (down e)) s m e (round-fits f s (m * up e) (down e)) h (own_value f s m e h)
