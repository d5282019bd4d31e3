-- The remainder of a value that lies between the modulus and its negative is the value. Assumes nothing.
use mathlib.Core.Path.{◌≡◌, refl, sym, ap, ◌∙◌, subst}
use Prim.Native.Nat.{ℕ, ◌*◌, ◌%◌, ◌<◌}
use native.Mathlib.Nat.{zero-mul, mul-pos, mul_assoc, mul_comm, mod-eq_of_lt}
use native.Mathlib.Omega.{arith}
use mathlib.Core.Bool.{Bool, true, false, not, cond, ◌&&◌}
use lib.Dec.{T, eqb, ltb→lt}
use lib.IntN.{ℤ}
use lib.Ieee.{Float, nan, inf, fin, Format, up, down, below, round, neg, rem, lt, fits}
use lib.Ieee.Fits.{down_pos}
use lib.Ieee.Scale.{round_same}
use borrow.Author.Tests.{ne_eqb}
use Rattle.float_order.proofs.Rounded.{round_own}

-- ---- a test of two parts, by its parts
pub both_left : (a b : Bool) → (a && b) ≡ true → a ≡ true
both_left true b e = refl
both_left false b e = e

pub both_right : (a b : Bool) → (a && b) ≡ true → b ≡ true
both_right true b e = e
both_right false b e = absurd (subst T (sym e) tt)

-- ---- ±a below ±b, and above its negative
between : (s t : Bool) (a b : ℕ) → below s a t b ≡ true → below (not t) b s a ≡ true → a < b
between false false a b h k = ltb→lt a b (subst T (sym h) tt)
between false true a b h k = absurd (subst T (sym h) tt)
between true false a b h k = ltb→lt a b (subst T (sym k) tt)
between true true a b h k = absurd (subst T (sym k) tt)

-- no value lies between the zeros
some : (n a b : ℕ) → a < n * b → n ≡ 0 → ⊥
some n a b h e = let z : n * b ≡ 0 = ap (λ (x : ℕ). x * b) e ∙ zero-mul b in omega arith

finite : (f : Format) (s : Bool) (m : ℕ) (e : ℤ) (n : ℕ) (d : ℤ) → T (fits f (fin s m e)) → m * up e * down d < n * up d * down e
    → fin s m e ≡ cond (eqb n 0) nan (round f s (m * up e * down d % (n * up d * down e)) (down e * down d))
finite f s m e n d p h =
    sym (ap (λ (b : Bool). cond b nan (round f s (m * up e * down d % (n * up d * down e)) (down e * down d))) (ne_eqb n 0 (some n (m * up e * down d) (up d * down e) (subst (λ (x : ℕ). m * up e * down d < x) (mul_assoc n (up d) (down e)) h)))
    ∙ ap (λ (x : ℕ). round f s x (down e * down d)) (mod-eq_of_lt h)
    ∙ round_same f s (m * up e * down d) (down e * down d) (m * up e) (down e) (mul-pos (down_pos e) (down_pos d)) (down_pos e) (mul_assoc (m * up e) (down d) (down e) ∙ ap (λ (x : ℕ). m * up e * x) (mul_comm (down d) (down e)))
    ∙ round_own f s m e p)

pub rem_inside : (f : Format) (x m : Float) → T (fits f x) → lt x m ≡ true → lt (neg m) x ≡ true → x ≡ rem f x m
unfolding lt neg rem
rem_inside f nan m p h k = absurd (subst T (sym h) tt)
rem_inside f (inf s) nan p h k = absurd (subst T (sym h) tt)
rem_inside f (inf true) (inf true) p h k = absurd (subst T (sym h) tt)
rem_inside f (inf true) (inf false) p h k = absurd (subst T (sym k) tt)
rem_inside f (inf false) (inf t) p h k = absurd (subst T (sym h) tt)
rem_inside f (inf true) (fin t n d) p h k = absurd (subst T (sym k) tt)
rem_inside f (inf false) (fin t n d) p h k = absurd (subst T (sym h) tt)
rem_inside f (fin s m e) nan p h k = absurd (subst T (sym h) tt)
rem_inside f (fin s m e) (inf t) p h k = refl
rem_inside f (fin s m e) (fin t n d) p h k = finite f s m e n d p (between s t (m * up e * down d) (n * up d * down e) h k)
