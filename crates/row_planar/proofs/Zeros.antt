-- A factor of zero makes a zero of any finite value, whatever that is: so silent places of a row are all spread to one gain. Assumes nothing.
use Rattle.std.proofs.Common.{◌≡◌, ℕ, ◌*◌, ◌<◌, Bool, true, false, ◌||◌, eqb, ℤ, pos, sym, refl, ap, ◌∙◌, true≢false, mul-pos, mul-zero, zero-mul, mul-one, lit<, eqb-true}
use mathlib.Core.Bool.{beq}
use lib.Ieee.{Float, nan, inf, fin, binary32, up, down, unlike, round, units, odd, size, add, sub, neg, mul, div, rem, eq, of_int, of_bits}
use lib.Ieee.Fits.{up_pos, down_pos}
use lib.Ieee.Scale.{round_same}
use Rattle.float_order.specs.Values.{+0, 1·0}
use Rattle.float_order.specs.Order.{square_of}
use Rattle.float_root.specs.Root.{sqrt_of}
use Rattle.float_widths.specs.Narrow.{narrow_of}
use Rattle.float_sine.specs.Sine.{sin32_of, sin_of, sine_by, mod4, reduced, quarter, nearest_whole, quotient, remainder, S, sine_coefficients}
use Rattle.float_sine.specs.Series.{coefficients, factorial, sum_of}
use Rattle.row_planar.specs.PlanarRow.{half_pi32, spread_gain}
use Rattle.lists.proofs.Tests.{and_left}
use Rattle.float_widths.proofs.Grid.{zero_is}

-- a zero, rounded
round_zero : (s : Bool) (den : ℕ) → 0 < den → round binary32 s 0 den ≡ fin s 0 (pos 0)
round_zero s den h = round_same binary32 s 0 den 0 1 h (lit< tt) (zero-mul 1 ∙ sym (zero-mul den)) ∙ one s
  where
    one : (s : Bool) → round binary32 s 0 1 ≡ fin s 0 (pos 0)
    one s = unfold round units odd size in refl

times_zero : (s t : Bool) (m : ℕ) (e d : ℤ) → mul binary32 (fin s m e) (fin t 0 d) ≡ fin (unlike s t) 0 (pos 0)
unfolding mul
times_zero s t m e d =
    rw (zero-mul (up d), mul-zero (m * up e)) (round_zero (unlike s t) (down e * down d) (mul-pos (down_pos e) (down_pos d)))

-- what equals +0 is a zero of either sign
pub record Zero (x : Float) : Type 0 where
  pub s : Bool
  pub e : ℤ
  pub is : x ≡ fin s 0 e

pub zero_of : (x : Float) → eq x +0 ≡ true → Zero x
unfolding eq
zero_of nan h = absurd (true≢false (sym h))
zero_of (inf s) h = absurd (true≢false (sym h))
zero_of (fin s m e) h =
    let p : m * up e * 1 ≡ 0 * 1 * down e = eqb-true (m * up e * 1) (0 * 1 * down e) (and_left (eqb (m * up e * 1) (0 * 1 * down e)) (beq s false || eqb (m * up e * 1) 0) h) in
    let q : m * up e ≡ 0 = sym (mul-one (m * up e)) ∙ p ∙ rw (zero-mul 1, zero-mul (down e)) refl in
    record { s = s; e = e; is = ap (λ (k : ℕ). fin s k e) (zero_is m (up e) (up_pos e) q) }

twice : (a s : Bool) → unlike (unlike a s) s ≡ unlike (unlike a false) false
twice true true = refl
twice true false = refl
twice false true = refl
twice false false = refl

twice_zero : (t s : Bool) (m : ℕ) (d e : ℤ) → mul binary32 (mul binary32 (fin t m d) (fin s 0 e)) (fin s 0 e) ≡ fin (unlike (unlike t s) s) 0 (pos 0)
twice_zero t s m d e = ap (λ (x : Float). mul binary32 x (fin s 0 e)) (times_zero t s m d e) ∙ times_zero (unlike t s) s 0 (pos 0) e

-- u·g·g is the same for every zero g
same_zero : (u : Float) (s : Bool) (e : ℤ) → mul binary32 (mul binary32 u (fin s 0 e)) (fin s 0 e) ≡ mul binary32 (mul binary32 u +0) +0
same_zero nan s e = unfold mul in refl
same_zero (inf t) s e = unfold mul in refl
same_zero (fin t m d) s e =
    twice_zero t s m d e ∙ ap (λ (b : Bool). fin b 0 (pos 0)) (twice t s) ∙ sym (twice_zero t false m d (pos 0))

pub squared_zero : (u g : Float) → eq g +0 ≡ true → mul binary32 (mul binary32 u g) g ≡ mul binary32 (mul binary32 u +0) +0
squared_zero u g h =
    let z = zero_of g h in
    ap (λ (x : Float). mul binary32 (mul binary32 u x) x) z.is ∙ same_zero u z.s z.e

-- ---- the spread of nothing

-- every silent place is spread to the gain of +0
pub silent_spread : (w d2 g : Float) → eq g +0 ≡ true → spread_gain w d2 +0 ≡ spread_gain w d2 g
unfolding spread_gain
silent_spread w d2 g h = ap (λ (x : Float). sqrt_of binary32 (add binary32 x d2)) (sym (squared_zero (sub binary32 1·0 w) g h))

zero_times : (s t : Bool) (n : ℕ) (e d : ℤ) → mul binary32 (fin s 0 e) (fin t n d) ≡ fin (unlike s t) 0 (pos 0)
unfolding mul
zero_times s t n e d =
    rw (zero-mul (up e), zero-mul (n * up d)) (round_zero (unlike s t) (down e * down d) (mul-pos (down_pos e) (down_pos d)))

-- the sine of a zero is that zero
sine_of_zero : (s : Bool) → square_of (sin32_of (fin s 0 (pos 0))) ≡ +0
unfolding square_of sin32_of narrow_of sin_of sine_by mod4 reduced quarter nearest_whole quotient remainder S sine_coefficients coefficients factorial sum_of round add sub neg mul div rem of_int of_bits
sine_of_zero true = refl
sine_of_zero false = refl

-- a source inside the planar band: t is a zero, and spreads nothing
pub still_spread : (t : Float) → eq t +0 ≡ true → +0 ≡ square_of (sin32_of (mul binary32 t half_pi32))
still_spread t h =
    let z = zero_of t h in
    sym
    (ap (λ (x : Float). square_of (sin32_of (mul binary32 x half_pi32))) z.is
    ∙ ap (λ (x : Float). square_of (sin32_of x)) (by_quarter z.s z.e)
    ∙ sine_of_zero (unlike z.s false))
  where
    by_quarter : (s : Bool) (e : ℤ) → mul binary32 (fin s 0 e) half_pi32 ≡ fin (unlike s false) 0 (pos 0)
    by_quarter s e = unfold of_bits in zero_times s false _ e _
