-- The quarter by comparisons: between k − ½ and k + ½ the nearest whole number is k; |q| ≤ 4, so k is one of −4 to 4. Where v is no number, every k serves. Assumes nothing.
use Rattle.std.proofs.Common.{◌≡◌, ℕ, zero, suc, ◌+◌, ◌*◌, ◌<◌, ◌≤◌, Bool, true, false, not, T, ℤ, pos, negsuc, sym, refl, ap, ◌∙◌, subst, ap₂, arith, ltb→lt, nltb→le, le-ltb, lt-ltb}
use lib.IntN.{pred_ℤ}
use lib.Ieee.{Float, nan, inf, fin, binary64, up, down, round, add, sub, neg, mul, div, rem, lt, le, of_int}
use lib.Ieee.Fits.{down_pos}
use Rattle.float_order.specs.Values.{abs, is_finite}
use Rattle.float_sine.specs.Pi.{half_pi}
use Rattle.float_sine.specs.Series.{coefficients, sum_of, factorial}
use Rattle.float_sine.specs.Sine.{4·0, S, C, remainder, quotient, nearest_whole, above, below, Nearest, quarter, reduced, mod4, sine_by, cosine_by, sin_of, cos_of, cosine_coefficients}
use Rattle.float_sine.proofs.Remainder.{no_more, quotient_within}
use Rattle.float_sine.proofs.Whole.{nearest_whole_nearest, nearest_whole_only}

-- k + ½; k − ½ is that of the whole number before
abbrev pub upper : ℤ → Float
upper (pos n) = fin false (2 * n + 1) (negsuc 0)
upper (negsuc n) = fin true (2 * n + 1) (negsuc 0)

-- ---- what `lt` says, of a half b ÷ 2
lt_true : (s : Bool) (m : ℕ) (e : ℤ) (t : Bool) (b : ℕ) → lt (fin s m e) (fin t b (negsuc 0)) ≡ true → above s (2 * (m * up e)) + below t (b * down e) < above t (b * down e) + below s (2 * (m * up e))
unfolding lt
lt_true false m e false b h = let x = ltb→lt (m * up e * 2) (b * 1 * down e) (subst T (sym h) tt) in omega arith
lt_true false m e true b h = absurd (subst T (sym h) tt)
lt_true true m e false b h = let x = ltb→lt 0 (m * up e * 2 + b * 1 * down e) (subst T (sym h) tt) in omega arith
lt_true true m e true b h = let x = ltb→lt (b * 1 * down e) (m * up e * 2) (subst T (sym h) tt) in omega arith

lt_false : (s : Bool) (m : ℕ) (e : ℤ) (t : Bool) (b : ℕ) → lt (fin s m e) (fin t b (negsuc 0)) ≡ false → above t (b * down e) + below s (2 * (m * up e)) ≤ above s (2 * (m * up e)) + below t (b * down e)
unfolding lt
lt_false false m e false b h = let x = nltb→le (m * up e * 2) (b * 1 * down e) (subst (λ (z : Bool). T (not z)) (sym h) tt) in omega arith
lt_false false m e true b h = omega arith
lt_false true m e false b h = let x = nltb→le 0 (m * up e * 2 + b * 1 * down e) (subst (λ (z : Bool). T (not z)) (sym h) tt) in omega arith
lt_false true m e true b h = let x = nltb→le (b * 1 * down e) (m * up e * 2) (subst (λ (z : Bool). T (not z)) (sym h) tt) in omega arith

between : (q : Float) (k : ℤ) → T (is_finite q) → lt q (upper k) ≡ true → lt q (upper (pred_ℤ k)) ≡ false → Nearest k q
unfolding is_finite Nearest
between nan k f h l = absurd f
between (inf s) k f h l = absurd f
between (fin false m e) (pos zero) f h l = let x = lt_true false m e false 1 h in (omega arith, omega arith)
between (fin true m e) (pos zero) f h l = let y = lt_false true m e true 1 l in let p = down_pos e in (omega arith, omega arith)
between (fin false m e) (pos (suc n)) f h l = let x = lt_true false m e false (2 * suc n + 1) h in let y = lt_false false m e false (2 * n + 1) l in (omega arith, omega arith)
between (fin true m e) (pos (suc n)) f h l = let y = lt_false true m e false (2 * n + 1) l in let p = down_pos e in absurd (omega arith)
between (fin false m e) (negsuc n) f h l = let x = lt_true false m e true (2 * n + 1) h in absurd (omega arith)
between (fin true m e) (negsuc n) f h l = let x = lt_true true m e true (2 * n + 1) h in let y = lt_false true m e true (2 * suc n + 1) l in (omega arith, omega arith)

-- ---- −4.5 ≤ q < 4.5
of_four : (q : Float) → T (le (abs q) 4·0) → T (is_finite q) × (lt q (upper (pos 4)) ≡ true) × (lt q (upper (negsuc 4)) ≡ false)
unfolding le abs is_finite lt
of_four nan h = absurd h
of_four (inf s) h = absurd h
of_four (fin false m e) h = let x = no_more (m * up e * 1) (4 * down e) h in let p = down_pos e in (tt, lt-ltb (m * up e * 2) (9 * down e) (omega arith), refl)
of_four (fin true m e) h = let x = no_more (m * up e * 1) (4 * down e) h in let p = down_pos e in (tt, lt-ltb 0 (m * up e * 2 + 9 * down e) (omega arith), le-ltb (9 * down e) (m * up e * 2) (omega arith))

module _ (q : Float) (within : T (le (abs q) 4·0)) where
  pub reach_above : lt q (upper (pos 4)) ≡ true
  reach_above = (of_four q within).1

  pub reach_below : lt q (upper (negsuc 4)) ≡ false
  reach_below = (of_four q within).2

  -- k − ½ ≤ q < k + ½: the code's answer is k, and k mod 4
  pub turn_is : (k : ℤ) → lt q (upper k) ≡ true → lt q (upper (pred_ℤ k)) ≡ false → (of_int binary64 k ≡ of_int binary64 (nearest_whole q)) × (mod4 k ≡ mod4 (nearest_whole q))
  turn_is k h l =
      let f = (of_four q within).0 in
      let e : k ≡ nearest_whole q = nearest_whole_only q k (nearest_whole q) (between q k f h l) (nearest_whole_nearest q f) in
      (ap (λ (z : ℤ). of_int binary64 z) e, ap mod4 e)

-- ---- a NaN stays one, whatever k is
S-nan : S nan ≡ nan
unfolding S mul
S-nan = refl

C-nan : C nan ≡ nan
unfolding C sum_of cosine_coefficients coefficients factorial round mul add
C-nan = refl

neg_nan : {x : Float} → x ≡ nan → neg x ≡ nan
unfolding neg
neg_nan e = ap neg e

pub sine_by_nan : (m : ℕ) → sine_by m nan ≡ nan
unfolding sine_by
sine_by_nan zero = S-nan
sine_by_nan (suc zero) = C-nan
sine_by_nan (suc (suc zero)) = neg_nan S-nan
sine_by_nan (suc (suc (suc m))) = neg_nan C-nan

pub cosine_by_nan : (m : ℕ) → cosine_by m nan ≡ nan
unfolding cosine_by
cosine_by_nan zero = C-nan
cosine_by_nan (suc zero) = neg_nan S-nan
cosine_by_nan (suc (suc zero)) = neg_nan C-nan
cosine_by_nan (suc (suc (suc m))) = S-nan

-- what the code finds: k as a float, and k mod 4
abbrev Found : Float → Float → ℕ → Type 0
Found v k m = T (le (abs (quotient v)) 4·0) → (k ≡ of_int binary64 (quarter v)) × (m ≡ mod4 (quarter v))

abbrev rest : Float → Float → Float
rest v k = sub binary64 (remainder v) (mul binary64 k half_pi)

abbrev Both : Float → Float → ℕ → Type 0
Both v k m = (sine_by m (rest v k) ≡ sin_of v) × (cosine_by m (rest v k) ≡ cos_of v)

-- the remainder of no number is NaN, and so is what is left of it
no_number : (v k : Float) (m : ℕ) → remainder v ≡ nan → Both v k m
unfolding sin_of cos_of reduced sub add
no_number v k m e =
    let y : (k : Float) → rest v k ≡ nan = λ k. ap (λ (r : Float). sub binary64 r (mul binary64 k half_pi)) e in
    let z = y (of_int binary64 (quarter v)) in (
      ap (sine_by m) (y k) ∙ sine_by_nan m ∙ sym (ap (sine_by (mod4 (quarter v))) z ∙ sine_by_nan (mod4 (quarter v))),
      ap (cosine_by m) (y k) ∙ cosine_by_nan m ∙ sym (ap (cosine_by (mod4 (quarter v))) z ∙ cosine_by_nan (mod4 (quarter v))),
    )

number : (v k : Float) (m : ℕ) → T (is_finite v) → Found v k m → Both v k m
unfolding sin_of cos_of reduced
number v k m f h =
    let g = h (quotient_within v f) in
    (ap₂ (λ (m : ℕ) (k : Float). sine_by m (rest v k)) g.1 g.0, ap₂ (λ (m : ℕ) (k : Float). cosine_by m (rest v k)) g.1 g.0)

found_both : (v k : Float) (m : ℕ) → Found v k m → Both v k m
unfolding is_finite remainder rem
found_both nan k m h = no_number nan k m refl
found_both (inf s) k m h = no_number (inf s) k m refl
found_both (fin s n e) k m h = number (fin s n e) k m tt h

-- ---- the four branches of the code, by m
pub record Turned (v s c : Float) (m : ℕ) : Type 0 where
  pub at_0 : m ≡ 0 → (s ≡ sin_of v) × (c ≡ cos_of v)
  pub at_1 : m ≡ 1 → (c ≡ sin_of v) × (neg s ≡ cos_of v)
  pub at_2 : m ≡ 2 → (neg s ≡ sin_of v) × (neg c ≡ cos_of v)
  pub at_3 : m ≡ 3 → (neg c ≡ sin_of v) × (s ≡ cos_of v)

by_branch : (v y s c : Float) (m : ℕ) → s ≡ S y → c ≡ C y → (sine_by m y ≡ sin_of v) × (cosine_by m y ≡ cos_of v) → Turned v s c m
unfolding sine_by cosine_by
by_branch v y s c m p q b = record {
  at_0 = λ e. (p ∙ ap (λ (m : ℕ). sine_by m y) (sym e) ∙ b.0, q ∙ ap (λ (m : ℕ). cosine_by m y) (sym e) ∙ b.1);
  at_1 = λ e. (q ∙ ap (λ (m : ℕ). sine_by m y) (sym e) ∙ b.0, ap neg p ∙ ap (λ (m : ℕ). cosine_by m y) (sym e) ∙ b.1);
  at_2 = λ e. (ap neg p ∙ ap (λ (m : ℕ). sine_by m y) (sym e) ∙ b.0, ap neg q ∙ ap (λ (m : ℕ). cosine_by m y) (sym e) ∙ b.1);
  at_3 = λ e. (ap neg q ∙ ap (λ (m : ℕ). sine_by m y) (sym e) ∙ b.0, p ∙ ap (λ (m : ℕ). cosine_by m y) (sym e) ∙ b.1);
}

-- r is the remainder, k and m what is found of r ÷ (pi/2), s and c the sums of y = r − k·(pi/2)
pub turned : (v r k s c : Float) (m : ℕ) → r ≡ remainder v
    → (T (le (abs (div binary64 r half_pi)) 4·0) → (k ≡ of_int binary64 (nearest_whole (div binary64 r half_pi))) × (m ≡ mod4 (nearest_whole (div binary64 r half_pi))))
    → s ≡ S (sub binary64 r (mul binary64 k half_pi)) → c ≡ C (sub binary64 r (mul binary64 k half_pi)) → Turned v s c m
unfolding quarter quotient
turned v r k s c m is found p q =
    by_branch v (rest v k) s c m
    (p ∙ ap (λ (r : Float). S (sub binary64 r (mul binary64 k half_pi))) is)
    (q ∙ ap (λ (r : Float). C (sub binary64 r (mul binary64 k half_pi))) is)
    (found_both v k m (subst (λ (r : Float). T (le (abs (div binary64 r half_pi)) 4·0) → (k ≡ of_int binary64 (nearest_whole (div binary64 r half_pi))) × (m ≡ mod4 (nearest_whole (div binary64 r half_pi)))) is found))
