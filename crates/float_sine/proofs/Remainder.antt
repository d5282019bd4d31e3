-- The remainder by 2·pi: of a value inside ±2·pi it is the value; of every finite value it is at most 2·pi in size, and its quotient by pi/2 at most 4. Assumes nothing.
use Rattle.std.proofs.Common.{◌≡◌, ℕ, ◌*◌, ◌%◌, ◌^◌, ◌<◌, ◌≤◌, Bool, true, false, ◌&&◌, ◌||◌, T, eqb, ltb, sym, subst, le_trans, le_of_eq, le_of_lt, mul-le-mul_right, mod-lt, mul_assoc, mul-pos, arith, lit<, eqb→eq, ltb→lt}
use lib.Ieee.{Float, nan, inf, fin, binary64, up, down, unlike, round, div, rem, le, of_bits}
use lib.Ieee.Fits.{down_pos}
use lib.Ieee.Order.{round_mono}
use Rattle.float_order.specs.Values.{abs, is_finite}
use Rattle.float_sine.specs.Pi.{two_pi, half_pi}
use Rattle.float_sine.specs.Sine.{4·0, remainder, quotient}
use Rattle.float_sine.specs.Meaning.{RemainderInside}
use Rattle.float_order.proofs.Remainder.{rem_inside}
use Rattle.float_sine.proofs.Rounded.{abs_round}

-- pi's float is N ÷ 2^48
abbrev N : ℕ
N = 884279719003555

-- ---- a value inside ±2·pi
pub remainder_inside : RemainderInside
unfolding remainder
remainder_inside v p h k = rem_inside binary64 v two_pi p h k

-- ---- every finite value
-- 0 ≤ a ÷ c ≤ b ÷ d, as `le` compares them
pub no_more : (a b : ℕ) → T (ltb a b || (eqb a b && true)) → a ≤ b
no_more a b = go (ltb a b) (eqb a b) (ltb→lt a b) (eqb→eq a b)
  where
    go : (x y : Bool) → (T x → a < b) → (T y → a ≡ b) → T (x || (y && true)) → a ≤ b
    go true y h k t = le_of_lt (h tt)
    go false true h k t = le_of_eq (k tt)
    go false false h k t = absurd t

pub remainder_within : (v : Float) → T (is_finite v) → T (le (abs (remainder v)) two_pi)
unfolding is_finite remainder rem of_bits round
remainder_within nan h = absurd h
remainder_within (inf s) h = absurd h
remainder_within (fin s m e) h =
    let A = m * up e * 2 ^ 47 in
    let B = N * down e in
    let c = down e * 2 ^ 47 in
    subst (λ (z : Float). T (le z two_pi)) (sym (abs_round binary64 s (A % B) c))
    (round_mono binary64 (A % B) c N (2 ^ 47) (mul-pos (down_pos e) (lit< tt)) (lit< tt)
    (le_trans (mul-le-mul_right (2 ^ 47) (le_of_lt (mod-lt A (mul-pos (lit< tt) (down_pos e))))) (le_of_eq (mul_assoc N (down e) (2 ^ 47)))))

pub divided_within : (r : Float) → T (le (abs r) two_pi) → T (le (abs (div binary64 r half_pi)) 4·0)
unfolding le abs div of_bits round
divided_within nan h = absurd h
divided_within (inf s) h = absurd h
divided_within (fin s m e) h =
    subst (λ (z : Float). T (le z 4·0)) (sym (abs_round binary64 (unlike s false) (m * up e * 2 ^ 49) (N * down e)))
    (round_mono binary64 (m * up e * 2 ^ 49) (N * down e) 4 1 (mul-pos (lit< tt) (down_pos e)) (lit< tt) (go (m * up e) (down e) (no_more (m * up e * 2 ^ 47) (N * down e) h)))
  where
    go : (a d : ℕ) → a * 2 ^ 47 ≤ N * d → a * 2 ^ 49 * 1 ≤ 4 * (N * d)
    go a d h = omega arith

pub quotient_within : (v : Float) → T (is_finite v) → T (le (abs (quotient v)) 4·0)
unfolding quotient
quotient_within v h = divided_within (remainder v) (remainder_within v h)
