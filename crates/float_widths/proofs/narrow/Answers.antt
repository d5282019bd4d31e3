-- `float_widths::narrow` meets its contract: a value's fields give its fraction, and `pack32` rounds it. Assumes nothing.
use Rattle.std.proofs.Common.{◌≡◌, ℕ, ◌+◌, ◌-◌, ◌*◌, ◌/◌, ◌%◌, ◌^◌, ◌<◌, Bool, true, false, not, T, leb, sym, ap, ◌∙◌, subst, arith, pow_pos}
use lib.Ieee.{Float, nan, inf, fin, binary32, binary64, up, down, round, fits, div, neg, of_bits, to_bits, is_nan}
use lib.Ieee.Fits.{down_pos}
use lib.Ieee.Exact.{HasValue}
use lib.Ieee.Scale.{round_same}
use Rattle.float_widths.specs.Narrow.{narrow_of}
use Rattle.float_order.proofs.Order.{is_nan-is}
use Rattle.float_order.proofs.Read.{value_low, value_mid, value_top}
use Rattle.float_widths.proofs.narrow.Goals as goal
use Rattle.float_widths.proofs.narrow.Goals.{Else-is_nan, Start}

-- by any fraction that the value equals
by_value : (x : Float) (s : Bool) (a c : ℕ) → 0 < c → HasValue x s a c → round binary32 s a c ≡ narrow_of x
unfolding narrow_of
by_value nan s a c p h = absurd h
by_value (inf t) s a c p h = absurd h
by_value (fin t m e) s a c p h =
    ap (λ (b : Bool). round binary32 b a c) (sym h.0) ∙ sym (round_same binary32 t (m * up e) (down e) a c (down_pos e) p h.1)

of_nan : (x : Float) → x ≡ nan → nan ≡ narrow_of x
unfolding narrow_of
of_nan x e = sym (ap narrow_of e)

of_inf : (x : Float) (s t : Bool) → x ≡ inf s → s ≡ t → inf t ≡ narrow_of x
unfolding narrow_of
of_inf x s t e p = sym (ap narrow_of e ∙ ap inf p)

held : (c : Start) → T (fits binary64 c.args.x)
held c = subst T (sym c.well_formed.0.1) tt

real : (c : Else-is_nan) → T (not (is_nan c.args.x))
real c = subst (λ (b : Bool). T (not b)) (sym c.if-is_nan.false ∙ c.is_nan.ensures.value) tt

pub returns-then-is_nan : goal.returns-then-is_nan
unfolding div of_bits
returns-then-is_nan c = of_nan c.args.x (is_nan-is c.args.x (sym c.is_nan.ensures.value ∙ c.if-is_nan.true))

pub float_to_bits-b : goal.float_to_bits-b
float_to_bits-b c = real c

pub returns-then-neg : goal.returns-then-neg
unfolding div neg of_bits
returns-then-neg c =
    of_inf c.args.x _ true (value_top binary64 c.args.x (held (goal.at.returns-then-neg c).Start) c.if-e-eq2047.true (real (goal.at.returns-then-neg c).Else-is_nan)) c.if-neg.true-raw

pub returns-else-neg : goal.returns-else-neg
unfolding div of_bits
returns-else-neg c =
    of_inf c.args.x _ false (value_top binary64 c.args.x (held (goal.at.returns-else-neg c).Start) c.if-e-eq2047.true (real (goal.at.returns-else-neg c).Else-is_nan)) c.if-neg.false-raw

pub returns-then-e-eq0 : goal.returns-then-e-eq0
returns-then-e-eq0 c =
    c.pack32.ensures ∙ by_value c.args.x _ _ (2 ^ 1074) (pow_pos 1074) (value_low binary64 c.args.x (held (goal.at.returns-then-e-eq0 c).Start) c.if-e-eq0.true)

pub returns-then-e-gt896 : goal.returns-then-e-gt896
returns-then-e-gt896 c =
    let b = to_bits binary64 c.args.x in
    c.pack32_normal.ensures
    ∙ ap (λ (k : ℕ). round binary32 (leb (2 ^ 63) b) ((b % 2 ^ 52 + 2 ^ 52) * 2 ^ k) (2 ^ 1074)) (sum (b % 2 ^ 63 / 2 ^ 52) c.if-e-gt896.true)
    ∙ by_value c.args.x _ _ (2 ^ 1074) (pow_pos 1074) (value_mid binary64 c.args.x (held (goal.at.returns-then-e-gt896 c).Start) c.if-e-eq0.false c.if-e-eq2047.false)
  where
    sum : (e : ℕ) → 896 < e → e - 897 + 896 ≡ e - 1
    sum e h = omega arith

pub returns-else-e-gt896 : goal.returns-else-e-gt896
returns-else-e-gt896 c =
    c.pack32-else-e-gt896.ensures ∙ by_value c.args.x _ _ (2 ^ 1074) (pow_pos 1074) (value_mid binary64 c.args.x (held (goal.at.returns-else-e-gt896 c).Start) c.if-e-eq0.false c.if-e-eq2047.false)
