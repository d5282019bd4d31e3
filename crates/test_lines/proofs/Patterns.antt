-- Patterns of NaNs and of other values. Assumes nothing.
use Rattle.std.proofs.Common.{◌≡◌, ℕ, ◌*◌, ◌%◌, ◌<◌, ◌≤◌, Bool, true, not, T, sym, refl, ◌∙◌, subst, le-ltb, lt-ltb}
use mathlib.Core.Bool.{false≢true}
use lib.Ieee.{Float, nan, inf, fin, Format, is_nan, hid, ones, top, of_bits, nan_bits}
use lib.Ieee.Bits.{nan_bits_is, nan_bits_above}

-- no lemma of the library says it
is_nan_lem : (x : Float) → is_nan x ≡ true → x ≡ nan
unfolding is_nan
is_nan_lem nan e = refl
is_nan_lem (inf s) e = absurd (false≢true e)
is_nan_lem (fin s m e) h = absurd (false≢true h)

-- a pattern above the infinity's, without its sign, is a NaN's, and no other is
pub nan_of : (f : Format) (n : ℕ) → ones f * hid f < n % top f → nan ≡ of_bits f n
nan_of f n h = sym (is_nan_lem (of_bits f n) (sym (nan_bits_is f n) ∙ nan_bits_above f n ∙ lt-ltb _ _ h))

pub no_nan : (f : Format) (n : ℕ) → n % top f ≤ ones f * hid f → T (not (nan_bits f n))
no_nan f n h = subst (λ (b : Bool). T (not b)) (sym (nan_bits_above f n ∙ le-ltb _ _ h)) tt
