-- Signs and kinds of values, as the code tests them. Assumes nothing.
use mathlib.Core.Path.{◌≡◌, refl, sym, ap, ◌∙◌, subst}
use Prim.Native.Nat.{ℕ, zero, suc, ◌+◌}
use mathlib.Core.Bool.{Bool, true, false, not, ◌&&◌, cond}
use lib.Dec.{T, leb, eqb}
use lib.Ieee.{Float, nan, inf, fin, Format, prec, low, odd, fits, is_nan, neg, lt, hid, ones, top, of_fields, to_bits}
use Rattle.float_order.specs.Values.{abs, sign_bit, is_finite}
use Rattle.float_order.proofs.Read.{read_is}

-- ---- the sign
pub unsigned : (x : Float) → is_nan x ≡ true → false ≡ sign_bit x
unfolding is_nan sign_bit
unsigned nan h = refl
unsigned (inf s) h = absurd (subst T (sym h) tt)
unsigned (fin s m e) h = absurd (subst T (sym h) tt)

-- the sign that a value is put together with
pub odd_signed : (d : ℕ) (s : Bool) (q k l : ℕ) → sign_bit (odd d s q k l) ≡ s
unfolding sign_bit odd
odd_signed d s zero k l = refl
odd_signed d s (suc q) k l = refl

fields_signed : (f : Format) (s : Bool) (e t : ℕ) → T (not (is_nan (of_fields f s e t))) → sign_bit (of_fields f s e t) ≡ s
unfolding of_fields is_nan sign_bit
fields_signed f s zero t h = odd_signed (prec f) s t 0 (low f)
fields_signed f s (suc e) t h = go (eqb (suc e) (ones f)) (eqb t 0) h
  where
    go : (a b : Bool) → T (not (is_nan (cond a (cond b (inf s) nan) (odd (prec f) s (hid f + t) e (low f)))))
        → sign_bit (cond a (cond b (inf s) nan) (odd (prec f) s (hid f + t) e (low f))) ≡ s
    go true true h = refl
    go true false h = absurd h
    go false b h = odd_signed (prec f) s (hid f + t) e (low f)

pub sign_of_pattern : (f : Format) (x : Float) → T (fits f x) → T (not (is_nan x)) → leb (top f) (to_bits f x) ≡ sign_bit x
sign_of_pattern f x h n =
    let e = read_is f x h in
    sym (ap sign_bit e ∙ fields_signed f _ _ _ (subst (λ (v : Float). T (not (is_nan v))) e n))

-- ---- the value without its sign
pub abs_negative : (x : Float) → sign_bit x ≡ true → neg x ≡ abs x
unfolding sign_bit abs neg
abs_negative nan h = refl
abs_negative (inf s) h = ap (λ (b : Bool). inf (not b)) h
abs_negative (fin s m e) h = ap (λ (b : Bool). fin (not b) m e) h

pub abs_positive : (x : Float) → sign_bit x ≡ false → x ≡ abs x
unfolding sign_bit abs
abs_positive nan h = refl
abs_positive (inf s) h = ap inf h
abs_positive (fin s m e) h = ap (λ (b : Bool). fin b m e) h

-- ---- between the infinities
pub finite_between : (x : Float) → (lt x (inf false) && lt (inf true) x) ≡ is_finite x
unfolding lt is_finite
finite_between nan = refl
finite_between (inf true) = refl
finite_between (inf false) = refl
finite_between (fin s m e) = refl
