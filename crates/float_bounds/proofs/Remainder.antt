-- The remainder has the dividend's sign and is no larger than the divisor; rem_euclid lies from 0 to the modulus, in every format. Assumes nothing.
use mathlib.Core.Path.{◌≡◌, refl, sym, ap, ◌∙◌, subst}
use mathlib.Core.Logic.{inl}
use Prim.Native.Nat.{ℕ, ◌-◌, ◌*◌, ◌%◌, ◌^◌, ◌<◌}
use native.Mathlib.Nat.{sub-le, le_trans, le_of_eq, le_of_lt, lt_irrefl, mul-pos, mul-le-mul_right, mod-lt}
use native.Mathlib.Omega.{arith}
use mathlib.Core.Bool.{Bool, true, false, not, cond}
use lib.IntN.{ℤ}
use lib.Dec.{T, eqb}
use lib.Pow.{pow_pos}
use lib.Ieee.{Float, nan, inf, fin, Format, low, up, down, round, add, rem, lt}
use lib.Ieee.Fits.{down_pos}
use lib.Ieee.Positive.{first_pos}
use lib.Ieee.Scale.{overflow}
use borrow.Author.Tests.{ne_eqb}
use Rattle.float_order.specs.Values.{+0}
use Rattle.float_order.specs.Remainder.{rem_euclid_of}
use Rattle.float_bounds.proofs.Units.{Val, add_turned}
use Rattle.float_bounds.proofs.Held.{Held}
use Rattle.float_bounds.proofs.Size.{Most, round_most}
use Rattle.float_bounds.proofs.Compare.{FromZero, from_zero, negative}

rem_most_of : (f : Format) (x y : Float) {s t : Bool} {X Y : ℕ} → Val f x s X → Val f y t Y → 0 < Y → Held f Y → Y < overflow f → Most f (rem f x y) s Y
rem_most_of f nan y v w p h l = absurd v.has
rem_most_of f (inf u) y v w p h l = absurd v.has
rem_most_of f (fin u m e) nan v w p h l = absurd w.has
rem_most_of f (fin u m e) (inf r) v w p h l = absurd w.has
rem_most_of f (fin u m e) (fin r n d) {s} {t} {X} {Y} v w p h l =
    let L = 2 ^ low f in
    let A = m * up e * down d in
    let B = n * up d * down e in
    let c = down e * down d in
    let C = mul-pos (down_pos e) (down_pos d) in
    let num : 0 < n * up d = first_pos (n * up d) L (subst (λ (z : ℕ). 0 < z) (sym w.has.1) (mul-pos p (down_pos d))) in
    let is : rem f (fin u m e) (fin r n d) ≡ round f s (A % B) c = opened u m e r n d ∙ ap (λ (b : Bool). cond b nan (round f u (A % B) c)) (ne_eqb n 0 (λ z. lt_irrefl 0 (subst (λ (i : ℕ). 0 < i) z (first_pos n (up d) num)))) ∙ ap (λ (b : Bool). round f b (A % B) c) v.has.0 in
    round_most s (A % B) c Y is C h l (le_trans (mul-le-mul_right L (le_of_lt (mod-lt A (mul-pos num (down_pos e))))) (le_of_eq (cross (n * up d) (down e) (down d) Y L w.has.1)))
  where
    opened : (u : Bool) (m : ℕ) (e : ℤ) (r : Bool) (n : ℕ) (d : ℤ) → rem f (fin u m e) (fin r n d) ≡ cond (eqb n 0) nan (round f u (m * up e * down d % (n * up d * down e)) (down e * down d))
    opened u m e r n d = unfold rem in refl

    cross : (b e d Y L : ℕ) → b * L ≡ Y * d → b * e * L ≡ Y * (e * d)
    cross b e d Y L q = let x : b * L * e ≡ Y * d * e = ap (λ (z : ℕ). z * e) q in omega arith

pub rem_most : {f : Format} {x y : Float} {s t : Bool} {X Y : ℕ} → Val f x s X → Val f y t Y → 0 < Y → Held f Y → Y < overflow f → Most f (rem f x y) s Y
rem_most {f} {x} {y} = rem_most_of f x y

pub rem_euclid : {f : Format} {x m : Float} {s : Bool} {X M : ℕ} → Val f x s X → Val f m false M → 0 < M → Held f M → M < overflow f → FromZero f (rem_euclid_of f x m) M
unfolding rem_euclid_of
rem_euclid {f} {x} {m} {s} {X} {M} v w p h l = let r = rem_most v w p h l in go r (lt (rem f x m) +0) (negative r.val) (from_zero r)
  where
    go : (r : Most f (rem f x m) s M) (b : Bool) → (T b → s ≡ true) → (T (not b) → FromZero f (rem f x m) M) → FromZero f (cond b (add f (rem f x m) m) (rem f x m)) M
    go r false k g = g tt
    go r true k g =
        let R : Val f (rem f x m) true r.X = subst (λ (b : Bool). Val f (rem f x m) b r.X) (k tt) r.val in
        inl (round_most false (M - r.X) (2 ^ low f) M (add_turned R w r.most) (pow_pos (low f)) h l (mul-le-mul_right (2 ^ low f) (sub-le M r.X)))
