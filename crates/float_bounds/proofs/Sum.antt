-- A sum with falling coefficients of alternating sign, at a z from 0 to 1, has the first coefficient's sign and is no larger than it. No interval is computed. Assumes nothing.
use mathlib.Core.Path.{◌≡◌, refl, sym, ap, ◌∙◌, subst}
use mathlib.Core.Logic.{inl, inr}
use mathlib.Core.List.{List, [], ◌∷◌}
use Prim.Native.Nat.{ℕ, zero, suc, ◌+◌, ◌*◌, ◌%◌, ◌^◌, ◌<◌}
use native.Mathlib.Nat.{le_refl}
use native.Mathlib.Omega.{arith}
use mathlib.Core.Bool.{Bool, true, false, not, ◌&&◌}
use lib.Dec.{T, eqb, ltb, ltb→lt}
use lib.Ieee.{Float, binary64, size, unlike}
use lib.Ieee.Fits.{and_l, and_r}
use lib.Ieee.Scale.{grid, overflow}
use Rattle.float_sine.specs.Series.{coefficients, sum_of, factorial}
use Rattle.float_sine.specs.Sine.{sine_coefficients, cosine_coefficients}
use Rattle.float_arctangent.specs.Arctangent.{arctangent_coefficients}
use Rattle.float_widths.proofs.Grid.{parity}
use Rattle.float_bounds.proofs.Units.{Val, round_Val}
use Rattle.float_bounds.proofs.Held.{Held, grid_held}
use Rattle.float_bounds.proofs.Size.{Most, most_sign, mul_most, add_most}

-- falling coefficients: the first one's sign and size
pub data Falling : Bool → ℕ → List Float → Type 0 where
  last : {c : Float} {s : Bool} {C : ℕ} → Val binary64 c s C → Held binary64 C → C < overflow binary64 → Falling s C (c ∷ [])
  next : {c d : Float} {s : Bool} {B C : ℕ} {ds : List Float} → Val binary64 c s C → Held binary64 C → C < overflow binary64 → B < C → Falling (not s) B (d ∷ ds) → Falling s C (c ∷ (d ∷ ds))

falling_held : {s : Bool} {C : ℕ} {cs : List Float} → Falling s C cs → Held binary64 C × (C < overflow binary64)
falling_held (last v h l) = (h, l)
falling_held (next v h l b rest) = (h, l)

unlike_false : (s : Bool) → unlike false s ≡ s
unlike_false true = refl
unlike_false false = refl

pub sum_most : {z : Float} {s : Bool} {C : ℕ} {cs : List Float} → Most binary64 z false (2 ^ 1074) → Falling s C cs → Most binary64 (sum_of z cs) s C
unfolding sum_of
sum_most w (last {C = C} v h l) = record { X = C; val = v; most = le_refl C }
sum_most {s = s} w (next v h l b rest) =
    let g = falling_held rest in
    add_most v h l (most_sign (unlike_false (not s)) (mul_most w (sum_most w rest) g.0 g.1)) b

-- ---- the lists of document 01, by one computed test

falls : (ℕ → ℕ) → ℕ → ℕ → Bool
falls n i zero = ltb (grid binary64 1 (n i)) (overflow binary64)
falls n i (suc more) = ltb (grid binary64 1 (n i)) (overflow binary64) && ltb (grid binary64 1 (n (suc i))) (grid binary64 1 (n i)) && falls n (suc i) more

-- the signs alternate
turned : (i : ℕ) → eqb (suc i % 2) 1 ≡ not (eqb (i % 2) 1)
turned i = elim (parity i) [
  | inl h ↦ ap (λ (k : ℕ). eqb k 1) (odd i h) ∙ ap (λ (k : ℕ). not (eqb k 1)) (sym h)
  | inr h ↦ ap (λ (k : ℕ). eqb k 1) (even i h) ∙ ap (λ (k : ℕ). not (eqb k 1)) (sym h)
]
  where
    odd : (i : ℕ) → i % 2 ≡ 0 → suc i % 2 ≡ 1
    odd i h = omega arith

    even : (i : ℕ) → i % 2 ≡ 1 → suc i % 2 ≡ 0
    even i h = omega arith

falling_by : (n : ℕ → ℕ) (i more : ℕ) → T (falls n i more) → Falling (eqb (i % 2) 1) (grid binary64 1 (n i)) (coefficients n i (suc more))
unfolding falls coefficients
falling_by n i zero t = let l = ltb→lt (grid binary64 1 (n i)) (overflow binary64) t in last (round_Val binary64 (eqb (i % 2) 1) 1 (n i) l) (grid_held binary64 1 (n i)) l
falling_by n i (suc more) t =
    let a = ltb (grid binary64 1 (n i)) (overflow binary64) in
    let b = ltb (grid binary64 1 (n (suc i))) (grid binary64 1 (n i)) in
    let c = falls n (suc i) more in
    let l = ltb→lt (grid binary64 1 (n i)) (overflow binary64) (and_l a b (and_l (a && b) c t)) in
    next (round_Val binary64 (eqb (i % 2) 1) 1 (n i) l) (grid_held binary64 1 (n i)) l (ltb→lt (grid binary64 1 (n (suc i))) (grid binary64 1 (n i)) (and_r a b (and_l (a && b) c t)))
    (subst (λ (s : Bool). Falling s (grid binary64 1 (n (suc i))) (coefficients n (suc i) (suc more))) (turned i) (falling_by n (suc i) more (and_r (a && b) c t)))

-- each list begins with 1
pub sine_falling : Falling false (2 ^ 1074) sine_coefficients
unfolding size falls factorial sine_coefficients
sine_falling = falling_by (λ i. factorial (2 * i + 1)) 0 8 tt

pub cosine_falling : Falling false (2 ^ 1074) cosine_coefficients
unfolding size falls factorial cosine_coefficients
cosine_falling = falling_by (λ i. factorial (2 * i)) 0 8 tt

pub arctangent_falling : Falling false (2 ^ 1074) arctangent_coefficients
unfolding size falls arctangent_coefficients
arctangent_falling = falling_by (λ i. 2 * i + 1) 0 7 tt
