-- The crossfade's shaped fraction t⁴ ÷ (t⁴ + (1 − t)⁴) is at most 16 for t from 0 to 1: one of t and 1 − t is 1/2 at least, so the divisor is 1/16 at least. Assumes nothing.
use mathlib.Core.Path.{refl, sym, ◌∙◌, subst}
use mathlib.Core.Logic.{◌⊎◌, inl, inr}
use Prim.Native.Nat.{ℕ, ◌+◌, ◌-◌, ◌*◌, ◌^◌, ◌≤◌, ◌<◌, zero-le}
use native.Mathlib.Nat.{le_refl, le_trans, add-le-add, le-add_right, le-add_left, sub-le, lt_of_le_of_lt, mul-pos, mul-le-mul, mul-le-mul_right}
use native.Mathlib.Omega.{arith}
use mathlib.Core.Bool.{Bool, false}
use lib.Dec.{lit≤, lit<}
use lib.Pow.{pow_pos}
use lib.Ieee.{Float, binary32, unlike, sub, mul}
use lib.Ieee.Scale.{grid, overflow}
use Rattle.float_order.specs.Values.{1·0}
use Rattle.float_order.specs.Order.{square_of, powi4_of}
use Rattle.float_widths.proofs.Grid.{le_or_lt}
use Rattle.row_planar.specs.PlanarRow.{shaped}
use Rattle.float_bounds.proofs.Units.{Val, round_Val, mul_round, add_round, sub_rest, sub_is, neg_val}
use Rattle.float_bounds.proofs.Held.{Held, held, held_val, grid_le, grid_ge}
use Rattle.float_bounds.proofs.Size.{Mag, val_mag, mag_div, unlike_self, sum_val}
use Rattle.float_bounds.proofs.Compare.{FromZero}

-- 1, in smallest values
abbrev L : ℕ
L = 2 ^ 149

one_val : Val binary32 1·0 false L
one_val = record { has = (refl, refl) }

one_held : Held binary32 L
one_held = held binary32 1 149 (lit≤ tt)

-- a square of at most 1, and at least c where x is at least b
square_val : {x : Float} {s : Bool} {X : ℕ} (b c : ℕ) → Val binary32 x s X → X ≤ L → Held binary32 c → c < overflow binary32 → c * (L * L) ≤ b * b * L → (Q : ℕ) × Val binary32 (square_of x) false Q × (Q ≤ L) × (b ≤ X → c ≤ Q)
unfolding square_of
square_val {x} {s} {X} b c v le h l k =
    let P = mul-pos (pow_pos 149) (pow_pos 149) in
    let Q = grid binary32 (X * X) (L * L) in
    let Q-le : Q ≤ L = grid_le binary32 (X * X) (L * L) L P one_held (lit< tt) (le_trans (mul-le-mul_right L (mul-le-mul le le)) (lit≤ tt)) in (
      Q,
      subst (λ (z : Bool). Val binary32 (mul binary32 x x) z Q) (unlike_self s) (subst (λ (z : Float). Val binary32 z (unlike s s) Q) (sym (mul_round v v)) (round_Val binary32 (unlike s s) (X * X) (L * L) (lt_of_le_of_lt Q-le (lit< tt)))),
      Q-le,
      (λ g. grid_ge binary32 (X * X) (L * L) c P h l (le_trans k (mul-le-mul_right L (mul-le-mul g g)))),
    )

fourth_val : {x : Float} {s : Bool} {X : ℕ} → Val binary32 x s X → X ≤ L → (F : ℕ) × Val binary32 (powi4_of x) false F × (F ≤ L) × (2 ^ 148 ≤ X → 2 ^ 145 ≤ F)
unfolding powi4_of
fourth_val v le =
    let q = square_val (2 ^ 148) (2 ^ 147) v le (held binary32 1 147 (lit≤ tt)) (lit< tt) (lit≤ tt) in
    let f = square_val (2 ^ 147) (2 ^ 145) q.1 q.2 (held binary32 1 145 (lit≤ tt)) (lit< tt) (lit≤ tt) in
    (f.0, f.1, f.2, (λ g. f.3 (q.3 g)))

-- t and 1 − t are at most 1, and one of them is 1/2 at least
shaped_by : {t : Float} {s : Bool} {X U : ℕ} → Val binary32 t s X → X ≤ L → Val binary32 (sub binary32 1·0 t) false U → U ≤ L → (2 ^ 148 ≤ X) ⊎ (2 ^ 148 ≤ U) → Mag binary32 (shaped t) (16 * L)
unfolding shaped
shaped_by {t} {s} {X} {U} v le u U-le half =
    let f = fourth_val v le in
    let g = fourth_val u U-le in
    let z = sum_val (2 * L) f.1 g.1 (held binary32 2 149 (lit≤ tt)) (lit< tt) (le_trans (add-le-add f.2 g.2) (lit≤ tt)) in
    let some : 2 ^ 145 ≤ f.0 + g.0 = elim half [ inl h ↦ le_trans (f.3 h) (le-add_right f.0 g.0) | inr h ↦ le_trans (g.3 h) (le-add_left g.0 f.0) ] in
    mag_div (16 * L) (2 ^ 145) (val_mag L f.1 f.2) z.val (z.least (2 ^ 145) (held binary32 1 145 (lit≤ tt)) some) (lit< tt) (held binary32 16 149 (lit≤ tt)) (lit< tt) (lit≤ tt)

pub shaped_mag : {t : Float} → FromZero binary32 t L → Mag binary32 (shaped t) (16 * L)
shaped_mag {t} (inl h) =
    let X = h.X in
    let U = grid binary32 (L - X) L in
    let U-le : U ≤ L = grid_le binary32 (L - X) L L (pow_pos 149) one_held (lit< tt) (mul-le-mul_right L (sub-le L X)) in
    let half : (2 ^ 148 ≤ X) ⊎ (2 ^ 148 ≤ U) = elim (le_or_lt (2 ^ 148) X) [ inl k ↦ inl k | inr k ↦ inr (grid_ge binary32 (L - X) L (2 ^ 148) (pow_pos 149) (held binary32 1 148 (lit≤ tt)) (lit< tt) (mul-le-mul_right L (rest X (2 ^ 148) L k (lit≤ tt)))) ] in
    shaped_by h.val h.most (subst (λ (z : Float). Val binary32 z false U) (sym (sub_rest one_val h.val h.most)) (round_Val binary32 false (L - X) L (lt_of_le_of_lt U-le (lit< tt)))) U-le half
  where
    rest : (X h l : ℕ) → X < h → 2 * h ≤ l → h ≤ l - X
    rest X h l a b = omega arith
shaped_mag {t} (inr v) =
    let w : Val binary32 (sub binary32 1·0 t) false L = subst (λ (z : Float). Val binary32 z false L) (sym (sub_is binary32 1·0 t ∙ add_round one_val (neg_val v))) (held_val binary32 L one_held (lit< tt)) in
    shaped_by v zero-le w (le_refl L) (inr (lit≤ tt))
