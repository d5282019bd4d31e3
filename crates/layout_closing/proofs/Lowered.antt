-- A float less one above 0 is not above itself: the difference is rounded to nearest, and the float itself is one that the format holds. Assumes nothing.
use Prim.Native.Nat.{ℕ, suc, ◌+◌, ◌-◌, ◌*◌, ◌^◌, ◌≤◌, ◌<◌}
use mathlib.Core.Path.{◌≡◌, refl, sym, ap, ◌∙◌, subst}
use mathlib.Core.Logic.{◌⊎◌, inl, inr}
use mathlib.Core.Bool.{Bool, true, false, cond, true≢false}
use native.Mathlib.Nat.{lt_of_le_of_lt, mul-le-mul_right}
use native.Mathlib.Omega.{arith}
use lib.Dec.{T, ltb, ltb→lt}
use lib.Pow.{pow_pos}
use lib.Ieee.{Float, nan, inf, fin, Format, binary64, prec, low, odd, units, round, add, sub, neg, lt, fits}
use lib.Ieee.Fits.{round_is}
use lib.Ieee.Order.{drop, kept}
use lib.Ieee.Scale.{grid, overflow}
use Rattle.float_bounds.proofs.Units.{Val, round_Val, neg_val, sub_is}
use Rattle.float_bounds.proofs.Held.{grid_le, grid_ge, fits_held}
use Rattle.float_bounds.proofs.Compare.{lt_val}
use Rattle.float_bounds.proofs.Size.{mag_max}
use Rattle.layout_margin.proofs.Signs.{plus, minus, SumOf, sum_of, lt_turned}

-- ---- a rounded number is finite, or an infinity of its sign

round_or : (f : Format) (s : Bool) (n d : ℕ) → (grid f n d < overflow f) ⊎ (round f s n d ≡ inf s)
unfolding units
round_or f s n d =
    let q = kept (prec f) (n * 2 ^ low f) d in
    let k = drop (prec f) (n * 2 ^ low f) d in
    by (ltb (q * 2 ^ k) (overflow f)) (ltb→lt (q * 2 ^ k) (overflow f)) (round_is f s n d)
  where
    by : (b : Bool) → (T b → grid f n d < overflow f) → round f s n d ≡ cond b (odd (suc (prec f)) s (kept (prec f) (n * 2 ^ low f) d) (drop (prec f) (n * 2 ^ low f) d) (low f)) (inf s) → (grid f n d < overflow f) ⊎ (round f s n d ≡ inf s)
    by true h e = inl (h tt)
    by false h e = inr e

-- ---- comparisons of numbers below 0

unlike_signs : (x y : Float) {X Y : ℕ} → Val binary64 x false X → Val binary64 y true Y → lt x y ≡ false
unfolding lt
unlike_signs nan y v w = absurd v.has
unlike_signs (inf s) y v w = absurd v.has
unlike_signs (fin s m e) nan v w = absurd w.has
unlike_signs (fin s m e) (inf t) v w = absurd w.has
unlike_signs (fin true m e) (fin t n d) v w = absurd (true≢false v.has.0)
unlike_signs (fin false m e) (fin true n d) v w = refl
unlike_signs (fin false m e) (fin false n d) v w = absurd (true≢false (sym w.has.0))

above_lowest : (x : Float) → lt x (inf true) ≡ false
unfolding lt
above_lowest nan = refl
above_lowest (inf true) = refl
above_lowest (inf false) = refl
above_lowest (fin s m e) = refl

neg_neg : (x : Float) → neg (neg x) ≡ x
unfolding neg
neg_neg nan = refl
neg_neg (inf true) = refl
neg_neg (inf false) = refl
neg_neg (fin true m e) = refl
neg_neg (fin false m e) = refl

both_negative : (x y : Float) {X Y : ℕ} → Val binary64 x true X → Val binary64 y true Y → T (lt x y) → Y < X
both_negative x y v w h =
    let e : lt (neg y) (neg x) ≡ lt x y = lt_turned (neg y) x ∙ ap (lt x) (neg_neg y) in
    lt_val (neg_val w) (neg_val v) (subst T (sym e) h)

untrue : (b : Bool) → (T b → ⊥) → b ≡ false
untrue true h = absurd (h tt)
untrue false h = refl

-- ---- the law

-- what the two sides of a sum say of its size
less_than : (X D N : ℕ) → X + 0 + 0 ≡ 0 + D + N → N ≤ X
less_than X D N a = omega arith

more_than : (X D N : ℕ) → 0 + 0 + N ≡ X + D + 0 → X ≤ N
more_than X D N a = omega arith

not_zero : (X D N : ℕ) → 0 < D → 0 + 0 + 0 ≡ X + D + N → ⊥
not_zero X D N h a = omega arith

against : (a b : ℕ) → a < b → b ≤ a → ⊥
against a b h k = omega arith

below_next : (a b : ℕ) → 0 < b → a ≤ b - 1 → a < b
below_next a b p h = omega arith

module _ (x : Float) {X D : ℕ} (held : T (fits binary64 x)) (few : X < overflow binary64) (some : 0 < D) where
  by_sides : (s u : Bool) (N : ℕ) → Val binary64 x s X → plus s X + plus true D + minus u N ≡ minus s X + minus true D + plus u N
      → (grid binary64 N (2 ^ 1074) < overflow binary64) ⊎ (round binary64 u N (2 ^ 1074) ≡ inf u) → lt x (round binary64 u N (2 ^ 1074)) ≡ false
  unfolding plus minus
  by_sides false false N v a r =
      let g : grid binary64 N (2 ^ 1074) ≤ X = grid_le binary64 N (2 ^ 1074) X (pow_pos 1074) (fits_held binary64 x held v) few (mul-le-mul_right (2 ^ 1074) (less_than X D N a)) in
      untrue (lt x (round binary64 false N (2 ^ 1074))) (λ h. against X (grid binary64 N (2 ^ 1074)) (lt_val v (round_Val binary64 false N (2 ^ 1074) (lt_of_le_of_lt g few)) h) g)
  by_sides false true N v a (inl l) = unlike_signs x (round binary64 true N (2 ^ 1074)) v (round_Val binary64 true N (2 ^ 1074) l)
  by_sides false true N v a (inr i) = ap (lt x) i ∙ above_lowest x
  by_sides true false N v a r = absurd (not_zero X D N some a)
  by_sides true true N v a (inl l) =
      let g : X ≤ grid binary64 N (2 ^ 1074) = grid_ge binary64 N (2 ^ 1074) X (pow_pos 1074) (fits_held binary64 x held v) few (mul-le-mul_right (2 ^ 1074) (more_than X D N a)) in
      untrue (lt x (round binary64 true N (2 ^ 1074))) (λ h. against (grid binary64 N (2 ^ 1074)) X (both_negative x (round binary64 true N (2 ^ 1074)) v (round_Val binary64 true N (2 ^ 1074) l) h) g)
  by_sides true true N v a (inr i) = ap (lt x) i ∙ above_lowest x

  lowered_val : (s : Bool) (t : Float) → Val binary64 x s X → Val binary64 t false D → lt x (sub binary64 x t) ≡ false
  lowered_val s t v w =
      let o : SumOf x (neg t) s X true D = sum_of v (neg_val w) in
      ap (lt x) (sub_is binary64 x t ∙ o.is) ∙ by_sides s o.u o.N v o.adds.sides (round_or binary64 o.u o.N (2 ^ 1074))

infinite : (s : Bool) (t : Float) {D : ℕ} → Val binary64 t false D → lt (inf s) (sub binary64 (inf s) t) ≡ false
unfolding lt sub add neg
infinite s nan w = absurd w.has
infinite s (inf r) w = absurd w.has
infinite true (fin r n d) w = refl
infinite false (fin r n d) w = refl

pub lowered : (x t : Float) {D : ℕ} → T (fits binary64 x) → Val binary64 t false D → 0 < D → lt x (sub binary64 x t) ≡ false
unfolding lt
lowered nan t h w p = refl
lowered (inf s) t h w p = infinite s t w
lowered (fin s m e) t h w p =
    let u = mag_max binary64 (fin s m e) tt h in
    lowered_val (fin s m e) h (below_next u.X (overflow binary64) (pow_pos 2098) u.most) p u.s t u.val w
