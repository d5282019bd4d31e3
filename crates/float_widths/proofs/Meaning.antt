-- The definitions mean what specs/Meaning.antt states: no value of the format is nearer to the exact number, and of two equally near the even one is taken.
-- With q the exact number's whole part in units of 2 ^ k smallest values, no value lies between q and q + 1 of them, and the result is q or q + 1 of them. Of R and Y the one is no nearer
-- to p by how 2 * p compares with R + Y; where they are as near, 2 * p is (2 * q + 1) * 2 ^ k, and `nearest` takes the even one of q and q + 1. Assumes nothing.
use Rattle.std.proofs.Common.{◌≡◌, ℕ, suc, ◌+◌, ◌-◌, ◌*◌, ◌/◌, ◌%◌, ◌^◌, ◌<◌, ◌≤◌, Bool, false, cond, T, sym, refl, ap, ◌∙◌, subst, ap₂, inl, inr, le_trans, le_of_eq, le_refl, lt_of_lt_of_le, le_of_lt, mul-le-mul_right, mul_assoc, mul_comm, div-lt_iff_lt-mul, add-mul, eq-or-lt_of_le, mul-le-mul_left, mul-lt-mul_of_pos_right, mul-pos, one-mul, div-add-mod', not-le_of_lt, div-mul-le_self, arith, lit<, pow_pos, le-ltb}
use Prim.Native.Nat.{compare, Ordering}
use native.Mathlib.Nat.{div-div-eq-div-mul}
use lib.Arith.{lt_of_le-ne}
use lib.Ieee.{Float, nan, inf, fin, Format, binary32, binary64, prec, emax, low, up, down, nearest, odd, units, round, of_int, le, to_bits}
use lib.Ieee.Nearest.{nearest-ge}
use lib.Ieee.Fits.{two, kept-lt, nearest-le, round_is, round-fits, down_pos}
use lib.Ieee.Exact.{HasValue, units_val}
use lib.Ieee.Order.{drop, round_mono}
use Rattle.float_order.specs.Values.{sign_bit, is_finite}
use Rattle.float_widths.specs.Narrow.{narrow_of}
use Rattle.float_widths.specs.Meaning.{InSmallest, apart, limit, RoundNearest, NarrowNearest, NarrowSign, WholeNearest}
use Rattle.float_widths.proofs.Grid.{OnGrid, on_grid, gap, closer, Strict, tie_even, Cmp, cmp, picks, leading, le_or_lt, units_size, units_signed, units_even}

-- ---- `round`: what it keeps of num / den is r * 2 ^ k smallest values
abbrev exact : Format → ℕ → ℕ
exact f num = num * 2 ^ low f

module _ (f : Format) (num den : ℕ) where
  abbrev dropped : ℕ
  dropped = drop (prec f) (exact f num) den

  abbrev unit : ℕ
  unit = den * 2 ^ dropped

  abbrev whole : ℕ
  whole = exact f num / unit

  abbrev half : Ordering
  half = compare (exact f num % unit * 2) unit

  abbrev kept : ℕ
  kept = nearest whole half * 2 ^ dropped

module _ (f : Format) (num den : ℕ) (D : 0 < den) where
  times : (a : ℕ) → a * 2 ^ dropped f num den * den ≡ a * unit f num den
  times a = mul_assoc a (2 ^ dropped f num den) den ∙ ap (λ (x : ℕ). a * x) (mul_comm (2 ^ dropped f num den) den)

  -- the middle between q and q + 1 of the units
  middle_is : (2 * whole f num den + 1) * 2 ^ dropped f num den * den ≡ 2 * (whole f num den * unit f num den) + unit f num den
  middle_is = times (2 * whole f num den + 1) ∙ odd_many (whole f num den) (unit f num den)
    where
      odd_many : (q u : ℕ) → (2 * q + 1) * u ≡ 2 * (q * u) + u
      odd_many q u = add-mul (2 * q) 1 u ∙ ap₂ (λ (x y : ℕ). x + y) (mul_assoc 2 q u) (one-mul u)

  above_whole : 2 * (whole f num den * 2 ^ dropped f num den) * den ≤ 2 * exact f num
  above_whole =
      le_trans (le_of_eq (mul_assoc 2 (whole f num den * 2 ^ dropped f num den) den ∙ ap (λ (x : ℕ). 2 * x) (times (whole f num den)))) (mul-le-mul_left 2 (div-mul-le_self (exact f num) (unit f num den)))

  below_next : 2 * exact f num ≤ 2 * (suc (whole f num den) * 2 ^ dropped f num den) * den
  below_next =
      le_trans (mul-le-mul_left 2 (le_of_lt ((div-lt_iff_lt-mul (mul-pos D (pow_pos (dropped f num den)))).0 (le_refl (suc (whole f num den))))))
      (le_of_eq (sym (mul_assoc 2 (suc (whole f num den) * 2 ^ dropped f num den) den ∙ ap (λ (x : ℕ). 2 * x) (times (suc (whole f num den))))))

  all_digits : 0 < dropped f num den → 2 ^ (prec f - 1) ≤ whole f num den
  all_digits z = subst (λ (x : ℕ). 2 ^ (prec f - 1) ≤ x) (div-div-eq-div-mul (exact f num) den (2 ^ dropped f num den)) (leading (prec f) (exact f num / den) (two f) z)

  kept_le : nearest (whole f num den) (half f num den) ≤ 2 ^ prec f
  kept_le =
      le_trans (nearest-le (whole f num den) (half f num den)) (subst (λ (x : ℕ). x < 2 ^ prec f) (div-div-eq-div-mul (exact f num) den (2 ^ dropped f num den)) (kept-lt (prec f) (exact f num / den)))

  kept_near : (Y : ℕ) → OnGrid f Y → (kept f num den < Y → 2 * exact f num ≤ (kept f num den + Y) * den) × (Y < kept f num den → (kept f num den + Y) * den ≤ 2 * exact f num)
  kept_near Y y =
      let n = exact f num in
      let k = dropped f num den in
      let u = unit f num den in
      let q = whole f num den in
      let s : q * u + n % u ≡ n = div-add-mod' n u in
      closer (λ x. 2 * n ≤ x * den) (λ x. x * den ≤ 2 * n) (λ a b l m. le_trans m (mul-le-mul_right den l)) (λ a b l m. le_trans (mul-le-mul_right den l) m) q k (nearest q (half f num den)) Y above_whole below_next
      (elim (picks q (half f num den) (n % u * 2) u (cmp (n % u * 2) u)) [
        | inl a ↦ inl (a.0, le_trans (down_half (q * u) (n % u) n u s a.1) (le_of_eq (sym middle_is)))
        | inr a ↦ inr (a.0, le_trans (le_of_eq middle_is) (up_half (q * u) (n % u) n u s a.1))
      ])
      (gap f q k Y all_digits y)
    where
      down_half : (a r n u : ℕ) → a + r ≡ n → r * 2 ≤ u → 2 * n ≤ 2 * a + u
      down_half a r n u e h = omega arith

      up_half : (a r n u : ℕ) → a + r ≡ n → u ≤ r * 2 → 2 * a + u ≤ 2 * n
      up_half a r n u e h = omega arith

  kept_even : (Y : ℕ) → OnGrid f Y → (kept f num den ≡ Y → ⊥) → 2 * exact f num ≡ (kept f num den + Y) * den → nearest (whole f num den) (half f num den) % 2 ≡ 0
  kept_even Y y ne e =
      let n = exact f num in
      let k = dropped f num den in
      let u = unit f num den in
      let q = whole f num den in
      let s : q * u + n % u ≡ n = div-add-mod' n u in
      tie_even (λ x. 2 * n ≤ x * den) (λ x. x * den ≤ 2 * n) (λ a b l m. le_trans m (mul-le-mul_right den l)) (λ a b l m. le_trans (mul-le-mul_right den l) m)
      (λ a b l m g. not-le_of_lt (mul-lt-mul_of_pos_right l D) (le_trans g m))
      q k Y (half f num den) above_whole below_next
      (strict (half f num den) (cmp (n % u * 2) u))
      (gap f q k Y all_digits y) ne (le_of_eq e) (le_of_eq (sym e))
    where
      strict : (o : Ordering) → Cmp o (exact f num % unit f num den * 2) (unit f num den)
          → Strict (λ x. 2 * exact f num ≤ x * den) (λ x. x * den ≤ 2 * exact f num) o ((2 * whole f num den + 1) * 2 ^ dropped f num den)
      strict Ordering.lt c = λ g. under (whole f num den * unit f num den) (exact f num % unit f num den) (exact f num) (unit f num den) (div-add-mod' (exact f num) (unit f num den)) c (le_trans (le_of_eq (sym middle_is)) g)
        where
          under : (a r n u : ℕ) → a + r ≡ n → r * 2 < u → 2 * a + u ≤ 2 * n → ⊥
          under a r n u e h g = omega arith
      strict Ordering.eq c = tt
      strict Ordering.gt c = λ g. past (whole f num den * unit f num den) (exact f num % unit f num den) (exact f num) (unit f num den) (div-add-mod' (exact f num) (unit f num den)) c (le_trans g (le_of_eq middle_is))
        where
          past : (a r n u : ℕ) → a + r ≡ n → u < r * 2 → 2 * n ≤ 2 * a + u → ⊥
          past a r n u e h g = omega arith

-- ---- an infinity from the limit on: there the largest value and 2 ^ (emax + 1) are as near
-- the limit itself rounds to an infinity, and a larger fraction to no less
kept_over : (f : Format) (num den : ℕ) → 0 < den → limit f * den ≤ exact f num → 2 ^ (low f + suc (emax f)) ≤ kept f num den
kept_over f num den D h = elim (le_or_lt (2 ^ (low f + suc (emax f))) (kept f num den)) [
  | inl g ↦ g
  | inr g ↦
      let v : HasValue (round f false num den) false (kept f num den) (2 ^ low f) = subst (λ (z : Float). HasValue z false (kept f num den) (2 ^ low f)) (sym (round_is f false num den)) (units_val f false (nearest (whole f num den) (half f num den)) (dropped f num den) g) in
      absurd (finite (round f false num den) (kept f num den) (2 ^ low f) v (subst (λ (z : Float). T (le z (round f false num den))) (at_limit f) (round_mono f (limit f) (2 ^ low f) num den (pow_pos (low f)) D h)))
]
  where
    at_limit : (f : Format) → round f false (limit f) (2 ^ low f) ≡ inf false
    at_limit binary32 = unfold round in refl
    at_limit binary64 = unfold round in refl

    finite : (x : Float) (a c : ℕ) → HasValue x false a c → T (le (inf false) x) → ⊥
    finite nan a c v h = v
    finite (inf s) a c v h = v
    finite (fin s m e) a c v h = unfold le in h

-- below it, by the distance to the largest value
kept_under : (f : Format) (num den : ℕ) → 0 < den → exact f num < limit f * den → kept f num den < 2 ^ (low f + suc (emax f))
kept_under f num den D h = elim (le_or_lt (2 ^ (low f + suc (emax f))) (kept f num den)) [
  | inl g ↦
      let w = 2 ^ (low f + suc (emax f)) in
      let a : 2 * limit f ≤ kept f num den + largest f = le_trans (le_of_eq (twice f)) (more (kept f num den) w (largest f) g) in
      let b = (kept_near f num den D (largest f) (on f)).1 (lt_of_lt_of_le (less f) g) in
      absurd (clash (limit f * den) (2 * limit f * den) ((kept f num den + largest f) * den) (exact f num) (mul_assoc 2 (limit f) den) (mul-le-mul_right den a) b h)
  | inr g ↦ g
]
  where
    largest : (f : Format) → ℕ
    largest f = (2 ^ prec f - 1) * 2 ^ (low f + suc (emax f) - prec f)

    on : (f : Format) → OnGrid f (largest f)
    on binary32 = (2 ^ 24 - 1, low binary32 + suc (emax binary32) - prec binary32, lit< tt, refl)
    on binary64 = (2 ^ 53 - 1, low binary64 + suc (emax binary64) - prec binary64, lit< tt, refl)

    twice : (f : Format) → 2 * limit f ≡ 2 ^ (low f + suc (emax f)) + largest f
    twice binary32 = refl
    twice binary64 = refl

    less : (f : Format) → largest f < 2 ^ (low f + suc (emax f))
    less binary32 = lit< tt
    less binary64 = lit< tt

    more : (r w m : ℕ) → w ≤ r → w + m ≤ r + m
    more r w m h = omega arith

    clash : (a b c n : ℕ) → b ≡ 2 * a → b ≤ c → c ≤ 2 * n → n < a → ⊥
    clash a b c n e h g l = omega arith

-- ---- from the sides to the distances
sides : (n den R Y : ℕ) → (R < Y → 2 * n ≤ (R + Y) * den) × (Y < R → (R + Y) * den ≤ 2 * n) → apart n (R * den) ≤ apart n (Y * den)
sides n den R Y h = elim (le_or_lt R Y) [
  | inl g ↦ elim (eq-or-lt_of_le g) [
    | inl e ↦ le_of_eq (ap (λ (x : ℕ). apart n (x * den)) e)
    | inr l ↦ let a = mul-le-mul_right den g in let b = h.0 l in let c = add-mul R Y den in omega arith
  ]
  | inr l ↦ let a = mul-le-mul_right den (le_of_lt l) in let b = h.1 l in let c = add-mul R Y den in omega arith
]

as_near : (n den R Y : ℕ) → 0 < den → (R ≡ Y → ⊥) → apart n (R * den) ≡ apart n (Y * den) → 2 * n ≡ (R + Y) * den
as_near n den R Y D ne e = elim (le_or_lt R Y) [
  | inl g ↦ let a = mul-lt-mul_of_pos_right (lt_of_le-ne g ne) D in let c = add-mul R Y den in omega arith
  | inr l ↦ let a = mul-lt-mul_of_pos_right l D in let c = add-mul R Y den in omega arith
]

-- ---- the statements
pub round_nearest : RoundNearest
unfolding units is_finite
round_nearest f s num den D =
    let r = nearest (whole f num den) (half f num den) in
    let k = dropped f num den in
    let is = round_is f s num den in
    let size_is : (R : ℕ) → InSmallest f s (round f s num den) R → kept f num den ≡ R = λ R v. sym (units_size f s s r k R (subst (λ (z : Float). HasValue z s R (2 ^ low f)) is v)) in
    record {
      held = round-fits f s num den;
      sign = ap sign_bit is ∙ units_signed f s r k;
      over = λ h. is ∙ units_over f s r k (kept_over f num den D h);
      under = λ h. subst (λ (z : Float). T (is_finite z)) (sym is) (finite (units f s r k) (kept f num den) (units_val f s r k (kept_under f num den D h)));
      near = λ R Y y v h w.
          sides (exact f num) den R Y (subst (λ (x : ℕ). (x < Y → 2 * exact f num ≤ (x + Y) * den) × (Y < x → (x + Y) * den ≤ 2 * exact f num)) (size_is R v) (kept_near f num den D Y (on_grid f y s Y h w)));
      even = λ R Y y v h w ne e.
          let t = size_is R v in
          ap (λ (z : Float). to_bits f z % 2) is
          ∙ units_even f s r k (kept_le f num den D) (λ z. le_trans (all_digits f num den D z) (nearest-ge (whole f num den) (half f num den)))
          (kept_even f num den D Y (on_grid f y s Y h w) (λ g. ne (sym t ∙ g)) (as_near (exact f num) den R Y D ne e ∙ ap (λ (x : ℕ). (x + Y) * den) (sym t)));
    }
  where
    units_over : (f : Format) (s : Bool) (q k : ℕ) → 2 ^ (low f + suc (emax f)) ≤ q * 2 ^ k → units f s q k ≡ inf s
    units_over f s q k h = ap (λ (b : Bool). cond b (odd (suc (prec f)) s q k (low f)) (inf s)) (le-ltb _ _ h)

    finite : (x : Float) (a : ℕ) → InSmallest f s x a → T (is_finite x)
    finite nan a v = v
    finite (inf t) a v = v
    finite (fin t m e) a v = tt

pub narrow_nearest : NarrowNearest
unfolding narrow_of
narrow_nearest s m e = round_nearest binary32 s (m * up e) (down e) (down_pos e)

pub narrow_sign : NarrowSign
unfolding narrow_of sign_bit
narrow_sign nan = refl
narrow_sign (inf s) = refl
narrow_sign (fin s m e) = (narrow_nearest s m e).sign

pub whole_nearest : WholeNearest
unfolding of_int
whole_nearest f n = round_nearest f false n 1 (lit< tt)
