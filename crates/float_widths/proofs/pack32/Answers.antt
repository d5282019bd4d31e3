-- `float_widths::pack32` meets its contract: with 24 digits kept, and none dropped below the smallest value, the shift rounds as `round` does. Assumes nothing.
use Rattle.std.proofs.Common.{◌≡◌, ℕ, ◌+◌, ◌-◌, ◌*◌, ◌^◌, ◌<◌, ◌≤◌, Bool, sym, ap, ◌∙◌, subst, le_trans, le_of_eq, lt_of_lt_of_le, le_of_suc-le-suc, lt_irrefl, lt_of_not-le, arith, pow_pos, pow_mono, pow-add}
use lib.Count.{count_leading_zeros, leading_le}
use lib.Ieee.{binary32, units, round}
use lib.Ieee.Nearest.{closest}
use Rattle.float_order.proofs.Laws.{closest_le, closest_ge, round_shifted, long, Length, length_of_lem}
use Rattle.float_widths.proofs.pack32.Goals as goal
use Rattle.float_widths.proofs.pack32.Goals.{After-round_shift, After-round_shift-else-z-j-le949, Start}

-- few digits: nothing but the fixed shift
module _ (m z j : ℕ) (l : Length m z) (p : 925 < j → 2 ^ 24 ≤ m) where
  short : z + j ≤ 949 → j ≤ 925
  short h = le_of_suc-le-suc (lt_of_not-le (λ (g : 926 ≤ j). let b : 24 < z = long m z 24 (p g) l.0 in clash z j h g b))
    where
      clash : (z j : ℕ) → z + j ≤ 949 → 926 ≤ j → 24 < z → ⊥
      clash z j a b c = omega arith

  under : z + j ≤ 949 → m < 2 ^ 24 * 2 ^ (925 - j)
  under h = lt_of_lt_of_le l.0 (le_trans (pow_mono (fit z j h (short h))) (le_of_eq (pow-add 2 24 (925 - j))))
    where
      fit : (z j : ℕ) → z + j ≤ 949 → j ≤ 925 → z ≤ 24 + (925 - j)
      fit z j a b = omega arith

  more : 949 < z + j → 24 < z
  more h = lt_of_not-le (λ (g : z ≤ 24). lt_irrefl 24 (lt_of_lt_of_le (long m z 24 (p (far z j h g)) l.0) g))
    where
      far : (z j : ℕ) → 949 < z + j → z ≤ 24 → 925 < j
      far z j a b = omega arith

  under-2 : 949 < z + j → m < 2 ^ 24 * 2 ^ (z - 24)
  under-2 h = lt_of_lt_of_le l.0 (le_of_eq (ap (λ (x : ℕ). 2 ^ x) (fit z (more h)) ∙ pow-add 2 24 (z - 24)))
    where
      fit : (z : ℕ) → 24 < z → z ≡ 24 + (z - 24)
      fit z a = omega arith

  over-2 : 949 < z + j → 2 ^ 23 * 2 ^ (z - 24) ≤ m
  over-2 h = le_trans (le_of_eq (sym (pow-add 2 23 (z - 24)) ∙ ap (λ (x : ℕ). 2 ^ x) (fit z (more h)))) (l.1 (some z (more h)))
    where
      fit : (z : ℕ) → 24 < z → 23 + (z - 24) ≡ z - 1
      fit z a = omega arith

      some : (z : ℕ) → 24 < z → 0 < z
      some z a = omega arith

  is : (s : Bool) → z + j ≤ 949 → round binary32 s (m * 2 ^ j) (2 ^ 1074) ≡ units binary32 s (closest m (2 ^ (925 - j))) 0
  is s h = round_shifted binary32 s m j 1074 (925 - j) 0 (sum j (short h)) (under h) (λ z. absurd (lt_irrefl 0 z))
    where
      sum : (j : ℕ) → j ≤ 925 → j + 149 + (925 - j) ≡ 1074 + 0
      sum j a = omega arith

  is-2 : (s : Bool) → 949 < z + j → round binary32 s (m * 2 ^ j) (2 ^ 1074) ≡ units binary32 s (closest m (2 ^ (z - 24))) (z + j - 949)
  is-2 s h = round_shifted binary32 s m j 1074 (z - 24) (z + j - 949) (sum z j (more h) h) (under-2 h) (λ _. over-2 h)
    where
      sum : (z j : ℕ) → 24 < z → 949 < z + j → j + 149 + (z - 24) ≡ 1074 + (z + j - 949)
      sum z j a b = omega arith

module _ (c : Start) where
  len : Length c.args.m (64 - count_leading_zeros 64 c.args.m)
  len = length_of_lem c.args.m c.ranges.m.fits

pub overflow_sub-z : goal.overflow_sub-z
overflow_sub-z c = leading_le 64 c.args.m

pub overflow_sub-j : goal.overflow_sub-j
overflow_sub-j c = short c.args.m (64 - count_leading_zeros 64 c.args.m) c.args.j (len (goal.at.overflow_sub-j c).Start) c.requires.1 c.if-z-j-le949.true

kept : (c : After-round_shift) → c.round_shift.result ≤ 2 ^ 24
kept c =
    subst (λ (x : ℕ). x ≤ 2 ^ 24) (sym c.round_shift.ensures)
    (closest_le c.args.m (2 ^ (925 - c.args.j)) (2 ^ 24) (pow_pos (925 - c.args.j)) (under c.args.m (64 - count_leading_zeros 64 c.args.m) c.args.j (len c.before.before) c.requires.1 c.if-z-j-le949.true))

pub assemble-requires : goal.assemble-requires
assemble-requires c = (kept c, (λ z. absurd (lt_irrefl 0 z)))

pub overflow_sub-z-else-z-j-le949 : goal.overflow_sub-z-else-z-j-le949
overflow_sub-z-else-z-j-le949 c = let h = more c.args.m (64 - count_leading_zeros 64 c.args.m) c.args.j (len (goal.at.overflow_sub-z-else-z-j-le949 c).Start) c.requires.1 c.if-z-j-le949.false in omega arith

kept-2 : (c : After-round_shift-else-z-j-le949) → (c.round_shift-else-z-j-le949.result ≤ 2 ^ 24) × (2 ^ 23 ≤ c.round_shift-else-z-j-le949.result)
kept-2 c =
    let z = 64 - count_leading_zeros 64 c.args.m in
    subst (λ (x : ℕ). (x ≤ 2 ^ 24) × (2 ^ 23 ≤ x)) (sym c.round_shift-else-z-j-le949.ensures) (
      closest_le c.args.m (2 ^ (z - 24)) (2 ^ 24) (pow_pos (z - 24)) (under-2 c.args.m z c.args.j (len c.before.before) c.requires.1 c.if-z-j-le949.false),
      closest_ge c.args.m (2 ^ (z - 24)) (2 ^ 23) (pow_pos (z - 24)) (over-2 c.args.m z c.args.j (len c.before.before) c.requires.1 c.if-z-j-le949.false),
    )

pub assemble-requires-else-z-j-le949 : goal.assemble-requires-else-z-j-le949
assemble-requires-else-z-j-le949 c = ((kept-2 c).0, (λ _. (kept-2 c).1))

pub returns-then-z-j-le949 : goal.returns-then-z-j-le949
returns-then-z-j-le949 c =
    c.assemble.ensures
    ∙ ap (λ (x : ℕ). units binary32 c.args.neg x 0) c.round_shift.ensures
    ∙ sym (is c.args.m (64 - count_leading_zeros 64 c.args.m) c.args.j (len (goal.at.returns-then-z-j-le949 c).Start) c.requires.1 c.args.neg c.if-z-j-le949.true)

pub returns-else-z-j-le949 : goal.returns-else-z-j-le949
returns-else-z-j-le949 c =
    let z = 64 - count_leading_zeros 64 c.args.m in
    c.assemble-else-z-j-le949.ensures
    ∙ ap (λ (x : ℕ). units binary32 c.args.neg x (z + c.args.j - 949)) c.round_shift-else-z-j-le949.ensures
    ∙ sym (is-2 c.args.m z c.args.j (len (goal.at.returns-else-z-j-le949 c).Start) c.requires.1 c.args.neg c.if-z-j-le949.false)
