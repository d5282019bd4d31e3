-- Laws of the points in one plane: those that a loop passes, and the fan of their angles. Assumes nothing.
use Rattle.std.proofs.Common.{◌≡◌, ℕ, zero, suc, ◌+◌, ◌-◌, ◌≤◌, ◌<◌, Bool, true, false, cond, ◌&&◌, List, [], ◌∷◌, ◌++◌, map, length, get_or, take, refl, sym, ap, ◌∙◌, add-one, arith, length-append, lt-ltb, ltb-true, eq-eqb, ltb, eqb}
use lib.Ieee.{Float, neg, le}
use lib.Seq.{take-suc}
use mathlib.Core.List.{append_assoc, map-append}
use Rattle.lists.specs.Lists.{from, range, between, filter, every}
use Rattle.lists.proofs.Ranges.{range_snoc, range_between, between_cons, between_append, length_between}
use Rattle.lists.proofs.Tests.{or_true, every_at, empty_length}
use Rattle.lists.proofs.Collect.{filter_append, filter_yes, filter_no, length_filter}
use Rattle.vector.specs.Vector.{Vector, Points}
use Rattle.layout_faces.specs.Faces.{Plane, eps, point, others, height, is_other}
use Rattle.angle_sort.specs.Order.{sorted_of}
use Rattle.layout_fan.specs.declared.Basis.{Basis}
use Rattle.layout_fan.specs.Fan.{coplanar, adjacent, in_fan, fan, angle_in}
use Rattle.layout_fan.specs.Inner.Steps.{is_coplanar, basis_of, angle_by, spot_of, fan_test}

-- ---- the numbers below p that pass a test, once p is looked at too

module _ (f : ℕ → Bool) (p : ℕ) {l : List ℕ} (g : l ≡ filter f (range p)) {b : Bool} (e : b ≡ f p) where
  pub found_no : b ≡ false → l ≡ filter f (range (p + 1))
  found_no n = g ∙ sym (ap (filter f) (range_snoc p) ∙ filter_no f (range p) p (sym e ∙ n))

  pub found_yes : b ≡ true → l ++ p ∷ [] ≡ filter f (range (p + 1))
  found_yes y = ap (λ (l : List ℕ). l ++ p ∷ []) g ∙ sym (ap (filter f) (range_snoc p) ∙ filter_yes f (range p) p (sym e ∙ y))

-- ---- the coplanar points

-- those that pass two tests
filter_both : (f g : ℕ → Bool) (l : List ℕ) → filter (λ p. g p && f p) l ≡ filter f (filter g l)
unfolding filter
filter_both f g [] = refl
filter_both f g (p ∷ l) = by (g p) (filter_both f g l)
  where
    by : (b : Bool) → filter (λ p. g p && f p) l ≡ filter f (filter g l)
        → cond (b && f p) (p ∷ filter (λ p. g p && f p) l) (filter (λ p. g p && f p) l) ≡ filter f (cond b (p ∷ filter g l) (filter g l))
    by true e = rw e refl
    by false e = e

module _ (pts : Points) (i j k : ℕ) (f : Plane) where
  -- the test of point p
  abbrev pub coplanar_at : ℕ → Bool
  coplanar_at p = is_coplanar i j k f p (point pts p)

  pub coplanar_range : filter coplanar_at (range (length pts)) ≡ coplanar pts f (others (length pts) i j k)
  unfolding coplanar others is_coplanar height
  coplanar_range = filter_both (λ p. le (neg eps) (height pts f p)) (is_other i j k) (range (length pts))

-- ---- how many there are

module _ (i j k : ℕ) where
  other_i : is_other i j k i ≡ false
  other_i = rw (eq-eqb i i refl)

  other_j : is_other i j k j ≡ false
  other_j = rw (eq-eqb j j refl, or_true)

  other_k : is_other i j k k ≡ false
  other_k = rw (eq-eqb k k refl, or_true)

module _ (g : ℕ → Bool) where
  -- how many of a .. b - 1 pass
  abbrev passing : ℕ → ℕ → ℕ
  passing a b = length (filter g (between a b))

  passing_le : (a b : ℕ) → passing a b ≤ b - a
  passing_le a b = omega (arith, length_filter g (between a b), length_between a b)

  passing_split : (a b c : ℕ) → a ≤ b → b ≤ c → passing a c ≡ passing a b + passing b c
  passing_split a b c h e =
      ap (λ (l : List ℕ). length (filter g l)) (between_append a b c h e)
      ∙ ap length (filter_append g (between a b) (between b c))
      ∙ length-append (filter g (between a b)) (filter g (between b c))

  passing_not : (a b : ℕ) → a < b → g a ≡ false → passing a b ≡ passing (a + 1) b
  unfolding filter
  passing_not a b h e = rw (between_cons a b h, e)

few_others : (n i j k : ℕ) → i < j → j < k → k < n → length (others n i j k) + 3 ≤ n
unfolding others
few_others n i j k h g e =
    let t = is_other i j k in
    let a : length (filter t (range n)) ≡ passing t 0 n = ap (λ (l : List ℕ). length (filter t l)) (range_between n) in
    omega (
      arith,
      a,
      passing_split t 0 i n (omega arith) (omega arith),
      passing_le t 0 i,
      passing_not t i n (omega arith) (other_i i j k),
      passing_split t (i + 1) j n (omega arith) (omega arith),
      passing_le t (i + 1) j,
      passing_not t j n (omega arith) (other_j i j k),
      passing_split t (j + 1) k n (omega arith) (omega arith),
      passing_le t (j + 1) k,
      passing_not t k n e (other_k i j k),
      passing_le t (k + 1) n,
    )

module _ (pts : Points) (i j k : ℕ) (f : Plane) where
  pub few_coplanar : i < j → j < k → k < length pts → length (coplanar pts f (others (length pts) i j k)) + 3 ≤ length pts
  unfolding coplanar
  few_coplanar h g e =
      omega (arith, length_filter (λ p. le (neg eps) (height pts f p)) (others (length pts) i j k), few_others (length pts) i j k h g e)

-- ---- numbers that are points'

module _ (f : ℕ → Bool) (n : ℕ) where
  below_from : (a m : ℕ) → a + m ≤ n → every (λ p. ltb p n) (filter f (from a m)) ≡ true
  unfolding from filter every
  below_from a zero h = refl
  below_from a (suc m) h = by (f a) (below_from (suc a) m (omega arith))
    where
      by : (b : Bool) → every (λ p. ltb p n) (filter f (from (suc a) m)) ≡ true
          → every (λ p. ltb p n) (cond b (a ∷ filter f (from (suc a) m)) (filter f (from (suc a) m))) ≡ true
      by true rest = rw (lt-ltb a n (omega arith)) rest
      by false rest = rest

  -- the numbers that are gathered from the first m are below n
  below_range : (m : ℕ) → m ≤ n → every (λ p. ltb p n) (filter f (range m)) ≡ true
  unfolding range
  below_range m h = below_from 0 m (omega arith)

pub below_coplanar : (pts : Points) (i j k : ℕ) (f : Plane) → every (λ p. ltb p (length pts)) (coplanar pts f (others (length pts) i j k)) ≡ true
below_coplanar pts i j k f = rw (← coplanar_range pts i j k f) (below_range (coplanar_at pts i j k f) (length pts) (length pts) (omega arith))

pub below_at : (n : ℕ) (l : List ℕ) (q : ℕ) → every (λ p. ltb p n) l ≡ true → q < length l → get_or l q 0 < n
below_at n l q e h = ltb-true (get_or l q 0) n (every_at (λ p. ltb p n) l q 0 e h)

-- a number more of those that stand behind others
pub map_more : {B : Type 0} (f : ℕ → B) (before l : List ℕ) (q : ℕ) → q < length l → map f (before ++ take (q + 1) l) ≡ map f (before ++ take q l) ++ f (get_or l q 0) ∷ []
map_more f before l q h =
    rw add-one (ap (λ (r : List ℕ). map f (before ++ r)) (take-suc l q 0 h))
    ∙ ap (map f) (sym (append_assoc before (take q l) (get_or l q 0 ∷ [])))
    ∙ map-append f (before ++ take q l) (get_or l q 0 ∷ [])

-- ---- the fan by what the code computed: the basis and the angle of point i

pub fan_told : (pts : Points) (nrm : Vector) (i : ℕ) (ps : List ℕ) {b : Basis} {first : Float} → b ≡ basis_of nrm → first ≡ angle_by b (point pts i)
    → sorted_of (map (λ p. spot_of b first p (point pts p)) ps) ≡ fan pts nrm i ps
unfolding fan angle_in
fan_told pts nrm i ps eb ef = rw (ef, eb) refl

-- ---- the test of the fan, by the numbers l that are gathered

module _ (pts : Points) (i j k : ℕ) (f : Plane) {l : List ℕ} (e : l ≡ coplanar pts f (others (length pts) i j k)) {none : Bool} (en : none ≡ eqb (length l) 0) where
  pub fan_empty : none ≡ true → true ≡ fan_test pts i j k f
  unfolding fan_test in_fan
  fan_empty h = rw (← e, empty_length l, ← en, h) refl

  module _ (h : none ≡ false) {low : Bool} (el : low ≡ every (λ p. ltb i p) l) where
    pub fan_higher : low ≡ false → false ≡ fan_test pts i j k f
    unfolding fan_test in_fan
    fan_higher g = rw (← e, empty_length l, ← en, h, ← el, g) refl

    pub fan_next : {r : Bool} → low ≡ true → r ≡ adjacent j k (fan pts f.nrm i (j ∷ k ∷ l)) → r ≡ fan_test pts i j k f
    unfolding fan_test in_fan
    fan_next g er = rw (← e, empty_length l, ← en, h, ← el, g) er
