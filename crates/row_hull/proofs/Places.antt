-- Laws of the loops over places: an entry of an inverse, a list filled from the front, scaled from the front, summed from the front. Each goes place by place. Assumes nothing.
use Prim.Native.Nat.{ℕ, ◌+◌, ◌*◌, ◌≤◌, ◌<◌}
use mathlib.Core.Bool.{Bool, true, false, ◌||◌}
use mathlib.Core.Path.{◌≡◌, refl, sym, ap, ◌∙◌, subst}
use mathlib.Core.List.{List, [], ◌∷◌, map}
use native.Mathlib.Nat.{add-zero}
use native.Mathlib.Numerals.{add-one}
use native.Mathlib.Omega.{arith}
use lib.ListN.{length, get_or, set, take, get_or-eq_default}
use lib.Seq.{take-suc-set, set_out}
use lib.Dec.{T}
use lib.Ieee.{Float, nan, binary32, div, lt, ne}
use lib.Ieee.Compare.{differs_from_itself}
use Rattle.std.proofs.lemmas.List.{get_or_default}
use Rattle.lists.specs.Lists.{range, part}
use Rattle.lists.proofs.Parts.{get_d_part}
use Rattle.lists.proofs.Ranges.{range_none, get_d_map_range, map_range_snoc}
use Rattle.float_order.specs.Values.{1·0}
use Rattle.float_root.specs.Root.{sqrt_of}
use Rattle.float_order.specs.Order.{min_of}
use Rattle.float_order.proofs.Order.{min_first_nan, min_second_nan, min_second, min_first}
use Rattle.vector.specs.Vector.{Vector, dot_in}
use Rattle.row_hull.specs.HullRow.{least_row_power}
use Rattle.row_greatest.specs.Greatest.{first_greatest}
use Rattle.row_hull.specs.HullRow.{scaled}
use Rattle.row_hull.specs.Inner.Steps.{inverse_at, gain_at, gains_at, least_at, products_of, nearest_in, power_of, times_of}

-- ---- a row of an inverse, three entries 80 apart

entry : (inv : List Float) (t r j at : ℕ) → r < 3 → j < 3 → at ≡ r * 240 + t + j * 80 → get_or (part 3 (inverse_at inv t) r) j nan ≡ get_or inv at nan
unfolding inverse_at
entry inv t r j at hr hj e =
    let p : (r * 3 + j) * 80 + t ≡ at = omega arith in
    let q : r * 3 + j < 9 = omega arith in
    get_d_part 3 (inverse_at inv t) r j nan hj
    ∙ get_d_map_range (λ i. get_or inv (i * 80 + t) nan) 9 (r * 3 + j) nan q
    ∙ ap (λ (i : ℕ). get_or inv i nan) p

pub gain_told : (s : Vector) (inv : List Float) (t r : ℕ) → r < 3
    → dot_in binary32 (get_or inv (r * 240 + t) nan ∷ get_or inv (r * 240 + t + 80) nan ∷ get_or inv (r * 240 + t + 160) nan ∷ []) s ≡ gain_at s inv t r
unfolding gain_at dot_in
gain_told s inv t r h =
    rw (
      entry inv t r 0 (r * 240 + t) h (omega arith) (omega arith),
      entry inv t r 1 (r * 240 + t + 80) h (omega arith) (omega arith),
      entry inv t r 2 (r * 240 + t + 160) h (omega arith) (omega arith),
    )
    refl

-- the least of the three
pub least_told : (s : Vector) (inv : List Float) (t : ℕ) {g : List Float} {m : Float} → g ≡ gains_at s inv t → m ≡ min_of (min_of (get_or g 0 nan) (get_or g 1 nan)) (get_or g 2 nan) → m ≡ least_at s inv t
unfolding least_at
least_told s inv t e f = rw e at f

-- a point of a flat array, three numbers a point
pub product_told : (s : Vector) (dirs : List Float) (i : ℕ)
    → dot_in binary32 (get_or dirs (i * 3) nan ∷ get_or dirs (i * 3 + 1) nan ∷ get_or dirs (i * 3 + 2) nan ∷ []) s ≡ dot_in binary32 (part 3 dirs i) s
unfolding dot_in
product_told s dirs i =
    let e : get_or (part 3 dirs i) 0 nan ≡ get_or dirs (i * 3) nan = get_d_part 3 dirs i 0 nan (omega arith) ∙ ap (λ (k : ℕ). get_or dirs k nan) (add-zero (i * 3)) in
    rw (e, get_d_part 3 dirs i 1 nan (omega arith), get_d_part 3 dirs i 2 nan (omega arith)) refl

-- ---- an array that takes the numbers f 0, f 1, .. one after the other

module _ {A : Type 0} (f : ℕ → A) (m : List A) where
  pub mapped_none : take 0 m ≡ map f (range 0)
  mapped_none = sym (ap (map f) range_none)

  pub mapped_more : (t : ℕ) (v : A) → t < length m → take t m ≡ map f (range t) → v ≡ f t → take (t + 1) (set m t v) ≡ map f (range (t + 1))
  mapped_more t v h e g = rw (add-one, take-suc-set m t v h, e, g, ← add-one) (sym (map_range_snoc f t))

-- ---- the lesser of two numbers, by one test

module _ (a b : Float) where
  nan_below : ne b b ≡ true → lt b a ≡ false
  unfolding lt
  nan_below e = ap (λ (x : Float). lt x a) (differs_from_itself b (subst T (sym e) tt))

  pub lesser_second : lt b a || ne a a ≡ true → b ≡ min_of a b
  lesser_second h = by (ne a a) (ne b b) (lt b a) refl refl refl h
    where
      by : (p q r : Bool) → ne a a ≡ p → ne b b ≡ q → lt b a ≡ r → r || p ≡ true → b ≡ min_of a b
      by true q r x y z h = min_first_nan a b x
      by false true true x y z h = let w : true ≡ false = sym z ∙ nan_below y in cc
      by false true false x y z h = cc
      by false false true x y z h = min_second a b x y z
      by false false false x y z h = cc

  pub lesser_first : lt b a || ne a a ≡ false → a ≡ min_of a b
  lesser_first h = by (ne a a) (ne b b) (lt b a) refl refl refl h
    where
      by : (p q r : Bool) → ne a a ≡ p → ne b b ≡ q → lt b a ≡ r → r || p ≡ false → a ≡ min_of a b
      by true q true x y z h = cc
      by true q false x y z h = cc
      by false q true x y z h = cc
      by false true false x y z h = min_second_nan a b x y
      by false false false x y z h = min_first a b x y z

-- ---- the slot of the nearest point

module _ (s : Vector) (slots : List ℕ) (dirs : List Float) (n i : ℕ) (row : List Float) (e : i ≡ first_greatest 0 (products_of s dirs n)) where
  at_place : nearest_in s slots dirs n row ≡ set row (get_or (take n slots) i (length row)) 1·0
  unfolding nearest_in
  at_place = rw e refl

  pub nearest_set : i < length (take n slots) → set row (get_or (take n slots) i 0) 1·0 ≡ nearest_in s slots dirs n row
  nearest_set k = sym (at_place ∙ ap (λ (o : ℕ). set row o 1·0) (get_or_default (take n slots) i (length row) 0 k))

  pub nearest_none : length (take n slots) ≤ i → row ≡ nearest_in s slots dirs n row
  nearest_none k = sym (at_place ∙ ap (λ (o : ℕ). set row o 1·0) (get_or-eq_default (take n slots) (length row) {n = i} k) ∙ set_out row (length row) 1·0 (omega arith))

-- ---- to power 1

module _ (row : List Float) where
  pub scaled_yes : (x : Float) → x ≡ div binary32 1·0 (sqrt_of binary32 (power_of row)) → lt least_row_power (power_of row) ≡ true → times_of x row ≡ scaled row
  unfolding scaled
  scaled_yes x e t = rw (t, e) refl

  pub scaled_no : lt least_row_power (power_of row) ≡ false → row ≡ scaled row
  unfolding scaled
  scaled_no t = rw t refl
