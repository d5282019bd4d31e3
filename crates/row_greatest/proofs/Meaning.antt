-- The meaning of the choice: the greatest number does not pass itself and passes the earlier ones. Assumes nothing.
use Prim.Native.Nat.{ℕ, zero, suc, ◌≤◌, ◌<◌}
use mathlib.Core.Path.{◌≡◌, refl, sym, ap, ◌∙◌, subst}
use mathlib.Core.Bool.{Bool, true, false, ◌||◌, not, cond, true≢false}
use mathlib.Core.List.{List}
use mathlib.Core.Logic.{◌⊎◌, inl, inr}
use native.Mathlib.Numerals.{add-one}
use native.Mathlib.Omega.{arith}
use borrow.Author.Tests.{lt-ltb, ltb-true, ltb-false, not-true, not-false}
use lib.Dec.{ltb}
use lib.ListN.{length, get_or, take}
use lib.Seq.{get_or-take, length-take-le}
use lib.Ieee.{Float, nan, inf, is_nan, lt}
use Rattle.lists.specs.Lists.{every, position}
use Rattle.lists.proofs.Tests.{and_left, and_right}
use Rattle.row_greatest.specs.Greatest.{is_greatest, first_greatest}
use Rattle.row_greatest.specs.Inner.Steps.{greater_of, Top, passed}
use Rattle.row_greatest.specs.Meaning.{Chosen, NoneHigh, FirstGreatestChosen}
use Rattle.angle_sort.proofs.FloatOrder.{lt_over}
use Rattle.row_greatest.proofs.Places.{every_places, position_at, position_before}
use Rattle.row_greatest.proofs.Tops.{top_none, top_more}
use Rattle.row_greatest.proofs.Found.{passed_told, stands, itself_kept, greatest_told, none_high, found_none}

-- every list has a greatest number
top_to : List Float → ℕ → Float
top_to l zero = inf true
top_to l (suc n) = greater_of (top_to l n) (get_or l n nan)

top_to_lem : (l : List Float) (n : ℕ) → Top l 0 n (top_to l n)
unfolding top_to
top_to_lem l zero = top_none l 0
top_to_lem l (suc n) = subst (λ (k : ℕ). Top l 0 k (top_to l (suc n))) (add-one n) (top_more l 0 n (top_to l n) (omega arith) (top_to_lem l n))

module _ (l : List Float) (g : Float) (t : Top l 0 (length l) g) (high : lt (inf true) g ≡ true) where
  place : ℕ
  place = position (is_greatest l) l

  -- the greatest number itself is not passed
  inside : place < length l
  unfolding place
  inside = by (ltb place (length l)) refl
    where
      by : (q : Bool) → ltb place (length l) ≡ q → place < length l
      by true e = ltb-true place (length l) e
      by false e =
          let s = stands l g t high in
          let h : length l ≤ place = ltb-false place (length l) e in
          let w : is_greatest l g ≡ false = ap (is_greatest l) (sym s.is) ∙ position_before (is_greatest l) nan l s.place (omega (arith, s.to)) in
          let z : true ≡ false = sym (greatest_told l g t high g ∙ ap not (itself_kept l g t high)) ∙ w in absurd (true≢false z)

  -- it is not passed, and those before are
  kept : passed g (get_or l place nan) ≡ false
  unfolding place
  kept = not-true _ (sym (greatest_told l g t high (get_or l place nan)) ∙ position_at (is_greatest l) nan l inside)

  before : (j : ℕ) → j < place → passed g (get_or l j nan) ≡ true
  unfolding place
  before j h = not-false _ (sym (greatest_told l g t high (get_or l j nan)) ∙ position_before (is_greatest l) nan l j h)

  kept_told : (x : Float) → passed g x ≡ false → is_nan x || lt x g ≡ false
  kept_told x k = by (lt x g) (is_nan x) (sym (passed_told g x) ∙ k)
    where
      by : (a b : Bool) → a || b ≡ false → b || a ≡ false
      by true b e = cc
      by false true e = e
      by false false e = refl

  -- what is passed is below what is not
  below : (x y : Float) → passed g x ≡ false → passed g y ≡ true → is_nan y || lt y x ≡ true
  below x y k p = by (is_nan y) (lt y g) (lt y x) refl refl refl (sym (passed_told g y) ∙ p)
    where
      by : (a b c : Bool) → is_nan y ≡ a → lt y g ≡ b → lt y x ≡ c → b || a ≡ true → a || c ≡ true
      by true b c e f h o = refl
      by false b true e f h o = refl
      by false true false e f h o = let z : true ≡ false = sym (lt_over y x g h f) ∙ kept_told x k in cc
      by false false false e f h o = o

  chosen : Chosen l place
  unfolding place is_greatest
  chosen =
      let x = get_or l place nan in
      let q = position_at (is_greatest l) nan l inside in
      let w : length (take place l) ≡ place = length-take-le place l (let i = inside in omega arith) in
      record {
        within = inside;
        high = and_left (lt (inf true) x) (every (λ y. not (lt x y)) l) q;
        none_above = and_right (lt (inf true) x) (every (λ y. not (lt x y)) l) q;
        above_earlier = every_places (λ y. is_nan y || lt y x) nan (take place l) (λ j h. let i : j < place = omega arith in ap (λ (y : Float). is_nan y || lt y x) (get_or-take place l j nan i) ∙ below x (get_or l j nan) kept (before j i));
      }

pub first_greatest_chosen : FirstGreatestChosen
unfolding first_greatest place
first_greatest_chosen d l = by (top_to l (length l)) (top_to_lem l (length l)) (lt (inf true) (top_to l (length l))) refl
  where
    by : (g : Float) → Top l 0 (length l) g → (q : Bool) → lt (inf true) g ≡ q → Chosen l (first_greatest d l) ⊎ NoneHigh d l (first_greatest d l)
    by g t true e = inl (subst (Chosen l) (sym (ap (λ (b : Bool). cond b (position (is_greatest l) l) d) (lt-ltb (position (is_greatest l) l) (length l) (inside l g t e)))) (chosen l g t e))
    by g t false e = inr (record { is = sym (found_none d l g t e); none_high = every_places (λ x. not (lt (inf true) x)) nan l (λ j h. ap not (none_high l g t e j h)) })
