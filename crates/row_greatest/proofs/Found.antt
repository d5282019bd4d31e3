-- The numbers that the greatest does not pass are those that the definition calls greatest; so the first of them stands at the definition's place. Assumes nothing.
use Prim.Native.Nat.{ℕ, ◌≤◌, ◌<◌}
use mathlib.Core.Path.{◌≡◌, refl, sym, ap, ap₂, ◌∙◌}
use mathlib.Core.Bool.{Bool, true, false, ◌&&◌, ◌||◌, not, true≢false}
use mathlib.Core.List.{List}
use mathlib.Core.Logic.{inl, inr, ⊎_elim}
use native.Mathlib.Omega.{arith}
use borrow.Author.Tests.{lt-ltb, le-ltb, ltb-true, ltb-false}
use lib.Dec.{ltb}
use lib.ListN.{length, get_or, take}
use lib.Seq.{get_or-take, length-take-le}
use lib.Ieee.{Float, nan, inf, is_nan, lt}
use Rattle.lists.specs.Lists.{every, position}
use Rattle.lists.proofs.Tests.{and_comm, every_at}
use Rattle.angle_sort.proofs.Angles.{float_lt_self}
use Rattle.row_greatest.specs.Greatest.{is_greatest, first_greatest}
use Rattle.row_greatest.specs.Inner.Steps.{Stands, Top, passed, FirstKept}
use Rattle.angle_sort.proofs.FloatOrder.{lt_over, not_over, high_number, nan_not_above}
use Rattle.row_greatest.proofs.Places.{every_places, position_is, position_none}

-- ---- a number that is passed

pub passed_told : (g x : Float) → passed g x ≡ lt x g || is_nan x
unfolding passed
passed_told g x = refl

-- ---- g is the greatest of l, above −∞

module _ (l : List Float) (g : Float) (t : Top l 0 (length l) g) (high : lt (inf true) g ≡ true) where
  -- its place
  pub stands : Stands l 0 (length l) g
  unfolding lt
  stands = ⊎_elim (λ e. absurd (never e)) (λ s. s) t.held
    where
      never : g ≡ inf true → ⊥
      never e = let z : true ≡ false = sym high ∙ ap (lt (inf true)) e in absurd (true≢false z)

  module _ (x : Float) where
    nan_not : is_nan x ≡ true → is_greatest l x ≡ false
    unfolding is_greatest
    nan_not e = rw (nan_not_above (inf true) x e) refl

    below_not : lt x g ≡ true → is_greatest l x ≡ false
    unfolding is_greatest
    below_not e = by (every (λ y. not (lt x y)) l) refl
      where
        by : (q : Bool) → every (λ y. not (lt x y)) l ≡ q → lt (inf true) x && q ≡ false
        by false p = and_comm (lt (inf true) x) false
        by true p =
            let s = stands in
            let w : not (lt x g) ≡ true = ap (λ (y : Float). not (lt x y)) (sym s.is) ∙ every_at (λ y. not (lt x y)) l s.place nan p s.to in
            let z : false ≡ true = sym (ap not e) ∙ w in cc

    kept_is : is_nan x ≡ false → lt x g ≡ false → is_greatest l x ≡ true
    unfolding is_greatest
    kept_is n k = ap₂ ◌&&◌ (by (lt (inf true) x) refl) (every_places (λ y. not (lt x y)) nan l (λ j h. ap not (not_over x g (get_or l j nan) (high_number g high) k (t.none_above j (omega arith) h))))
      where
        by : (q : Bool) → lt (inf true) x ≡ q → q ≡ true
        by true e = refl
        by false e = let z : false ≡ true = sym (ap₂ ◌||◌ n k) ∙ lt_over (inf true) x g e high in cc

    pub greatest_told : is_greatest l x ≡ not (passed g x)
    greatest_told = by (lt x g) (is_nan x) refl refl ∙ ap not (sym (passed_told g x))
      where
        by : (p q : Bool) → lt x g ≡ p → is_nan x ≡ q → is_greatest l x ≡ not (p || q)
        by true q e f = below_not e
        by false true e f = nan_not f
        by false false e f = kept_is f e

  pub itself_kept : passed g g ≡ false
  itself_kept = passed_told g g ∙ ap₂ ◌||◌ (float_lt_self g) (high_number g high)

  -- the first that is not passed
  module _ (i : ℕ) (k : FirstKept g l (length l) i) where
    pub inside : i < length l
    inside = by (ltb i (length l)) refl
      where
        by : (q : Bool) → ltb i (length l) ≡ q → i < length l
        by true e = ltb-true i (length l) e
        by false e =
            let s = stands in
            let h : length l ≤ i = ltb-false i (length l) e in
            let z : true ≡ false = sym (ap (passed g) (sym s.is) ∙ k.before s.place (omega arith) (omega (arith, s.to))) ∙ itself_kept in absurd (true≢false z)

    pub found : (d : ℕ) → i ≡ first_greatest d l
    unfolding first_greatest
    found d =
        let e : position (is_greatest l) l ≡ i =
        position_is (is_greatest l) nan l i inside (greatest_told (get_or l i nan) ∙ ap not (k.kept inside)) (λ j h. greatest_told (get_or l j nan) ∙ ap not (k.before j (omega arith) h))
        in
        sym (rw (e, lt-ltb i (length l) inside) refl)

-- ---- nothing is above −∞

pub none_high : (l : List Float) (g : Float) → Top l 0 (length l) g → lt (inf true) g ≡ false → (j : ℕ) → j < length l → lt (inf true) (get_or l j nan) ≡ false
none_high l g t low j h =
    ⊎_elim (λ e. ap (λ (x : Float). lt x (get_or l j nan)) (sym e) ∙ t.none_above j (omega arith) h) (λ s. let z : true ≡ false = sym s.high ∙ low in cc) t.held

pub found_none : (d : ℕ) (l : List Float) (g : Float) → Top l 0 (length l) g → lt (inf true) g ≡ false → d ≡ first_greatest d l
unfolding first_greatest is_greatest
found_none d l g t low =
    let e : position (is_greatest l) l ≡ length l = position_none (is_greatest l) nan l (λ j h. rw (none_high l g t low j h) refl) in
    sym (rw (e, le-ltb (length l) (length l) (omega arith)) refl)

-- ---- of the first n numbers of an array

module _ (l : List Float) (n : ℕ) (h : n ≤ length l) where
  same : (j : ℕ) → j < n → get_or (take n l) j nan ≡ get_or l j nan
  same j k = get_or-take n l j nan k

  long : length (take n l) ≡ n
  long = length-take-le n l h

  pub top_take : (g : Float) → Top l 0 n g → Top (take n l) 0 (length (take n l)) g
  top_take g t =
      rw long (record {
        none_above = λ j p q. ap (lt g) (same j q) ∙ t.none_above j p q;
        held = ⊎_elim (λ e. inl e) (λ s. inr (record { place = s.place; from = s.from; to = s.to; is = same s.place s.to ∙ s.is; high = s.high })) t.held;
      })

  pub kept_take : (g : Float) (i : ℕ) → FirstKept g l n i → FirstKept g (take n l) (length (take n l)) i
  kept_take g i k =
      rw long (record {
        within = k.within;
        before = λ j p q. ap (passed g) (same j (let w = k.within in omega arith)) ∙ k.before j p q;
        kept = λ q. ap (passed g) (same i q) ∙ k.kept q;
      })
