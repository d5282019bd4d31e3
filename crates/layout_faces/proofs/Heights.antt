-- Laws of the sides of a plane without a point, looked for from the last point on. A test of every element does not depend on the order in which they are tested. Assumes nothing.
use Prim.Native.Nat.{ℕ, ◌+◌, ◌≤◌, ◌<◌, zero-le}
use mathlib.Core.Path.{◌≡◌, refl, sym, ap, subst, ◌∙◌}
use mathlib.Core.Bool.{Bool, true, false, ◌&&◌, ◌||◌, not, cond}
use mathlib.Core.List.{List, [], ◌∷◌, ◌++◌, append_assoc, append-nil}
use native.Mathlib.Omega.{arith}
use lib.ListN.{length, length-append}
use lib.Ieee.{lt, neg}
use Rattle.lists.specs.Lists.{range, between, filter, every}
use Rattle.lists.proofs.Ranges.{between_none, between_cons, between_append, range_between}
use Rattle.lists.proofs.Collect.{filter_append}
use Rattle.lists.proofs.Tests.{and_false, every_append}
use Rattle.std.proofs.lemmas.List.{get_or_at, length_push}
use Rattle.vector.specs.Vector.{Vector, Points}
use Rattle.layout_faces.specs.Faces.{Plane, eps, point, others, height, all_below, all_above, is_other}
use Rattle.layout_faces.specs.Inner.Steps.{beside_of, sides_of}
use Rattle.layout_faces.specs.declared.Sides.{Sides}

-- an element of the last ones that fails is one of them all
pub every_last : (f g : ℕ → Bool) (p n : ℕ) → p ≤ n → every f (filter g (between p n)) ≡ false → every f (filter g (range n)) ≡ false
every_last f g p n h e =
    let s : filter g (range n) ≡ filter g (between 0 p) ++ filter g (between p n) =
    ap (filter g) (range_between n ∙ between_append 0 p n zero-le h) ∙ filter_append g (between 0 p) (between p n) in
    ap (every f) s ∙ every_append f (filter g (between 0 p)) (filter g (between p n)) ∙ and_false (every f (filter g (between 0 p))) (every f (filter g (between p n))) e

or_left : (a b : Bool) → a || b ≡ false → a ≡ false
or_left true b e = e
or_left false b e = refl

or_right : (a b : Bool) → a || b ≡ false → b ≡ false
or_right true b e = cc
or_right false b e = e

every_step : (f g : ℕ → Bool) (p : ℕ) (r : List ℕ) → every f (filter g (p ∷ r)) ≡ cond (g p) (f p && every f (filter g r)) (every f (filter g r))
unfolding filter every
every_step f g p r = by (g p)
  where
    by : (b : Bool) → every f (cond b (p ∷ filter g r) (filter g r)) ≡ cond b (f p && every f (filter g r)) (every f (filter g r))
    by true = refl
    by false = refl

-- one element that fails
pub every_one : (f g : ℕ → Bool) (p n : ℕ) → p < n → g p ≡ true → f p ≡ false → every f (filter g (range n)) ≡ false
every_one f g p n h o e =
    every_last f g p n (omega arith) (ap (λ (l : List ℕ). every f (filter g l)) (between_cons p n h) ∙ every_step f g p (between (p + 1) n) ∙ rw (o, e) refl)

both : {a b c d : Bool} → a ≡ b → c ≡ d → ◌≡◌ {A = Sides} (record { below = a; above = c }) (record { below = b; above = d })
both e g = cc

module _ (pts : Points) (i j k : ℕ) (f : Plane) where
  abbrev lower : ℕ → Bool
  lower q = not (lt eps (height pts f q))

  abbrev upper : ℕ → Bool
  upper q = not (lt (height pts f q) (neg eps))

  -- the sides that the points from p on leave
  abbrev pub sides_from : ℕ → Sides
  sides_from p = sides_of pts f (filter (is_other i j k) (between p (length pts)))

  pub sides_none : (n : ℕ) → n ≡ length pts → ◌≡◌ {A = Sides} (record { below = true; above = true }) (sides_from n)
  unfolding sides_of all_below all_above filter every
  sides_none n e = rw (between_none n (length pts) (omega arith))

  module _ (p : ℕ) (h : p < length pts) where
    -- a corner of the triple changes nothing
    pub sides_own : is_other i j k p ≡ false → sides_from (p + 1) ≡ sides_from p
    unfolding sides_of all_below all_above
    sides_own e =
        sym (both (rw (between_cons p (length pts) h) (every_step lower (is_other i j k) p (between (p + 1) (length pts)) ∙ rw e refl)) (rw (between_cons p (length pts) h) (every_step upper (is_other i j k) p (between (p + 1) (length pts)) ∙ rw e refl)))

    pub sides_more : is_other i j k p ≡ true → beside_of f (point pts p) (sides_from (p + 1)) ≡ sides_from p
    unfolding sides_of all_below all_above beside_of height
    sides_more e =
        sym (both (rw (between_cons p (length pts) h) (every_step lower (is_other i j k) p (between (p + 1) (length pts)) ∙ rw e refl)) (rw (between_cons p (length pts) h) (every_step upper (is_other i j k) p (between (p + 1) (length pts)) ∙ rw e refl)))

  -- the points before p add nothing where each side has one already
  pub sides_early : (p : ℕ) {s : Sides} → p ≤ length pts → s ≡ sides_from p → s.below || s.above ≡ false → s ≡ sides_of pts f (others (length pts) i j k)
  unfolding sides_of all_below all_above others
  sides_early p {s} h e g =
      let b : s.below ≡ false = or_left s.below s.above g in
      let a : s.above ≡ false = or_right s.below s.above g in
      let b' : every lower (filter (is_other i j k) (between p (length pts))) ≡ false = sym (ap (λ (t : Sides). t.below) e) ∙ b in
      let a' : every upper (filter (is_other i j k) (between p (length pts))) ≡ false = sym (ap (λ (t : Sides). t.above) e) ∙ a in
      e ∙ both (b' ∙ sym (every_last lower (is_other i j k) p (length pts) h b')) (a' ∙ sym (every_last upper (is_other i j k) p (length pts) h a'))

  pub sides_all : sides_from 0 ≡ sides_of pts f (others (length pts) i j k)
  unfolding others
  sides_all = rw (range_between (length pts))

  -- the points that a walk from the last one has left are the first ones, and s is the sides that those behind them leave
  pub record Left (s : Sides) (count : ℕ) (rest : Points) : Type 0 where
    pub zero : count ≡ 0
    pub behind : Points
    pub whole : rest ++ behind ≡ pts
    pub sides : s ≡ sides_from (length rest)

  pub left_first : {n : ℕ} {rest : Points} → n ≡ 0 → rest ≡ pts → Left (record { below = true; above = true }) n rest
  left_first z e = record { zero = z; behind = []; whole = append-nil _ ∙ e; sides = sides_none _ (ap length e) }

  pub left_early : {s : Sides} {n : ℕ} {rest : Points} → Left s n rest → s.below || s.above ≡ false → s ≡ sides_of pts f (others (length pts) i j k)
  left_early {s} {n} {rest} l g = sides_early (length rest) (subst (λ (q : Points). length rest ≤ length q) l.whole (omega (arith, length-append rest l.behind))) l.sides g

  pub left_all : {s : Sides} {n : ℕ} {rest : Points} → Left s n rest → length rest ≡ 0 → s ≡ sides_of pts f (others (length pts) i j k)
  left_all l e = l.sides ∙ ap sides_from e ∙ sides_all

  module _ {s : Sides} {n m p : ℕ} {all : Points} (rest : Points) (x : Vector) (l : Left s n all) (e : all ≡ rest ++ (x ∷ [])) (c : m ≡ n) (at : p ≡ n + length rest) where
    here : length rest ≡ p
    here = omega (arith, at, l.zero)

    more : rest ++ (x ∷ l.behind) ≡ pts
    more = sym (append_assoc rest (x ∷ []) l.behind) ∙ ap (λ (q : Points). q ++ l.behind) (sym e) ∙ l.whole

    inside : length rest < length pts
    inside = subst (λ (q : Points). length rest < length q) more (omega (arith, length-append rest (x ∷ l.behind)))

    longer : length all ≡ length rest + 1
    longer = ap length e ∙ length_push rest x

    found : point pts (length rest) ≡ x
    found = ap (λ (q : Points). point q (length rest)) (sym more) ∙ get_or_at rest x l.behind [] (length rest) refl

    -- a corner of the triple is passed over
    pub left_own : is_other i j k p ≡ false → Left s m rest
    left_own o = record {
      zero = c ∙ l.zero;
      behind = x ∷ l.behind;
      whole = more;
      sides = l.sides ∙ ap sides_from longer ∙ sides_own (length rest) inside (ap (is_other i j k) here ∙ o);
    }

    -- another point is looked at
    pub left_more : is_other i j k p ≡ true → {t : Sides} → t ≡ beside_of f x s → Left t m rest
    left_more o b = record {
      zero = c ∙ l.zero;
      behind = x ∷ l.behind;
      whole = more;
      sides =
          b
          ∙ ap (λ (q : Vector). beside_of f q s) (sym found)
          ∙ ap (beside_of f (point pts (length rest))) (l.sides ∙ ap sides_from longer)
          ∙ sides_more (length rest) inside (ap (is_other i j k) here ∙ o);
    }
