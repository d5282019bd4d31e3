-- Laws of the closing loop: what is left to do from the present points gives the same as from the start. Assumes nothing.
use Prim.Native.Nat.{ℕ, zero, suc, ◌+◌, ◌-◌, ◌≤◌, ◌<◌}
use mathlib.Core.Path.{◌≡◌, refl, sym, ap, ◌∙◌}
use mathlib.Core.Bool.{Bool, true, false, ◌||◌}
use mathlib.Core.List.{List, [], ◌∷◌, ◌++◌}
use mathlib.Core.Option.{Option, none, some}
use native.Mathlib.Omega.{arith}
use lib.Dec.{ltb}
use lib.ListN.{length, take}
use lib.Seq.{length-take-le}
use Rattle.std.proofs.Common.{None, Some}
use Rattle.lists.specs.Lists.{last, any}
use Rattle.lists.proofs.Tests.{or_assoc, or_false}
use Rattle.vector.specs.Vector.{Vector, Points}
use Rattle.layout_hull.specs.Triplets.{triplets_of, closed}
use Rattle.layout_hull.specs.Inner.Flat.{hull_of}
use Rattle.layout_hull.specs.declared.Hull.{Hull}
use Rattle.layout_closing.specs.Closing.{candidate_of, onward, closing, with_poles, stages, final_points, overfull}
use Rattle.layout_closing.specs.Inner.Flat.{best_in, ended_in}
use Rattle.layout_closing.specs.declared.Best.{Best}
use Rattle.layout_closing.specs.declared.Ended.{Ended}

-- ---- the lists after the first

unfoldable pub after : ℕ → Points → List Points
after zero pts = []
after (suc n) pts = elim (closed pts) [ true ↦ [] | false ↦ onward (closing n) pts (candidate_of pts) ]

pub closing_after : (n : ℕ) (pts : Points) → closing n pts ≡ pts ∷ after n pts
unfolding closing after
closing_after zero pts = refl
closing_after (suc n) pts = refl

module _ (pts : Points) where
  pub after_closed : (n : ℕ) → closed pts ≡ true → after n pts ≡ []
  unfolding after
  after_closed zero e = refl
  after_closed (suc n) e = ap (λ (b : Bool). elim b [ true ↦ [] | false ↦ onward (closing n) pts (candidate_of pts) ]) e

  pub after_none : (n : ℕ) → closed pts ≡ false → candidate_of pts ≡ none → after n pts ≡ []
  unfolding after
  after_none zero g e = refl
  after_none (suc n) g e = ap (λ (b : Bool). elim b [ true ↦ [] | false ↦ onward (closing n) pts (candidate_of pts) ]) g ∙ ap (onward (closing n) pts) e

  pub after_more : (n : ℕ) (c : Vector) → closed pts ≡ false → candidate_of pts ≡ some c → after (suc n) pts ≡ (pts ++ c ∷ []) ∷ after n (pts ++ c ∷ [])
  unfolding after
  after_more n c g e =
      ap (λ (b : Bool). elim b [ true ↦ [] | false ↦ onward (closing n) pts (candidate_of pts) ]) g ∙ ap (onward (closing n) pts) e ∙ closing_after n (pts ++ c ∷ [])

-- ---- the candidate, by what is held of it

module _ (pts : Points) where
  best_some : (o : Option Vector) {b : Best} → Some b ≡ best_in pts o → o ≡ some b.c
  unfolding best_in
  best_some none e = cc
  best_some (some v) e = cc

  best_none : (o : Option Vector) → None ≡ best_in pts o → o ≡ none
  unfolding best_in
  best_none none e = refl
  best_none (some v) e = cc

-- ---- the loop

abbrev over80 : Points → Bool
over80 pts = ltb 80 (length (triplets_of pts))

hull_over : (pts : Points) {h : Hull} → h ≡ hull_of pts → h.over ≡ over80 pts
unfolding hull_of
hull_over pts e = ap (λ (x : Hull). x.over) e

hull_closed : (pts : Points) {h : Hull} → h ≡ hull_of pts → h.enclosed ≡ closed pts
unfolding hull_of
hull_closed pts e = ap (λ (x : Hull). x.enclosed) e

-- the first m of a are the points, of which the first n are real
pub record Left (real : Points) (n : ℕ) (a : Points) (m : ℕ) (h : Hull) (over : Bool) : Type 0 where
  pub long : length a ≡ 54
  pub real_few : n ≤ 40
  pub from : n ≤ m
  pub few : m ≤ n + 14
  pub hull : h ≡ hull_of (take m a)
  pub end : last (after (14 - (m - n)) (take m a)) (take m a) ≡ final_points real
  pub full : over || any over80 (after (14 - (m - n)) (take m a)) ≡ overfull real

module _ (real : Points) {n m : ℕ} (a : Points) {h : Hull} (r : length real ≡ n) (l : length a ≡ 54) (f : n ≤ 40) (low : n ≤ m) (high : m ≤ n + 2) (w : take m a ≡ with_poles real) (e : h ≡ hull_of (take m a)) where
  begins : stages real ≡ take m a ∷ after (14 - (m - n)) (take m a)
  unfolding stages
  begins =
      let k : length (with_poles real) ≡ m = ap length (sym w) ∙ length-take-le m a (omega arith) in
      let f : 14 - (length (with_poles real) - length real) ≡ 14 - (m - n) = omega arith in
      ap (λ (i : ℕ). closing i (with_poles real)) f ∙ ap (closing (14 - (m - n))) (sym w) ∙ closing_after (14 - (m - n)) (take m a)

  pub left_start : Left real n a m h h.over
  unfolding final_points overfull last any
  left_start = record {
    long = l;
    real_few = f;
    from = low;
    few = omega arith;
    hull = e;
    end = sym (ap (λ (s : List Points). last s []) begins);
    full = ap (λ (t : Bool). t || any over80 (after (14 - (m - n)) (take m a))) (hull_over (take m a) e) ∙ sym (ap (any over80) begins);
  }

module _ {real : Points} {n : ℕ} {a : Points} {m : ℕ} {h : Hull} {over : Bool} (s : Left real n a m h over) where
  -- a candidate more
  module _ {best : Best} (few : m - n < 14) (unclosed : h.enclosed ≡ false) (e : Some best ≡ best_in (take m a) (candidate_of (take m a)))
      (new : Points) (l : length new ≡ 54) (w : take (m + 1) new ≡ take m a ++ best.c ∷ []) {k : Hull} (o : k ≡ hull_of (take (m + 1) new)) where
    next : after (14 - (m - n)) (take m a) ≡ take (m + 1) new ∷ after (14 - (m + 1 - n)) (take (m + 1) new)
    next =
        let f : 14 - (m - n) ≡ suc (14 - (m + 1 - n)) = omega (arith, s.from) in
        ap (λ (i : ℕ). after i (take m a)) f
        ∙ after_more (take m a) (14 - (m + 1 - n)) best.c (sym (hull_closed (take m a) s.hull) ∙ unclosed) (best_some (take m a) (candidate_of (take m a)) e)
        ∙ ap (λ (q : Points). q ∷ after (14 - (m + 1 - n)) q) (sym w)

    pub left_turn : Left real n new (m + 1) k (over || k.over)
    unfolding last any
    left_turn = record {
      long = l;
      real_few = s.real_few;
      from = omega (arith, s.from);
      few = omega (arith, s.from);
      hull = o;
      end = sym (ap (λ (t : List Points). last t (take m a)) next) ∙ s.end;
      full =
          ap (λ (t : Bool). over || t || any over80 (after (14 - (m + 1 - n)) (take (m + 1) new))) (hull_over (take (m + 1) new) o)
          ∙ or_assoc over (over80 (take (m + 1) new)) (any over80 (after (14 - (m + 1 - n)) (take (m + 1) new)))
          ∙ sym (ap (λ (t : List Points). over || any over80 t) next)
          ∙ s.full;
    }

  -- nothing is left to do
  left_done : length real ≡ n → after (14 - (m - n)) (take m a) ≡ [] → record { imag = m - n; hull = h; over = over } ≡ ended_in real
  unfolding ended_in last any
  left_done r e =
      let f : take m a ≡ final_points real = sym (ap (λ (t : List Points). last t (take m a)) e) ∙ s.end in
      let i : m - n ≡ length (final_points real) - length real = omega (arith, ap length f, length-take-le m a (omega (arith, s.long, s.real_few, s.few))) in
      let v : over ≡ overfull real = sym (or_false over) ∙ sym (ap (λ (t : List Points). over || any over80 t) e) ∙ s.full in
      let u : h ≡ hull_of (final_points real) = s.hull ∙ ap hull_of f in
      parts i u v
    where
      parts : {i j : ℕ} {a b : Hull} {v w : Bool} → i ≡ j → a ≡ b → v ≡ w → ◌≡◌ {A = Ended} (record { imag = i; hull = a; over = v }) (record { imag = j; hull = b; over = w })
      parts e g f = rw (e, g, f)

  pub done_full : length real ≡ n → 14 ≤ m - n → record { imag = m - n; hull = h; over = over } ≡ ended_in real
  unfolding after
  done_full r g = let e : 14 - (m - n) ≡ 0 = omega arith in left_done r (ap (λ (i : ℕ). after i (take m a)) e)

  pub done_closed : length real ≡ n → h.enclosed ≡ true → record { imag = m - n; hull = h; over = over } ≡ ended_in real
  done_closed r g = left_done r (after_closed (take m a) (14 - (m - n)) (sym (hull_closed (take m a) s.hull) ∙ g))

  pub done_none : length real ≡ n → h.enclosed ≡ false → None ≡ best_in (take m a) (candidate_of (take m a)) → record { imag = m - n; hull = h; over = over } ≡ ended_in real
  done_none r o e = left_done r (after_none (take m a) (14 - (m - n)) (sym (hull_closed (take m a) s.hull) ∙ o) (best_none (take m a) (candidate_of (take m a)) e))
