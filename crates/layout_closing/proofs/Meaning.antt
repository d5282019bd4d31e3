-- The statements of specs/Meaning.antt. The candidate by one candidate more at a time, the stages by one point more at a time. Assumes nothing.
use Prim.Native.Nat.{ℕ, zero, suc, ◌+◌, ◌-◌, ◌≤◌}
use mathlib.Core.Path.{◌≡◌, refl, sym, ap, subst, ◌∙◌}
use mathlib.Core.Bool.{Bool, true, false, not, ◌&&◌, ◌||◌, cond, true≢false}
use mathlib.Core.List.{List, [], ◌∷◌, ◌++◌, map, foldl, foldl-append, append_assoc, append-nil}
use mathlib.Core.Option.{Option, none, some}
use native.Mathlib.Nat.{add-zero}
use native.Mathlib.Omega.{arith}
use borrow.Author.Tests.{not-true}
use lib.Count.{count_trailing_zeros}
use lib.Dec.{T, leb, lit<}
use lib.Ieee.{Float, inf, binary64, of_bits, of_fields, odd, units, round, size, span, climb, neg, sum, add, sub, mul, div, lt, eq, is_nan, fits}
use lib.Ieee.Fits.{inf-fits, add-fits}
use lib.ListN.{length, length-append}
use Rattle.lists.specs.Lists.{every, any, last, is_empty}
use Rattle.lists.proofs.Collect.{foldl_snoc}
use Rattle.lists.proofs.Tests.{or_false, or_true, both, and_both, and_false, every_append, every_snoc, every_more}
use Rattle.float_root.specs.Root.{sqrt_of, round_root, whole_root, root_by, grow}
use Rattle.vector.specs.Limits.{max_imaginary}
use Rattle.vector.specs.Vector.{Vector, Points, dot_in, dot_of}
use Rattle.angle_sort.proofs.Angles.{float_lt_asym}
use Rattle.angle_sort.proofs.FloatOrder.{lt_over}
use Rattle.float_bounds.proofs.Units.{Val, units_of}
use Rattle.float_bounds.proofs.Order.{max_fits}
use Rattle.layout_hull.specs.Triplets.{Triplet, opens, verdicts, triplets_of, closed}
use Rattle.float_order.specs.Values.{+0, 1·0}
use Rattle.float_order.specs.Order.{max_of}
use Rattle.layout_closing.specs.Closing.{−1, nearest_product, passed_over, least_lead, wins, better, candidates, candidate_of, with_pole, with_poles, stages, final_points}
use Rattle.layout_closing.specs.Meaning.{Origins, unbeaten, Chosen, first_free, wins_over, Least, Candidate, Extends, Chain, Ends, closes, full, none_more, Stages, Behind, Imaginary}
use Rattle.layout_closing.proofs.Candidates.{pole_there, pole_new, better_stays, better_takes}
use Rattle.layout_closing.proofs.Lowered.{lowered}
use Rattle.layout_closing.proofs.Stages.{after, closing_after, after_closed, after_none, after_more}

pub origins : Origins
unfolding of_bits of_fields odd units round size span climb neg sum add sub mul div sqrt_of round_root whole_root root_by grow count_trailing_zeros
origins = record { there = refl; diagonal = refl }

-- ---- the candidate

or_parts : (a b : Bool) → not a && b ≡ false → a || not b ≡ true
or_parts true b e = refl
or_parts false true e = absurd (true≢false e)
or_parts false false e = refl

parts_or : (a b : Bool) → a || not b ≡ true → not a && b ≡ false
parts_or true b e = refl
parts_or false true e = absurd (true≢false (sym e))
parts_or false false e = refl

-- a, or else what follows from it
under : (a b d : Bool) → (b ≡ false → d ≡ true) → a || not b ≡ true → a || d ≡ true
under true b d k e = refl
under false true d k e = absurd (true≢false (sym e))
under false false d k e = k refl

over : (a b d : Bool) → (b ≡ true → d ≡ false) → a || b ≡ true → a || not d ≡ true
over true b d k e = refl
over false true d k e = ap not (k refl)
over false false d k e = absurd (true≢false (sym e))

-- ---- the order of the products

pub nearest_fits : (pts : Points) (c : Vector) → T (fits binary64 (nearest_product pts c))
unfolding nearest_product dot_of dot_in fits
nearest_fits pts c = go pts (inf true) (inf-fits binary64 true)
  where
    go : (l : Points) (g : Float) → T (fits binary64 g) → T (fits binary64 (foldl max_of g (map (λ p. dot_of p c) l)))
    go [] g h = h
    go (p ∷ l) g h = go l (max_of g (dot_of p c)) (max_fits binary64 g (dot_of p c) h (add-fits binary64 _ _) tt)

max_number : (x y : Float) → is_nan x ≡ false → is_nan (max_of x y) ≡ false
unfolding max_of is_nan
max_number x y h = ap (λ (t : Bool). is_nan (cond t y (cond (is_nan y) x (cond (eq x +0 && eq y +0) +0 (cond (lt x y) y x))))) h ∙ by (is_nan y) refl (eq x +0 && eq y +0) (lt x y)
  where
    by : (a : Bool) → is_nan y ≡ a → (b d : Bool) → is_nan (cond a x (cond b +0 (cond d y x))) ≡ false
    by true e b d = h
    by false e true d = refl
    by false e false true = e
    by false e false false = h

nearest_number : (pts : Points) (c : Vector) → is_nan (nearest_product pts c) ≡ false
unfolding nearest_product is_nan
nearest_number pts c = go pts (inf true) refl
  where
    go : (l : Points) (g : Float) → is_nan g ≡ false → is_nan (foldl max_of g (map (λ p. dot_of p c) l)) ≡ false
    go [] g h = h
    go (p ∷ l) g h = go l (max_of g (dot_of p c)) (max_number g (dot_of p c) h)

lead_val : Val binary64 least_lead false (units_of binary64 least_lead)
unfolding of_bits
lead_val = record { has = (refl, refl) }

module _ (pts : Points) where
  -- what is below something that d is not below is below d
  lower : (c d : Vector) (s : Float) → lt (nearest_product pts d) s ≡ false → lt (nearest_product pts c) s ≡ true → lt (nearest_product pts c) (nearest_product pts d) ≡ true
  lower c d s h k = by (lt (nearest_product pts c) (nearest_product pts d)) refl
    where
      by : (b : Bool) → lt (nearest_product pts c) (nearest_product pts d) ≡ b → b ≡ true
      by true e = refl
      by false e =
          let z : is_nan (nearest_product pts d) || lt (nearest_product pts d) s ≡ true = lt_over (nearest_product pts c) (nearest_product pts d) s e k in
          let w : is_nan (nearest_product pts d) || lt (nearest_product pts d) s ≡ false = rw (nearest_number pts d, h) refl in
          sym w ∙ z

  wins_not_self : (c : Vector) → wins pts c (some c) ≡ false
  unfolding wins of_bits
  wins_not_self c = lowered (nearest_product pts c) least_lead (nearest_fits pts c) lead_val (lit< tt)

  -- what is above c does not win over it
  above_loses : (c d : Vector) → lt (nearest_product pts c) (nearest_product pts d) ≡ true → wins pts d (some c) ≡ false
  unfolding wins
  above_loses c d h = by (wins pts d (some c)) refl
    where
      by : (b : Bool) → wins pts d (some c) ≡ b → b ≡ false
      by false e = refl
      by true e = let l : lt (nearest_product pts d) (nearest_product pts c) ≡ true = lower d c (sub binary64 (nearest_product pts c) least_lead) (wins_not_self c) e in sym l ∙ float_lt_asym (nearest_product pts c) (nearest_product pts d) h

  -- c wins over b, which d does not win over
  wins_lower : (b c d : Vector) → wins pts c (some b) ≡ true → wins pts d (some b) ≡ false → lt (nearest_product pts c) (nearest_product pts d) ≡ true
  unfolding wins
  wins_lower b c d h k = lower c d (sub binary64 (nearest_product pts b) least_lead) k h

  -- ---- the choice

  unbeaten_snoc : (l : Points) (c d : Vector) → unbeaten pts l c ≡ true → not (passed_over pts d) && wins pts d (some c) ≡ false → unbeaten pts (l ++ d ∷ []) c ≡ true
  unfolding unbeaten
  unbeaten_snoc l c d h e = every_snoc (λ q. passed_over pts q || not (wins pts q (some c))) l d ∙ and_both h (or_parts (passed_over pts d) (wins pts d (some c)) e)

  unbeaten_none : (c : Vector) → unbeaten pts [] c ≡ true
  unfolding unbeaten every
  unbeaten_none c = refl

  keeps : {l : Points} {c : Vector} (d : Vector) → Chosen pts l c → not (passed_over pts d) && wins pts d (some c) ≡ false → Chosen pts (l ++ d ∷ []) c
  keeps {l} {c} d (first_free p q e h f u) g =
      first_free p (q ++ d ∷ []) (ap (λ (x : Points). x ++ d ∷ []) e ∙ append_assoc p (c ∷ q) (d ∷ [])) h f (unbeaten_snoc q c d u g)
  keeps {l} {c} d (wins_over p q e i f w u) g =
      wins_over p (q ++ d ∷ []) (ap (λ (x : Points). x ++ d ∷ []) e ∙ append_assoc p (c ∷ q) (d ∷ [])) i f w (unbeaten_snoc q c d u g)

  -- the best of a list is chosen of it
  record Best-of (l : Points) : Type 0 where
    chosen : (c : Vector) → foldl (better pts) none l ≡ some c → Chosen pts l c
    none_left : foldl (better pts) none l ≡ none → every (passed_over pts) l ≡ true

  module _ (l : Points) (d : Vector) where
    one_more : Best-of l → Best-of (l ++ d ∷ [])
    unfolding wins
    one_more b = by (foldl (better pts) none l) refl (not (passed_over pts d) && wins pts d (foldl (better pts) none l)) refl
      where
        same : (o : Option Vector) (t : Bool) → foldl (better pts) none l ≡ o → not (passed_over pts d) && wins pts d (foldl (better pts) none l) ≡ t → not (passed_over pts d) && wins pts d o ≡ t
        same o t e g = ap (λ (x : Option Vector). not (passed_over pts d) && wins pts d x) (sym e) ∙ g

        taken : not (passed_over pts d) && wins pts d (foldl (better pts) none l) ≡ true → Chosen pts (l ++ d ∷ []) d → Best-of (l ++ d ∷ [])
        taken g i =
            let f : foldl (better pts) none (l ++ d ∷ []) ≡ some d = foldl_snoc (better pts) none l d ∙ better_takes pts d (foldl (better pts) none l) g in
            record {
              chosen = λ c h. let p : d ≡ c = cc in subst (Chosen pts (l ++ d ∷ [])) p i;
              none_left = λ h. let z : ◌≡◌ {A = ℕ} 0 1 = cc in absurd (omega arith);
            }

        by : (o : Option Vector) → foldl (better pts) none l ≡ o → (t : Bool) → not (passed_over pts d) && wins pts d (foldl (better pts) none l) ≡ t → Best-of (l ++ d ∷ [])
        by none e true g = taken g (first_free l [] refl (b.none_left e) (not-true (passed_over pts d) (both (not (passed_over pts d)) _ g).0) (unbeaten_none d))
        by (some v) e true g =
            let p = both (not (passed_over pts d)) (wins pts d (some v)) (same (some v) true e g) in
            taken g (wins_over l [] refl (b.chosen v e) (not-true (passed_over pts d) p.0) p.1 (unbeaten_none d))
        by none e false g =
            let f : foldl (better pts) none (l ++ d ∷ []) ≡ none = foldl_snoc (better pts) none l d ∙ better_stays pts d (foldl (better pts) none l) g ∙ e in
            let p : passed_over pts d || not (wins pts d none) ≡ true = or_parts (passed_over pts d) (wins pts d none) (same none false e g) in
            record {
              chosen = λ c h. let z : ◌≡◌ {A = ℕ} 0 1 = cc in absurd (omega arith);
              none_left = λ h. every_snoc (passed_over pts) l d ∙ and_both (b.none_left e) (sym (or_false (passed_over pts d)) ∙ p);
            }
        by (some v) e false g =
            let f : foldl (better pts) none (l ++ d ∷ []) ≡ some v = foldl_snoc (better pts) none l d ∙ better_stays pts d (foldl (better pts) none l) g ∙ e in
            record {
              chosen = λ c h. let p : v ≡ c = cc in subst (Chosen pts (l ++ d ∷ [])) p (keeps d (b.chosen v e) (same (some v) false e g));
              none_left = λ h. let z : ◌≡◌ {A = ℕ} 0 1 = cc in absurd (omega arith);
            }

  all_more : (rest l : Points) → Best-of l → Best-of (l ++ rest)
  all_more [] l b = rw append-nil b
  all_more (d ∷ rest) l b = rw append_assoc at (all_more rest (l ++ d ∷ []) (one_more l d b))

  nothing : Best-of []
  unfolding every
  nothing = record { chosen = λ c h. let z : ◌≡◌ {A = ℕ} 0 1 = cc in absurd (omega arith); none_left = λ h. refl }

  -- ---- and what is chosen is the best

  passes : (l : Points) (o : Option Vector) → every (passed_over pts) l ≡ true → foldl (better pts) o l ≡ o
  unfolding every
  passes [] o h = refl
  passes (d ∷ l) o h =
      let p = both (passed_over pts d) (every (passed_over pts) l) h in
      ap (λ (x : Option Vector). foldl (better pts) x l) (better_stays pts d o (ap (λ (t : Bool). not t && wins pts d o) p.0)) ∙ passes l o p.1

  stays : (l : Points) (c : Vector) → unbeaten pts l c ≡ true → foldl (better pts) (some c) l ≡ some c
  unfolding unbeaten every
  stays [] c h = refl
  stays (d ∷ l) c h =
      let p = both (passed_over pts d || not (wins pts d (some c))) (every (λ q. passed_over pts q || not (wins pts q (some c))) l) h in
      ap (λ (x : Option Vector). foldl (better pts) x l) (better_stays pts d (some c) (parts_or (passed_over pts d) (wins pts d (some c)) p.0)) ∙ stays l c p.1

  chosen_is : {l : Points} {c : Vector} → Chosen pts l c → foldl (better pts) none l ≡ some c
  unfolding wins
  chosen_is {l} {c} (first_free p q e h f u) =
      ap (foldl (better pts) none) e ∙ foldl-append (better pts) none p (c ∷ q) ∙ ap (λ (x : Option Vector). foldl (better pts) x (c ∷ q)) (passes p none h)
      ∙ ap (λ (x : Option Vector). foldl (better pts) x q) (better_takes pts c none (ap (λ (t : Bool). not t && true) f)) ∙ stays q c u
  chosen_is {l} {c} (wins_over p q {b} e i f w u) =
      ap (foldl (better pts) none) e ∙ foldl-append (better pts) none p (c ∷ q) ∙ ap (λ (x : Option Vector). foldl (better pts) x (c ∷ q)) (chosen_is i)
      ∙ ap (λ (x : Option Vector). foldl (better pts) x q) (better_takes pts c (some b) (and_both (ap not f) w)) ∙ stays q c u

  -- ---- of all it is least

  -- the parts of a list that none wins over c in
  unbeaten_parts : (p q : Points) (c : Vector) → unbeaten pts p c ≡ true → unbeaten pts q c ≡ true → unbeaten pts (p ++ c ∷ q) c ≡ true
  unfolding unbeaten every
  unbeaten_parts p q c h k =
      every_append (λ d. passed_over pts d || not (wins pts d (some c))) p (c ∷ q)
      ∙ and_both h (and_both (ap (λ (t : Bool). passed_over pts c || not t) (wins_not_self c) ∙ or_true (passed_over pts c)) k)

  all_of : {l : Points} {c : Vector} → Chosen pts l c → Least pts l c
  unfolding unbeaten
  all_of {l} {c} (first_free p q e h f u) = record {
    earlier = p;
    later = q;
    place = e;
    free = f;
    below_earlier = every_more {f = passed_over pts} {g = λ d. passed_over pts d || lt (nearest_product pts c) (nearest_product pts d)} (λ d g. ap (λ (t : Bool). t || lt (nearest_product pts c) (nearest_product pts d)) g) p h;
    of_all = ap (λ (x : Points). unbeaten pts x c) e ∙ unbeaten_parts p q c (every_more {f = passed_over pts} {g = λ d. passed_over pts d || not (wins pts d (some c))} (λ d g. ap (λ (t : Bool). t || not (wins pts d (some c))) g) p h) u;
  }
  all_of {l} {c} (wins_over p q {b} e i f w u) =
      let m = all_of i in
      let below : every (λ d. passed_over pts d || lt (nearest_product pts c) (nearest_product pts d)) p ≡ true =
      every_more {f = λ d. passed_over pts d || not (wins pts d (some b))} {g = λ d. passed_over pts d || lt (nearest_product pts c) (nearest_product pts d)}
      (λ d g. under (passed_over pts d) (wins pts d (some b)) (lt (nearest_product pts c) (nearest_product pts d)) (wins_lower b c d w) g) p m.of_all in
      record {
        earlier = p;
        later = q;
        place = e;
        free = f;
        below_earlier = below;
        of_all = ap (λ (x : Points). unbeaten pts x c) e
            ∙ unbeaten_parts p q c
            (every_more {f = λ d. passed_over pts d || lt (nearest_product pts c) (nearest_product pts d)} {g = λ d. passed_over pts d || not (wins pts d (some c))}
            (λ d g. over (passed_over pts d) (lt (nearest_product pts c) (nearest_product pts d)) (wins pts d (some c)) (above_loses c d) g) p below)
            u;
      }

  pub candidate_meaning : Candidate pts
  unfolding candidate_of
  candidate_meaning =
      let b = all_more candidates [] nothing in
      record {
        chosen = b.chosen;
        only = λ c i. chosen_is i;
        least = λ c h. all_of (b.chosen c h);
        none_left = b.none_left;
        none_free = passes candidates none;
      }

-- ---- the stages

behind_more : (real : Points) (n : ℕ) (q : Points) (c : Vector) → Behind real n q → Behind real (n + 1) (q ++ c ∷ [])
behind_more real n q c b = record {
  points = b.points ++ c ∷ [];
  behind = ap (λ (x : Points). x ++ c ∷ []) b.behind ∙ append_assoc real b.points (c ∷ []);
  few = omega (arith, b.few, length-append b.points (c ∷ []));
}

behind_pole : (real : Points) (n : ℕ) (q : Points) (c : Vector) → Behind real n q → Behind real (n + 1) (with_pole q c)
behind_pole real n q c b = by (passed_over q c) refl
  where
    by : (t : Bool) → passed_over q c ≡ t → Behind real (n + 1) (with_pole q c)
    by true e = rw (pole_there q c e) (record { points = b.points; behind = b.behind; few = omega (arith, b.few) })
    by false e = rw (pole_new q c e) (behind_more real n q c b)

behind_poles : (real : Points) → Behind real 2 (with_poles real)
unfolding with_poles
behind_poles real =
    behind_pole real 1 (with_pole real (+0 ∷ 1·0 ∷ +0 ∷ [])) (+0 ∷ −1 ∷ +0 ∷ [])
    (behind_pole real 0 real (+0 ∷ 1·0 ∷ +0 ∷ []) (record { points = []; behind = sym (append-nil real); few = omega arith }))

-- the last of the lists from pts on
final : ℕ → Points → Points
final n pts = last (after n pts) pts

-- what holds of every step from pts to the last list
record Steps (n : ℕ) (pts : Points) : Type 0 where
  chain : Chain Extends pts (after n pts)
  ends : Ends (length pts + n) (final n pts)
  added : (real : Points) (m : ℕ) → Behind real m pts → Behind real (m + n) (final n pts)

steps : (n : ℕ) (pts : Points) → Steps n pts
unfolding after final last
steps zero pts = record { chain = tt; ends = by (closed pts) refl; added = λ real m b. rw add-zero b }
  where
    by : (t : Bool) → closed pts ≡ t → Ends (length pts + 0) pts
    by true e = closes e
    by false e = full e (omega arith)
steps (suc n) pts = by (closed pts) refl (candidate_of pts) refl (steps n)
  where
    one : (c : Vector) → closed pts ≡ false → candidate_of pts ≡ some c → Steps n (pts ++ c ∷ []) → Steps (suc n) pts
    one c e g s =
        let f : after (suc n) pts ≡ (pts ++ c ∷ []) ∷ after n (pts ++ c ∷ []) = after_more pts n c e g in
        let q : final (suc n) pts ≡ final n (pts ++ c ∷ []) = ap (λ (l : List Points). last l pts) f in
        let k : length (pts ++ c ∷ []) + n ≡ length pts + suc n = omega (arith, length-append pts (c ∷ [])) in
        record {
          chain = rw f (record { candidate = c; open_before = e; choice = g; added = refl }, s.chain);
          ends = rw (q, ← k) s.ends;
          added = λ real m b. let j : m + suc n ≡ m + 1 + n = omega arith in rw (q, j) (s.added real (m + 1) (behind_more real m pts c b));
        }

    stops : after (suc n) pts ≡ [] → Ends (length pts + suc n) pts → Steps (suc n) pts
    stops f e =
        let q : final (suc n) pts ≡ pts = ap (λ (l : List Points). last l pts) f in
        record {
          chain = rw f tt;
          ends = rw q e;
          added = λ real m b. rw q (record { points = b.points; behind = b.behind; few = omega (arith, b.few) });
        }

    by : (t : Bool) → closed pts ≡ t → (o : Option Vector) → candidate_of pts ≡ o → ((q : Points) → Steps n q) → Steps (suc n) pts
    by true e o g k = stops (after_closed pts (suc n) e) (closes e)
    by false e none g k = stops (after_none pts (suc n) e g) (none_more e (omega arith) g)
    by false e (some c) g k = one c e g (k (pts ++ c ∷ []))

module _ (real : Points) where
  left : ℕ
  left = max_imaginary - (length (with_poles real) - length real)

  first_stage : stages real ≡ with_poles real ∷ after left (with_poles real)
  unfolding stages left
  first_stage = closing_after left (with_poles real)

  last_stage : final_points real ≡ final left (with_poles real)
  unfolding final_points final last
  last_stage = ap (λ (l : List Points). last l []) first_stage

  -- the poles are at most two
  pole_count : (length real ≤ length (with_poles real)) × (length (with_poles real) ≤ length real + 2)
  pole_count =
      let b = behind_poles real in
      let e : length (with_poles real) ≡ length real + length b.points = ap length b.behind ∙ length-append real b.points in
      (omega arith, omega (arith, b.few))

  -- without a triplet the last of the tests for a closed hull fails
  open_without : triplets_of (final_points real) ≡ [] → closed (final_points real) ≡ false
  unfolding closed is_empty
  open_without e =
      let q = final_points real in
      and_false (leb 4 (length q) && not (any opens (verdicts q))) (not (is_empty (triplets_of q))) (ap (λ (l : List Triplet). not (is_empty l)) e)

  pub stages_meaning : Stages real
  unfolding left
  stages_meaning =
      let s = steps left (with_poles real) in
      let k : length (with_poles real) + left ≡ length real + max_imaginary = omega (arith, pole_count) in
      record {
        later = after left (with_poles real);
        first = first_stage;
        chain = s.chain;
        end = rw (last_stage, ← k) s.ends;
        no_triplet = open_without;
      }

  pub imaginary_meaning : Imaginary real
  unfolding left
  imaginary_meaning =
      let b = behind_poles real in
      let e : length (with_poles real) ≡ length real + length b.points = ap length b.behind ∙ length-append real b.points in
      let p : Behind real (length b.points) (with_poles real) = record { points = b.points; behind = b.behind; few = omega arith } in
      let f = (steps left (with_poles real)).added real (length b.points) p in
      record { points = f.points; behind = last_stage ∙ f.behind; few = omega (arith, f.few, b.few) }
