-- The statements of specs/Meaning.antt. What stands in is kept by every step; the real points of p's own triplets are found in the first pass; where no slot was found the last pass changed nothing, so its triplets hold no real point. Assumes nothing.
use Prim.Native.Nat.{ℕ, zero, suc, ◌+◌, ◌≤◌, ◌<◌}
use mathlib.Core.Path.{◌≡◌, refl, sym, ap, subst, ◌∙◌}
use mathlib.Core.Bool.{Bool, true, false, not, ◌&&◌, ◌||◌, false≢true}
use mathlib.Core.List.{List, [], ◌∷◌, ◌++◌, foldl}
use mathlib.Core.Logic.{◌⊎◌, inl, inr, ⊎_elim}
use native.Mathlib.Omega.{arith}
use borrow.Author.Tests.{eqb-true, eq-eqb, ltb-true, ltb-false}
use lib.Dec.{eqb, ltb}
use lib.ListN.{length, get_or, length-append}
use Rattle.lists.specs.Lists.{any, every, member, is_empty, Each}
use Rattle.layout_neighbours.specs.Neighbours.{Reach, reach, across, pass, passes, neighbours_of}
use Rattle.layout_neighbours.specs.Meaning.{share, Linked, here, next, StandsIn, Neighbourhood, Placed, Complete}
use Rattle.layout_neighbours.proofs.Among.{among_none, among_snoc}
use Rattle.layout_neighbours.proofs.Reaches.{reach_found, reach_visits}
use Rattle.lists.proofs.Tests.{both, and_both, either, or_left, or_right, cond_yes}
use Rattle.lists.proofs.Once.{member_snoc, member_here}
use Rattle.lists.proofs.Each.{each_member, each_every, each_imply, foldl_keeps, foldl_always}
use Rattle.layout_neighbours.proofs.Sound.{reach_keeps, across_keeps, across_always, pass_keeps, pass_always, passes_keeps, Visited, visited_few, Low, after, ends, passes_done, passes_on, one_more, enough}
use Rattle.layout_neighbours.proofs.Laid.{neighbours_once}

-- ---- members

member_more : (p : ℕ) (l : List ℕ) (x : ℕ) → member p l ≡ true → member p (l ++ x ∷ []) ≡ true
member_more p l x e = member_snoc p l x ∙ or_left (member p l) (eqb x p) e

member_end : (l : List ℕ) (x : ℕ) → member x (l ++ x ∷ []) ≡ true
member_end l x = member_snoc x l x ∙ or_right (member x l) (eqb x x) (eq-eqb x x refl)

-- what members have, each element has
each_of : (Q : ℕ → Type 0) (l : List ℕ) → ((p : ℕ) → member p l ≡ true → Q p) → Each Q l
unfolding any
each_of Q [] f = tt
each_of Q (x ∷ l) f = (f x (member_here x l), each_of Q l (λ p m. f p (or_right (eqb x p) (member p l) m)))

-- an element that passes
some_of : (f : ℕ → Bool) (l : List ℕ) → any f l ≡ true → (q : ℕ) × (member q l ≡ true) × (f q ≡ true)
unfolding any
some_of f [] e = absurd (false≢true e)
some_of f (x ∷ l) e =
    ⊎_elim (λ g. (x, member_here x l, g)) (λ g. let r = some_of f l g in (r.0, or_right (eqb x r.0) (member r.0 l) r.1, r.2)) (either (f x) (any f l) e)

of_some : (f : ℕ → Bool) (l : List ℕ) (q : ℕ) → member q l ≡ true → f q ≡ true → any f l ≡ true
unfolding any
of_some f [] q m e = m
of_some f (x ∷ l) q m e =
    ⊎_elim (λ g. or_left (f x) (any f l) (ap f (eqb-true x q g) ∙ e)) (λ g. or_right (f x) (any f l) (of_some f l q g e)) (either (eqb x q) (member q l) m)

some_in : (q : ℕ) (l : List ℕ) → member q l ≡ true → not (is_empty l) ≡ true
unfolding any is_empty
some_in q [] e = e
some_in q (x ∷ l) e = refl

-- ---- triplets

each_share : (R : ℕ → ℕ → Type 0) (us : List (List ℕ)) → ((q s : ℕ) → share us q s ≡ true → R q s)
    → Each (λ ps. (q s : ℕ) → member q ps ≡ true → member s ps ≡ true → R q s) us
unfolding share any
each_share R [] f = tt
each_share R (ps ∷ us) f = (
  λ q s m n. f q s (or_left (member q ps && member s ps) (share us q s) (and_both m n)),
  each_share R us (λ q s e. f q s (or_right (member q ps && member s ps) (share us q s) e)),
)

-- the triplet that two points share
share_each : (Q : List ℕ → Type 0) (us : List (List ℕ)) → Each Q us → (q s : ℕ) → share us q s ≡ true → (ps : List ℕ) × Q ps × (member q ps ≡ true) × (member s ps ≡ true)
unfolding share any
share_each Q [] e q s h = absurd (false≢true h)
share_each Q (ps ∷ us) e q s h =
    ⊎_elim (λ g. let m = both (member q ps) (member s ps) g in (ps, e.0, m.0, m.1)) (share_each Q us e.1 q s) (either (member q ps && member s ps) (share us q s) h)

module _ (l : List ℕ) (ts : List (List ℕ)) where
  -- ---- what stands in

  module _ (p : ℕ) where
    record Found-so-far (r : Reach) : Type 0 where
      linked : (q : ℕ) → member q r.visited ≡ true → Linked l ts p q
      stands : (s : ℕ) → member s r.nbrs ≡ true → StandsIn l ts p s

    -- a point x that shares a triplet with the linked point q
    found_reach : (q : ℕ) → Linked l ts p q → (r : Reach) (x : ℕ) → share ts q x ≡ true → Found-so-far r → Found-so-far (reach l r x)
    found_reach q k r x h f =
        reach_keeps Found-so-far l r x f
        (λ g e. record {
          linked = f.linked;
          stands = λ s m. ⊎_elim (f.stands s)
              (λ o. record { point = q; linked = k; real = x; below = g; shares = h; slot = eqb-true (get_or l x 0) s o })
              (either (member s r.nbrs) (eqb (get_or l x 0) s) (sym (member_snoc s r.nbrs (get_or l x 0)) ∙ m));
        })
        (λ g e d. record {
          linked = λ s m. ⊎_elim (f.linked s) (λ o. subst (Linked l ts p) (eqb-true x s o) (next k h g)) (either (member s r.visited) (eqb x s) (sym (member_snoc s r.visited x) ∙ m));
          stands = f.stands;
        })

    found_across : (r : Reach) (ps : List ℕ) → ((q s : ℕ) → member q ps ≡ true → member s ps ≡ true → share ts q s ≡ true) → Found-so-far r → Found-so-far (across l r ps)
    found_across r ps h f =
        across_keeps Found-so-far l r ps f
        (λ e.
        let m = some_of (λ q. member q r.visited) ps e in
        foldl_keeps Found-so-far (λ x. member x ps ≡ true) (reach l) (λ b x n g. found_reach m.0 (f.linked m.0 m.2) b x (h m.0 x m.1 n) g) ps (each_of (λ x. member x ps ≡ true) ps (λ x n. n)) r f)

    found_all : (s : ℕ) → member s (neighbours_of l ts p) ≡ true → StandsIn l ts p s
    unfolding neighbours_of any
    found_all =
        (passes_keeps Found-so-far l ts
        (λ r f. pass_keeps Found-so-far l ts (λ ps. (q s : ℕ) → member q ps ≡ true → member s ps ≡ true → share ts q s ≡ true) found_across (each_share (λ q s. share ts q s ≡ true) ts (λ q s e. e)) r f)
        14 (record { visited = p ∷ []; nbrs = [] })
        (record {
          linked = λ q m. ⊎_elim (λ o. subst (Linked l ts p) (eqb-true p q o) here) (λ o. absurd (false≢true o)) (either (eqb p q) false m);
          stands = λ s m. absurd (false≢true m);
        })
        ).stands

  -- ---- p's own triplets

  slot_stays : (s : ℕ) (r : Reach) (x : ℕ) → member s r.nbrs ≡ true → member s (reach l r x).nbrs ≡ true
  slot_stays s r x h = reach_keeps (λ b. member s b.nbrs ≡ true) l r x h (λ g e. member_more s r.nbrs (get_or l x 0) h) (λ g e d. h)

  point_stays : (q : ℕ) (r : Reach) (x : ℕ) → member q r.visited ≡ true → member q (reach l r x).visited ≡ true
  point_stays q r x h = reach_keeps (λ b. member q b.visited ≡ true) l r x h (λ g e. h) (λ g e d. member_more q r.visited x h)

  module _ (q : ℕ) (real : q < length l) where
    -- a real point that is reached has its slot among the neighbours
    reach_slot : (r : Reach) → member (get_or l q 0) (reach l r q).nbrs ≡ true
    reach_slot r = by (member (get_or l q 0) r.nbrs) refl
      where
        by : (b : Bool) → member (get_or l q 0) r.nbrs ≡ b → member (get_or l q 0) (reach l r q).nbrs ≡ true
        by true e = slot_stays (get_or l q 0) r q e
        by false e = ap (λ (x : Reach). member (get_or l q 0) x.nbrs) (reach_found l r q real e) ∙ member_end r.nbrs (get_or l q 0)

    fold_slot : (ps : List ℕ) (r : Reach) → member q ps ≡ true → member (get_or l q 0) (foldl (reach l) r ps).nbrs ≡ true
    unfolding any
    fold_slot [] r m = absurd (false≢true m)
    fold_slot (x ∷ ps) r m =
        ⊎_elim
        (λ e. foldl_always (λ b. member (get_or l q 0) b.nbrs ≡ true) (reach l) (slot_stays (get_or l q 0)) ps (reach l r x)
        (subst (λ (y : ℕ). member (get_or l q 0) (reach l r y).nbrs ≡ true) (sym (eqb-true x q e)) (reach_slot r)))
        (fold_slot ps (reach l r x)) (either (eqb x q) (member q ps) m)

    across_slot : (p : ℕ) (r : Reach) (ps : List ℕ) → member p r.visited ≡ true → member p ps && member q ps ≡ true → member (get_or l q 0) (across l r ps).nbrs ≡ true
    unfolding across
    across_slot p r ps v m =
        let n = both (member p ps) (member q ps) m in
        ap (λ (x : Reach). member (get_or l q 0) x.nbrs) (cond_yes (foldl (reach l) r ps) r (of_some (λ x. member x r.visited) ps p n.0 v)) ∙ fold_slot ps r n.1

    pass_slot : (p : ℕ) (us : List (List ℕ)) (r : Reach) → member p r.visited ≡ true → share us p q ≡ true → member (get_or l q 0) (foldl (across l) r us).nbrs ≡ true
    unfolding share any
    pass_slot p [] r v h = absurd (false≢true h)
    pass_slot p (ps ∷ us) r v h =
        ⊎_elim
        (λ e. foldl_always (λ b. member (get_or l q 0) b.nbrs ≡ true) (across l) (across_always (λ s. member (get_or l q 0) s.nbrs ≡ true) l (slot_stays (get_or l q 0))) us
        (across l r ps) (across_slot p r ps v e))
        (pass_slot p us (across l r ps) (across_always (λ s. member p s.visited ≡ true) l (point_stays p) r ps v))
        (either (member p ps && member q ps) (share us p q) h)

    own_slot : (p : ℕ) → share ts p q ≡ true → member (get_or l q 0) (neighbours_of l ts p) ≡ true
    unfolding neighbours_of pass
    own_slot p h =
        let r : Reach = record { visited = p ∷ []; nbrs = [] } in
        let m = pass_slot p ts r (member_here p []) h in
        ap (λ (x : Reach). member (get_or l q 0) x.nbrs) (passes_done l ts 13 r (or_left (not (is_empty (pass l ts r).nbrs)) _ (some_in (get_or l q 0) (pass l ts r).nbrs m))) ∙ m

  pub neighbourhood : (p : ℕ) → Neighbourhood l ts p
  neighbourhood p = record { once = neighbours_once l ts p; stand = found_all p; own = λ q h e. own_slot q h p e }

  -- ---- a pass that changes nothing

  size : Reach → ℕ
  size r = length r.visited + length r.nbrs

  reach_size : (r : Reach) (x : ℕ) → (reach l r x ≡ r) ⊎ (size r < size (reach l r x))
  unfolding size
  reach_size r x =
      reach_keeps (λ s. (s ≡ r) ⊎ (size r < size s)) l r x (inl refl)
      (λ g e. inr (omega (arith, length-append r.nbrs (get_or l x 0 ∷ []))))
      (λ g e d. inr (omega (arith, length-append r.visited (x ∷ []))))

  reach_grows : (n : ℕ) (r : Reach) (x : ℕ) → n ≤ size r → n ≤ size (reach l r x)
  reach_grows n r x h = ⊎_elim (λ e. subst (λ (s : Reach). n ≤ size s) (sym e) h) (λ g. omega arith) (reach_size r x)

  across_grows : (n : ℕ) (r : Reach) (ps : List ℕ) → n ≤ size r → n ≤ size (across l r ps)
  across_grows n r ps h = across_always (λ s. n ≤ size s) l (reach_grows n) r ps h

  -- where a fold does not grow, every step of it stays
  fold_still : {A : Type 0} (f : Reach → A → Reach) → ((r : Reach) (x : A) → (f r x ≡ r) ⊎ (size r < size (f r x))) → ((n : ℕ) (r : Reach) (x : A) → n ≤ size r → n ≤ size (f r x))
      → (xs : List A) (r : Reach) → size (foldl f r xs) ≤ size r → Each (λ x. f r x ≡ r) xs × (foldl f r xs ≡ r)
  fold_still f a g [] r h = (tt, refl)
  fold_still f a g (x ∷ xs) r h =
      ⊎_elim
      (λ e.
      let i = fold_still f a g xs r (subst (λ (s : Reach). size (foldl f s xs) ≤ size r) e h) in
      ((e, i.0), ap (λ (s : Reach). foldl f s xs) e ∙ i.1))
      (λ b. let m = foldl_always (λ s. size (f r x) ≤ size s) f (g (size (f r x))) xs (f r x) (omega arith) in absurd (omega arith))
      (a r x)

  across_size : (r : Reach) (ps : List ℕ) → (across l r ps ≡ r) ⊎ (size r < size (across l r ps))
  across_size r ps =
      across_keeps (λ s. (s ≡ r) ⊎ (size r < size s)) l r ps (inl refl)
      (λ _. foldl_always (λ s. (s ≡ r) ⊎ (size r < size s)) (reach l)
      (λ b x h. ⊎_elim (λ e. subst (λ (s : Reach). (reach l s x ≡ r) ⊎ (size r < size (reach l s x))) (sym e) (reach_size r x)) (λ k. inr (reach_grows (suc (size r)) b x k)) h)
      ps r (inl refl))

  -- a triplet with a visited point, of which every point stays
  across_still : (r : Reach) (ps : List ℕ) → across l r ps ≡ r → any (λ x. member x r.visited) ps ≡ true → Each (λ x. reach l r x ≡ r) ps
  unfolding across
  across_still r ps e m =
      let f : foldl (reach l) r ps ≡ r = sym (cond_yes (foldl (reach l) r ps) r m) ∙ e in
      (fold_still (reach l) reach_size reach_grows ps r (subst (λ (s : Reach). size s ≤ size r) (sym f) (omega arith))).0

  module _ (r : Reach) (none : r.nbrs ≡ []) (still : pass l ts r ≡ r) where
    stays : (q x : ℕ) → member q r.visited ≡ true → share ts q x ≡ true → reach l r x ≡ r
    unfolding pass
    stays q x v h =
        let a = (fold_still (across l) across_size across_grows ts r (subst (λ (s : Reach). size s ≤ size r) (sym still) (omega arith))).0 in
        let t = share_each (λ ps. across l r ps ≡ r) ts a q x h in
        each_member (λ y. reach l r y ≡ r) t.0 x (across_still r t.0 t.1 (of_some (λ y. member y r.visited) t.0 q t.2 v)) t.3

    no_slot : (x : ℕ) → reach l r x ≡ r → length l ≤ x
    unfolding any
    no_slot x e = by (ltb x (length l)) refl
      where
        by : (b : Bool) → ltb x (length l) ≡ b → length l ≤ x
        by true g =
            let m : member (get_or l x 0) r.nbrs ≡ false = ap (member (get_or l x 0)) none in
            let s : length r.nbrs ≡ length (r.nbrs ++ get_or l x 0 ∷ []) = ap (λ (y : Reach). length y.nbrs) (sym e ∙ reach_found l r x (ltb-true _ _ g) m) in
            omega (arith, length-append r.nbrs (get_or l x 0 ∷ []))
        by false g = ltb-false x (length l) g

    all_visited : (p : ℕ) → member p r.visited ≡ true → {q : ℕ} → Linked l ts p q → member q r.visited ≡ true
    unfolding is_empty
    all_visited p v here = v
    all_visited p v (next {q} {s} k h g) = by (member s r.visited) refl (stays q s (all_visited p v k) h)
      where
        by : (b : Bool) → member s r.visited ≡ b → reach l r s ≡ r → member s r.visited ≡ true
        by true e f = e
        by false e f =
            let m : length r.visited ≡ length (r.visited ++ s ∷ []) = ap (λ (y : Reach). length y.visited) (sym f ∙ reach_visits l r s g e (ap is_empty none)) in
            absurd (omega (arith, length-append r.visited (s ∷ [])))

  -- ---- the last pass

  low_points : every (every (λ q. ltb q (length l + 14))) ts ≡ true → Low (length l) ts
  low_points e =
      let low : ℕ → Bool = λ q. ltb q (length l + 14) in
      each_imply (λ ps. every low ps ≡ true) (Each (λ q. q < length l + 14))
      (λ ps g. each_imply (λ q. low q ≡ true) (λ q. q < length l + 14) (λ q k. ltb-true q (length l + 14) k) ps (each_every low ps g)) ts (each_every (every low) ts e)

  module _ (p : ℕ) (h : Placed l ts p) where
    low : Low (length l) ts
    low = low_points h.points

    begin : Visited (length l) 1 (record { visited = p ∷ []; nbrs = [] })
    unfolding any
    begin = record { imaginary = among_snoc (length l) 14 [] p (among_none (length l) 14) refl h.imaginary h.few; more = omega arith }

    last_pass : (m : ℕ) (r : Reach) → Visited (length l) (length r.visited) r → 15 ≤ m + length r.visited → member p r.visited ≡ true
        → (x : Reach) × (member p x.visited ≡ true) × (ends x (pass l ts x) ≡ true) × (passes l ts m r ≡ pass l ts x)
    last_pass zero r v g k = let f = visited_few v in absurd (omega arith)
    last_pass (suc m) r v g k =
        by (ends r (pass l ts r)) refl
        (λ e. let f = one_more l ts low r v e in last_pass m (pass l ts r) (after l ts low r v) (omega arith) (pass_always (λ s. member p s.visited ≡ true) l ts (point_stays p) r k))
      where
        by : (b : Bool) → ends r (pass l ts r) ≡ b
            → (ends r (pass l ts r) ≡ false → (x : Reach) × (member p x.visited ≡ true) × (ends x (pass l ts x) ≡ true) × (passes l ts m (pass l ts r) ≡ pass l ts x))
            → (x : Reach) × (member p x.visited ≡ true) × (ends x (pass l ts x) ≡ true) × (passes l ts (suc m) r ≡ pass l ts x)
        by true e f = (r, k, e, passes_done l ts m r e)
        by false e f = let i = f e in (i.0, i.1, i.2, passes_on l ts m r e ∙ i.3)

    -- where the last pass found no slot, it changed nothing
    end_still : (x : Reach) → (pass l ts x).nbrs ≡ [] → ends x (pass l ts x) ≡ true → pass l ts x ≡ x
    unfolding pass is_empty size
    end_still x n e =
        let m : eqb (length (pass l ts x).visited) (length x.visited) ≡ true =
        sym (ap (λ (y : List ℕ). not (is_empty y) || eqb (length (pass l ts x).visited) (length x.visited)) n) ∙ e in
        let a : length (pass l ts x).visited ≡ length x.visited = eqb-true (length (pass l ts x).visited) (length x.visited) m in
        let b : length (pass l ts x).nbrs ≡ 0 = ap length n in
        (fold_still (across l) across_size across_grows ts x (omega arith)).1

    no_real : neighbours_of l ts p ≡ [] → {q : ℕ} → Linked l ts p q → (r : ℕ) → share ts q r ≡ true → length l ≤ r
    unfolding neighbours_of
    no_real e {q} k r s =
        let i = last_pass 14 (record { visited = p ∷ []; nbrs = [] }) begin (omega arith) (member_here p []) in
        let n : (pass l ts i.0).nbrs ≡ [] = ap (λ (y : Reach). y.nbrs) (sym i.3) ∙ e in
        let f = end_still i.0 n i.2 in
        let z : i.0.nbrs ≡ [] = ap (λ (y : Reach). y.nbrs) (sym f) ∙ n in
        no_slot i.0 z f r (stays i.0 z f q r (all_visited i.0 z f p i.1 k) s)

    pub complete : Complete l ts p
    complete = record {
      enough = λ n. enough l ts low (14 + n) 14 (record { visited = p ∷ []; nbrs = [] }) begin (omega arith) (omega arith);
      none = no_real;
    }
