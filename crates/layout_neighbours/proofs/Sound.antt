-- What every step of the search keeps: the visited points are imaginary, each once, and never fewer. So fourteen passes suffice: each pass but the last visits one more of fourteen. Assumes nothing.
use Prim.Native.Nat.{ℕ, zero, suc, ◌+◌, ◌≤◌, ◌<◌}
use mathlib.Core.Path.{◌≡◌, refl, sym, ap, ◌∙◌}
use mathlib.Core.Bool.{Bool, true, false, cond, not, ◌&&◌, ◌||◌}
use mathlib.Core.List.{List, [], ◌∷◌, foldl}
use native.Mathlib.Omega.{arith}
use borrow.Author.Tests.{ltb-true, ltb-false, eqb-false}
use lib.Dec.{eqb, ltb}
use lib.ListN.{length, get_or, length-append}
use Rattle.lists.specs.Lists.{Each, any, member, is_empty}
use Rattle.lists.proofs.Tests.{neither}
use Rattle.lists.proofs.Each.{foldl_keeps, foldl_always}
use Rattle.layout_neighbours.specs.Neighbours.{Reach, reach, across, pass, passes}
use Rattle.layout_neighbours.specs.Inner.Search.{Among}
use Rattle.layout_neighbours.proofs.Among.{among_snoc, among_few}
use Rattle.layout_neighbours.proofs.Reaches.{with_slot, with_point}

-- ---- what steps keep

-- a point adds a new slot, visits a new imaginary point, or changes nothing
pub reach_keeps : (P : Reach → Type 0) (l : List ℕ) (r : Reach) (p : ℕ) → P r
    → (p < length l → member (get_or l p 0) r.nbrs ≡ false → P (with_slot r (get_or l p 0)))
    → (length l ≤ p → member p r.visited ≡ false → is_empty r.nbrs ≡ true → P (with_point r p))
    → P (reach l r p)
unfolding reach
reach_keeps P l r p h slot point = by (ltb p (length l)) refl
  where
    new : (b : Bool) → member (get_or l p 0) r.nbrs ≡ b → p < length l → P (cond b r (with_slot r (get_or l p 0)))
    new true e g = h
    new false e g = slot g e

    visit : (b c : Bool) → member p r.visited ≡ b → is_empty r.nbrs ≡ c → length l ≤ p → P (cond (not b && c) (with_point r p) r)
    visit true c e f g = h
    visit false true e f g = point g e f
    visit false false e f g = h

    by : (b : Bool) → ltb p (length l) ≡ b
        → P (cond b (cond (member (get_or l p 0) r.nbrs) r (with_slot r (get_or l p 0))) (cond (not (member p r.visited) && is_empty r.nbrs) (with_point r p) r))
    by true e = new (member (get_or l p 0) r.nbrs) refl (ltb-true _ _ e)
    by false e = visit (member p r.visited) (is_empty r.nbrs) refl refl (ltb-false _ _ e)

pub across_keeps : (P : Reach → Type 0) (l : List ℕ) (r : Reach) (ps : List ℕ) → P r
    → (any (λ p. member p r.visited) ps ≡ true → P (foldl (reach l) r ps)) → P (across l r ps)
unfolding across
across_keeps P l r ps h k = by (any (λ p. member p r.visited) ps) k
  where
    by : (b : Bool) → (b ≡ true → P (foldl (reach l) r ps)) → P (cond b (foldl (reach l) r ps) r)
    by true k = k refl
    by false k = h

pub across_always : (P : Reach → Type 0) (l : List ℕ) → ((r : Reach) (p : ℕ) → P r → P (reach l r p)) → (r : Reach) (ps : List ℕ) → P r → P (across l r ps)
across_always P l k r ps h = across_keeps P l r ps h (λ _. foldl_always P (reach l) k ps r h)

pub pass_always : (P : Reach → Type 0) (l : List ℕ) (ts : List (List ℕ)) → ((r : Reach) (p : ℕ) → P r → P (reach l r p)) → (r : Reach) → P r → P (pass l ts r)
unfolding pass
pass_always P l ts k r h = foldl_always P (across l) (across_always P l k) ts r h

pub pass_keeps : (P : Reach → Type 0) (l : List ℕ) (ts : List (List ℕ)) (Q : List ℕ → Type 0)
    → ((r : Reach) (ps : List ℕ) → Q ps → P r → P (across l r ps)) → Each Q ts → (r : Reach) → P r → P (pass l ts r)
unfolding pass
pass_keeps P l ts Q k e r h = foldl_keeps P Q (across l) k ts e r h

pub passes_keeps : (P : Reach → Type 0) (l : List ℕ) (ts : List (List ℕ)) → ((r : Reach) → P r → P (pass l ts r)) → (n : ℕ) (r : Reach) → P r → P (passes l ts n r)
unfolding passes
passes_keeps P l ts k zero r h = h
passes_keeps P l ts k (suc n) r h = by (not (is_empty (pass l ts r).nbrs) || eqb (length (pass l ts r).visited) (length r.visited)) (passes_keeps P l ts k n (pass l ts r) (k r h))
  where
    by : (b : Bool) → P (passes l ts n (pass l ts r)) → P (elim b [ true ↦ pass l ts r | false ↦ passes l ts n (pass l ts r) ])
    by true g = k r h
    by false g = g

-- ---- the last pass, and one more

-- there is a neighbour, or nothing more was visited
abbrev pub ends : Reach → Reach → Bool
ends r s = not (is_empty s.nbrs) || eqb (length s.visited) (length r.visited)

module _ (l : List ℕ) (ts : List (List ℕ)) (n : ℕ) (r : Reach) where
  pub passes_done : ends r (pass l ts r) ≡ true → passes l ts (suc n) r ≡ pass l ts r
  unfolding passes
  passes_done e = ap (λ (b : Bool). elim b [ true ↦ pass l ts r | false ↦ passes l ts n (pass l ts r) ]) e

  pub passes_on : ends r (pass l ts r) ≡ false → passes l ts (suc n) r ≡ passes l ts n (pass l ts r)
  unfolding passes
  passes_on e = ap (λ (b : Bool). elim b [ true ↦ pass l ts r | false ↦ passes l ts n (pass l ts r) ]) e

-- ---- the visited points

-- imaginary ones among nreal .. nreal + 13, each once, m of them or more
pub record Visited (nreal m : ℕ) (r : Reach) : Type 0 where
  pub imaginary : Among nreal 14 r.visited
  pub more : m ≤ length r.visited

pub visited_few : {nreal m : ℕ} {r : Reach} → Visited nreal m r → length r.visited ≤ 14
visited_few {nreal} {m} {r} v = among_few 14 nreal r.visited v.imaginary

-- triplets of points below nreal + 14
abbrev pub Low : ℕ → List (List ℕ) → Type 0
Low nreal ts = Each (Each (λ p. p < nreal + 14)) ts

module _ (l : List ℕ) (ts : List (List ℕ)) (low : Low (length l) ts) where
  reach_visited : (m : ℕ) (r : Reach) (p : ℕ) → p < length l + 14 → Visited (length l) m r → Visited (length l) m (reach l r p)
  reach_visited m r p h v =
      reach_keeps (Visited (length l) m) l r p v
      (λ g e. record { imaginary = v.imaginary; more = v.more })
      (λ g e f. record { imaginary = among_snoc (length l) 14 r.visited p v.imaginary e g h; more = omega (arith, v.more, length-append r.visited (p ∷ [])) })

  pub pass_visited : (m : ℕ) (r : Reach) → Visited (length l) m r → Visited (length l) m (pass l ts r)
  pass_visited m r v =
      pass_keeps (Visited (length l) m) l ts (Each (λ p. p < length l + 14))
      (λ s ps q w. across_keeps (Visited (length l) m) l s ps w (λ _. foldl_keeps (Visited (length l) m) (λ p. p < length l + 14) (reach l) (reach_visited m) ps q s w))
      low r v

  module _ (r : Reach) (v : Visited (length l) (length r.visited) r) where
    -- the state after a pass counts for itself
    pub after : Visited (length l) (length (pass l ts r).visited) (pass l ts r)
    after =
        let w = pass_visited (length r.visited) r v in
        record { imaginary = w.imaginary; more = omega arith }

    -- a pass after which another follows visited a point
    pub one_more : ends r (pass l ts r) ≡ false → length r.visited < length (pass l ts r).visited
    one_more e =
        let w = pass_visited (length r.visited) r v in
        let ne = eqb-false (length (pass l ts r).visited) (length r.visited) (neither (not (is_empty (pass l ts r).nbrs)) (eqb (length (pass l ts r).visited) (length r.visited)) e).1 in
        omega (arith, w.more)

  -- more passes change nothing
  pub enough : (m n : ℕ) (r : Reach) → Visited (length l) (length r.visited) r → 15 ≤ m + length r.visited → 15 ≤ n + length r.visited → passes l ts m r ≡ passes l ts n r
  enough zero n r v h g = let f = visited_few v in absurd (omega arith)
  enough (suc m) zero r v h g = let f = visited_few v in absurd (omega arith)
  enough (suc m) (suc n) r v h g =
      by (ends r (pass l ts r)) refl
      (λ e. let f = one_more r v e in enough m n (pass l ts r) (after r v) (omega arith) (omega arith))
    where
      by : (b : Bool) → ends r (pass l ts r) ≡ b → (ends r (pass l ts r) ≡ false → passes l ts m (pass l ts r) ≡ passes l ts n (pass l ts r)) → passes l ts (suc m) r ≡ passes l ts (suc n) r
      by true e k = passes_done l ts m r e ∙ sym (passes_done l ts n r e)
      by false e k = passes_on l ts m r e ∙ k e ∙ sym (passes_on l ts n r e)
