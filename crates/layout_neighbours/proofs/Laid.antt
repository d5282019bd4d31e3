-- Laws of the neighbours laid flat: at most 40 of each point, since their slots are distinct and below 40, and one point more. Assumes nothing.
use Prim.Native.Nat.{ℕ, suc, ◌+◌, ◌-◌, ◌*◌, ◌≤◌, ◌<◌, zero-le}
use mathlib.Core.Path.{◌≡◌, refl, sym, ap, ◌∙◌}
use mathlib.Core.List.{List, [], ◌∷◌, ◌++◌, map, map-append, flat_map, append_assoc}
use native.Mathlib.Omega.{arith}
use lib.ListN.{length, get_or, set, take, drop, replicate, length-append, length-map}
use lib.Seq.{append_snoc, take_at, drop_at}
use Rattle.lists.specs.Lists.{Once, from, filled, Each}
use Rattle.lists.proofs.Ranges.{from_snoc, length_from}
use Rattle.lists.proofs.Filled.{length_filled, set_filled_at}
use Rattle.lists.proofs.Collect.{flat_map_append}
use Rattle.lists.proofs.Once.{not_member, once_snoc}
use Rattle.layout_neighbours.specs.Neighbours.{Reach, reach, neighbours_of}
use Rattle.layout_neighbours.specs.Inner.Flat.{neighbours_in}
use Rattle.layout_neighbours.specs.Inner.Search.{Among, Slots}
use Rattle.layout_neighbours.specs.declared.Search.{Search}
use Rattle.layout_neighbours.specs.declared.ImagNbrs.{ImagNbrs}
use Rattle.layout_neighbours.proofs.Among.{among_none, among_snoc, among_few}
use Rattle.lists.proofs.Each.{each_imply, each_map, each_from, each_filled, length_rows}
use Rattle.layout_neighbours.proofs.Sound.{reach_keeps, pass_always, passes_keeps}

-- ---- the slots found

-- what every point keeps, the search keeps
pub search_keeps : (P : Reach → Type 0) (l : List ℕ) (ts : List (List ℕ)) → ((r : Reach) (p : ℕ) → P r → P (reach l r p))
    → (p : ℕ) → P (record { visited = p ∷ []; nbrs = [] }) → (Q : List ℕ → Type 0) → ((r : Reach) → P r → Q r.nbrs) → Q (neighbours_of l ts p)
unfolding neighbours_of
search_keeps P l ts k p h Q f = f _ (passes_keeps P l ts (pass_always P l ts k) 14 (record { visited = p ∷ []; nbrs = [] }) h)

module _ (l : List ℕ) (ts : List (List ℕ)) (p : ℕ) where
  -- each neighbour is listed once
  pub neighbours_once : Once (neighbours_of l ts p)
  neighbours_once =
      search_keeps (λ r. Once r.nbrs) l ts
      (λ r q d. reach_keeps (λ s. Once s.nbrs) l r q d (λ g e. once_snoc r.nbrs (get_or l q 0) d (not_member (get_or l q 0) r.nbrs e)) (λ g e f. d))
      p tt Once (λ r d. d)

  module _ (low : (k : ℕ) → k < length l → get_or l k 0 < 40) where
    neighbours_below : Among 0 40 (neighbours_of l ts p)
    neighbours_below =
        search_keeps (λ r. Among 0 40 r.nbrs) l ts
        (λ r q m. reach_keeps (λ s. Among 0 40 s.nbrs) l r q m (λ g e. among_snoc 0 40 r.nbrs (get_or l q 0) m e zero-le (low q g)) (λ g e f. m))
        p (among_none 0 40) (Among 0 40) (λ r m. m)

    pub neighbours_few : length (neighbours_of l ts p) ≤ 40
    neighbours_few = among_few 40 0 (neighbours_of l ts p) neighbours_below

-- ---- rows of n in a flat list

module _ {A : Type 0} (n : ℕ) (z : A) where
  rows_wide : (ls : List (List A)) → Each (λ x. length x ≤ n) ls → length (flat_map (filled n z) ls) ≡ length ls * n
  rows_wide ls e = length_rows n (filled n z) ls (each_imply (λ x. length x ≤ n) (λ x. length (filled n z x) ≡ n) (length_filled n z) ls e)

  pub rows_long : (m : ℕ) (ls : List (List A)) → Each (λ x. length x ≤ n) ls → length ls ≤ m → length (flat_map (filled n z) (filled m [] ls)) ≡ m * n
  rows_long m ls e h =
      rows_wide (filled m [] ls) (each_filled (λ x. length x ≤ n) m [] ls zero-le e) ∙ ap (λ (i : ℕ). i * n) (length_filled m [] ls h)

  -- a row more writes over an empty one
  pub rows_more : (m k : ℕ) (ls : List (List A)) (x : List A) → Each (λ y. length y ≤ n) ls → length ls ≡ k → k < m
      → flat_map (filled n z) (filled m [] (ls ++ x ∷ []))
      ≡ take (k * n) (flat_map (filled n z) (filled m [] ls)) ++ filled n z x ++ drop (k * n + n) (flat_map (filled n z) (filled m [] ls))
  unfolding filled flat_map
  rows_more m k ls x e h g =
      let a : List A = flat_map (filled n z) ls in
      let c : List A = flat_map (filled n z) (replicate (m - suc k) []) in
      let o : List A = filled n z [] in
      let u : m - length (ls ++ x ∷ []) ≡ m - suc k = omega (arith, length-append ls (x ∷ [])) in
      let v : m - length ls ≡ suc (m - suc k) = omega arith in
      let w : length a ≡ k * n = rows_wide ls e ∙ ap (λ (i : ℕ). i * n) h in
      let t : length (a ++ o) ≡ k * n + n = omega (arith, length-append a o, length_filled n z [] zero-le) in
      let new : flat_map (filled n z) (ls ++ x ∷ [] ++ replicate (m - length (ls ++ x ∷ [])) []) ≡ a ++ filled n z x ++ c =
      ap (λ (i : ℕ). flat_map (filled n z) (ls ++ x ∷ [] ++ replicate i [])) u
      ∙ ap (flat_map (filled n z)) (append_snoc ls x (replicate (m - suc k) []))
      ∙ flat_map_append (filled n z) ls (x ∷ replicate (m - suc k) [])
      ∙ sym (append_assoc a (filled n z x) c) in
      let old : flat_map (filled n z) (ls ++ replicate (m - length ls) []) ≡ a ++ (o ++ c) =
      ap (λ (i : ℕ). flat_map (filled n z) (ls ++ replicate i [])) v
      ∙ flat_map_append (filled n z) ls ([] ∷ replicate (m - suc k) []) in
      let front : take (k * n) (flat_map (filled n z) (ls ++ replicate (m - length ls) [])) ≡ a = ap (take (k * n)) old ∙ take_at a (o ++ c) (k * n) w in
      let back : drop (k * n + n) (flat_map (filled n z) (ls ++ replicate (m - length ls) [])) ≡ c = ap (drop (k * n + n)) (old ∙ sym (append_assoc a o c)) ∙ drop_at (a ++ o) c (k * n + n) t in
      new ∙ sym (ap (λ (y : List A). y ++ filled n z x ++ drop (k * n + n) (flat_map (filled n z) (ls ++ replicate (m - length ls) []))) front ∙ ap (λ (y : List A). a ++ filled n z x ++ y) back)

-- ---- one point more

module _ (l : List ℕ) (ts : List (List ℕ)) where
  lists : ℕ → List (List ℕ)
  lists k = map (neighbours_of l ts) (from (length l) k)

  lists_more : (k : ℕ) → lists (k + 1) ≡ lists k ++ neighbours_of l ts (length l + k) ∷ []
  unfolding lists
  lists_more k = ap (map (neighbours_of l ts)) (from_snoc (length l) k) ∙ map-append (neighbours_of l ts) (from (length l) k) ((length l + k) ∷ [])

  lists_long : (k : ℕ) → length (lists k) ≡ k
  unfolding lists
  lists_long k = length-map (from (length l) k) (neighbours_of l ts) ∙ length_from (length l) k

  pub nums_none : replicate 14 0 ≡ (neighbours_in l ts 0).num_nbrs
  unfolding neighbours_in filled from
  nums_none = refl

  pub rows_none : replicate 560 0 ≡ (neighbours_in l ts 0).imag_nbrs
  unfolding neighbours_in filled from flat_map
  rows_none = refl

  pub nums_more : (k : ℕ) → k < 14 → (neighbours_in l ts (k + 1)).num_nbrs ≡ set (neighbours_in l ts k).num_nbrs k (length (neighbours_of l ts (length l + k)))
  unfolding neighbours_in lists
  nums_more k h =
      let e : length (map length (lists k)) ≡ k = length-map (lists k) length ∙ lists_long k in
      ap (λ (ls : List (List ℕ)). filled 14 0 (map length ls)) (lists_more k)
      ∙ ap (filled 14 0) (map-append length (lists k) (neighbours_of l ts (length l + k) ∷ []))
      ∙ sym (set_filled_at 14 0 (map length (lists k)) (length (neighbours_of l ts (length l + k))) (omega arith) refl (sym e))

  module _ (low : (i : ℕ) → i < length l → get_or l i 0 < 40) (k : ℕ) where
    few : Each (λ y. length y ≤ 40) (lists k)
    unfolding lists
    few =
        each_map (λ y. length y ≤ 40) (neighbours_of l ts) (from (length l) k) (each_from (λ q. length (neighbours_of l ts q) ≤ 40) (length l) k (λ q g f. neighbours_few l ts q low))

    pub imag_more : k < 14
        → (neighbours_in l ts (k + 1)).imag_nbrs
        ≡ take (k * 40) (neighbours_in l ts k).imag_nbrs ++ filled 40 0 (neighbours_of l ts (length l + k)) ++ drop (k * 40 + 40) (neighbours_in l ts k).imag_nbrs
    unfolding neighbours_in lists
    imag_more h =
        ap (λ (ls : List (List ℕ)). flat_map (filled 40 0) (filled 14 [] ls)) (lists_more k)
        ∙ rows_more 40 0 14 k (lists k) (neighbours_of l ts (length l + k)) few (lists_long k) h

pub both : {a b : List ℕ} (r : ImagNbrs) → a ≡ r.num_nbrs → b ≡ r.imag_nbrs → record { num_nbrs = a; imag_nbrs = b } ≡ r
both r e g = rw (e, g)

-- ---- a turn: the search holds the neighbours of the next point

module _ {out : List ℕ} (s : Slots out) (ts : List (List ℕ)) (k : ℕ) (h : k < 14) (p : ℕ) (e : p ≡ length out + k) (a : Search) (holds : a.nbrs ≡ filled 40 0 (neighbours_of out ts p)) (counts : a.found ≡ length (neighbours_of out ts p)) where
  pub count_few : a.found ≤ 40
  count_few = omega (arith, counts, neighbours_few out ts p s.low)

  pub turn_nums : {nums : List ℕ} → nums ≡ (neighbours_in out ts k).num_nbrs → set nums k a.found ≡ (neighbours_in out ts (k + 1)).num_nbrs
  turn_nums g = rw (g, counts, e) (sym (nums_more out ts k h))

  pub turn_imag : {all new : List ℕ} → all ≡ (neighbours_in out ts k).imag_nbrs → new ≡ take (k * 40) all ++ a.nbrs ++ drop (k * 40 + 40) all → new ≡ (neighbours_in out ts (k + 1)).imag_nbrs
  turn_imag g m = rw (m, g, holds, e) (sym (imag_more out ts s.low k h))
