-- Laws of verdicts that are laid in the arrays: what one verdict more changes. A kept triplet is stored behind the others, up to 80. Assumes nothing.
use Prim.Native.Nat.{ℕ, zero, suc, ◌+◌, ◌*◌, ◌≤◌, ◌<◌}
use mathlib.Core.Path.{◌≡◌, refl, sym, ap, ◌∙◌}
use mathlib.Core.Bool.{Bool, true, false, ◌&&◌, not, and-true}
use mathlib.Core.List.{List, [], ◌∷◌, ◌++◌, map, map-append, flat_map, append_assoc, append-nil}
use native.Mathlib.Numerals.{add-one}
use native.Mathlib.Omega.{arith}
use borrow.Author.Tests.{lt-ltb, le-ltb, ltb-true, ltb-false, ne_eqb}
use lib.Dec.{ltb, leb, eqb}
use lib.Ieee.{Float, nan}
use lib.ListN.{length, take, set, get_or, replicate, length-append, length-map}
use lib.Seq.{sets, take_all, take-append-le, length-take-le, set-append_left, append_snoc}
use Rattle.lists.specs.Lists.{from, range, between, collect, any, is_empty, filled}
use Rattle.lists.proofs.Ranges.{range_none, range_snoc, range_between, between_none, between_cons}
use Rattle.lists.proofs.Collect.{flat_map_snoc, foldl_snoc, collect_some, collect_none}
use Rattle.lists.proofs.Filled.{set_filled, set_filled_at, length_filled}
use Rattle.lists.proofs.Tests.{and_comm, or_false, or_true, any_snoc}
use Rattle.lists.proofs.Rows.{set_append_right}
use Rattle.float_order.specs.Values.{+0}
use Rattle.vector.specs.Vector.{Points}
use Rattle.layout_hull.specs.Triplets.{Triplet, Verdict, skip, open_hull, keep, kept, opens, verdicts, triplets_of, closed}
use Rattle.layout_hull.specs.Inner.Flat.{numbers_of, entries_of, inverses_of, hull_of}
use Rattle.layout_hull.specs.Inner.Steps.{inverses_with, put_of, tiled_of}
use Rattle.layout_hull.specs.declared.Hull.{Hull}

-- ---- several stores

pub sets_filled : {A : Type 0} (n : ℕ) (z : A) (vs l : List A) → length l + length vs ≤ n → sets (filled n z l) (length l) vs ≡ filled n z (l ++ vs)
sets_filled n z [] l h = rw append-nil refl
sets_filled n z (v ∷ vs) l h =
    let e : suc (length l) ≡ length (l ++ v ∷ []) = omega (arith, length-append l (v ∷ [])) in
    rw (set_filled n z l v (omega arith), e) (sets_filled n z vs (l ++ v ∷ []) (omega arith) ∙ ap (filled n z) (append_snoc l v vs))

-- ---- the numbers

numbers_snoc : (l : List Triplet) (t : Triplet) → numbers_of (l ++ t ∷ []) ≡ numbers_of l ++ t.i ∷ t.j ∷ t.k ∷ []
unfolding numbers_of
numbers_snoc l t = flat_map_snoc (λ (t : Triplet). t.i ∷ t.j ∷ t.k ∷ []) l t

pub length_numbers : (l : List Triplet) → length (numbers_of l) ≡ length l * 3
unfolding numbers_of flat_map
length_numbers [] = refl
length_numbers (t ∷ l) = omega (arith, length_numbers l)

sets_numbers : (l : List Triplet) (t : Triplet) → length l < 80
    → sets (filled 240 0 (numbers_of l)) (length l * 3) (t.i ∷ t.j ∷ t.k ∷ []) ≡ filled 240 0 (numbers_of (l ++ t ∷ []))
sets_numbers l t h = rw (← length_numbers l, numbers_snoc) (sets_filled 240 0 (t.i ∷ t.j ∷ t.k ∷ []) (numbers_of l) (omega (arith, length_numbers l)))

-- ---- the inverses

length_entries : (l : List Triplet) (e : ℕ) → length l ≤ 80 → length (entries_of l e) ≡ 80
unfolding entries_of
length_entries l e h =
    let f : Triplet → Float = λ t. get_or t.inv e nan in
    length_filled 80 +0 (map f l) (omega (arith, length-map l f))

length_inverses : (l : List Triplet) (n : ℕ) → length l ≤ 80 → length (flat_map (entries_of l) (range n)) ≡ n * 80
unfolding flat_map
length_inverses l zero h = rw range_none
length_inverses l (suc n) h =
    rw (← add-one n, range_snoc n, flat_map_snoc (entries_of l) (range n) n)
    (omega (arith, length-append (flat_map (entries_of l) (range n)) (entries_of l n), length_inverses l n h, length_entries l n h))

module _ (l : List Triplet) (t : Triplet) (h : length l < 80) where
  abbrev more : List Triplet
  more = l ++ t ∷ []

  set_entries : (e : ℕ) → set (entries_of l e) (length l) (get_or t.inv e nan) ≡ entries_of more e
  unfolding entries_of
  set_entries e =
      let f : Triplet → Float = λ t. get_or t.inv e nan in
      rw (map-append f l (t ∷ [])) (set_filled_at 80 +0 (map f l) (f t) (omega (arith, length-map l f)) refl (sym (length-map l f)))

  -- the first n entries are stored
  inverses_with_lem : (n : ℕ) → n ≤ 9
      → inverses_with (inverses_of l) (length l) t.inv n ≡ flat_map (entries_of more) (range n) ++ flat_map (entries_of l) (between n 9)
  unfolding inverses_with inverses_of flat_map
  inverses_with_lem zero g = rw (range_none, range_between 9)
  inverses_with_lem (suc n) g =
      let a : List Float = flat_map (entries_of more) (range n) in
      let b : List Float = flat_map (entries_of l) (between (n + 1) 9) in
      let s : ℕ → List Float → List Float = λ e r. set r (e * 80 + length l) (get_or t.inv e nan) in
      let i : length a ≡ n * 80 = length_inverses more n (omega (arith, length-append l (t ∷ []))) in
      let p : flat_map (entries_of l) (between n 9) ≡ entries_of l n ++ b = ap (flat_map (entries_of l)) (between_cons n 9 (omega arith)) in
      let q : set (a ++ (entries_of l n ++ b)) (n * 80 + length l) (get_or t.inv n nan) ≡ a ++ (entries_of more n ++ b) =
      rw (← i, set_append_right, set-append_left (entries_of l n) b (length l) (get_or t.inv n nan) (omega (arith, length_entries l n (omega arith))), set_entries n) refl in
      rw (← add-one n, range_snoc n, foldl_snoc, inverses_with_lem n (omega arith), p, q, flat_map_snoc (entries_of more) (range n) n) (sym (append_assoc a (entries_of more n) b))

  inverses_more : inverses_with (inverses_of l) (length l) t.inv 9 ≡ inverses_of more
  unfolding flat_map inverses_of
  inverses_more = inverses_with_lem 9 (omega arith) ∙ rw (between_none 9 9 (omega arith)) (append-nil _)

-- ---- one triplet more: below 80 both arrays take it; else only the mark is set

module _ (h : Hull) (i j k : ℕ) (m : List Float) where
  pub put_more : h.count < 80
      → ◌≡◌ {A = Hull}
      (record { idx = sets h.idx (h.count * 3) (i ∷ j ∷ k ∷ []); inv = inverses_with h.inv h.count m 9; count = h.count + 1; over = h.over; enclosed = h.enclosed })
      (put_of h i j k m)
  unfolding put_of
  put_more e = rw (lt-ltb h.count 80 e) refl

  pub put_full : 80 ≤ h.count
      → ◌≡◌ {A = Hull} (record { idx = h.idx; inv = h.inv; count = h.count; over = true; enclosed = h.enclosed }) (put_of h i j k m)
  unfolding put_of
  put_full e = rw (le-ltb h.count 80 e) refl

-- ---- the hull of the verdicts so far

unfoldable pub laid_of : ℕ → List Verdict → Hull
laid_of n vs =
    let l = take 80 (collect kept vs) in
    record {
      idx = filled 240 0 (numbers_of l);
      inv = inverses_of l;
      count = length l;
      over = ltb 80 (length (collect kept vs));
      enclosed = leb 4 n && not (any opens vs);
    }

module _ (n : ℕ) (vs : List Verdict) where
  pub laid_skip : laid_of n vs ≡ laid_of n (vs ++ skip ∷ [])
  unfolding laid_of kept opens
  laid_skip = rw (collect_none kept vs skip refl, any_snoc opens vs skip, or_false) refl

  pub laid_open : (h : Hull) → h ≡ laid_of n vs
      → ◌≡◌ {A = Hull} (record { idx = h.idx; inv = h.inv; count = h.count; over = h.over; enclosed = false }) (laid_of n (vs ++ open_hull ∷ []))
  unfolding laid_of kept opens
  laid_open h e =
      let o : any opens (vs ++ open_hull ∷ []) ≡ true = any_snoc opens vs open_hull ∙ or_true (any opens vs) in
      let s : ◌≡◌ {A = Hull} (record { idx = h.idx; inv = h.inv; count = h.count; over = h.over; enclosed = false })
      (record { idx = (laid_of n vs).idx; inv = (laid_of n vs).inv; count = (laid_of n vs).count; over = (laid_of n vs).over; enclosed = false }) = ap shut e in
      s ∙ rw (collect_none kept vs open_hull refl, o, and_comm _ false) refl
    where
      shut : Hull → Hull
      shut g = record { idx = g.idx; inv = g.inv; count = g.count; over = g.over; enclosed = false }

  module _ (t : Triplet) where
    keep_snoc : collect kept (vs ++ keep t ∷ []) ≡ collect kept vs ++ t ∷ []
    unfolding kept
    keep_snoc = collect_some kept vs (keep t) t refl

    keep_any : any opens (vs ++ keep t ∷ []) ≡ any opens vs
    unfolding opens
    keep_any = any_snoc opens vs (keep t) ∙ or_false (any opens vs)

    keep_less : length (collect kept vs) < 80 → put_of (laid_of n vs) t.i t.j t.k t.inv ≡ laid_of n (vs ++ keep t ∷ [])
    unfolding laid_of put_of
    keep_less h =
        let l : List Triplet = collect kept vs in
        let a : take 80 l ≡ l = take_all 80 l (omega arith) in
        let m : length (l ++ t ∷ []) ≡ length l + 1 = length-append l (t ∷ []) in
        let b : take 80 (l ++ t ∷ []) ≡ l ++ t ∷ [] = take_all 80 (l ++ t ∷ []) (omega arith) in
        let o : ltb 80 (length l) ≡ false = le-ltb 80 (length l) (omega arith) in
        let p : ltb 80 (length (l ++ t ∷ [])) ≡ false = le-ltb 80 (length (l ++ t ∷ [])) (omega arith) in
        rw (keep_snoc, keep_any, a, lt-ltb (length l) 80 h, b) (cc (sets_numbers l t h, inverses_more l t h))

    keep_full : 80 ≤ length (collect kept vs) → put_of (laid_of n vs) t.i t.j t.k t.inv ≡ laid_of n (vs ++ keep t ∷ [])
    unfolding laid_of put_of
    keep_full h =
        let l : List Triplet = collect kept vs in
        let a : length (take 80 l) ≡ 80 = length-take-le 80 l h in
        let b : take 80 (l ++ t ∷ []) ≡ take 80 l = take-append-le 80 l (t ∷ []) h in
        let o : ltb 80 (length (l ++ t ∷ [])) ≡ true = lt-ltb 80 (length (l ++ t ∷ [])) (omega (arith, length-append l (t ∷ []))) in
        rw (keep_snoc, keep_any, b, o, a) refl

    keep_by : (b : Bool) → ltb (length (collect kept vs)) 80 ≡ b → put_of (laid_of n vs) t.i t.j t.k t.inv ≡ laid_of n (vs ++ keep t ∷ [])
    keep_by true e = keep_less (ltb-true _ _ e)
    keep_by false e = keep_full (ltb-false _ _ e)

    pub laid_keep : put_of (laid_of n vs) t.i t.j t.k t.inv ≡ laid_of n (vs ++ keep t ∷ [])
    laid_keep = keep_by _ refl

pub laid_start : (n : ℕ) → ◌≡◌ {A = Hull} (record { idx = replicate 240 0; inv = replicate 720 +0; count = 0; over = false; enclosed = leb 4 n }) (laid_of n [])
unfolding laid_of collect any numbers_of inverses_of entries_of filled flat_map range from
laid_start n = rw (and-true (leb 4 n)) refl

no_front : (l : List Triplet) → eqb (length (take 80 l)) 0 ≡ is_empty l
unfolding is_empty
no_front [] = refl
no_front (t ∷ l) = le_eqb (length (take 79 l))
  where
    le_eqb : (m : ℕ) → eqb (suc m) 0 ≡ false
    le_eqb m = ne_eqb (suc m) 0 (λ e. omega arith)

pub tiled_laid : (pts : Points) → tiled_of (laid_of (length pts) (verdicts pts)) ≡ hull_of pts
unfolding tiled_of laid_of hull_of triplets_of closed
tiled_laid pts = rw (no_front (collect kept (verdicts pts))) refl
