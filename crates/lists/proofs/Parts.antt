-- Laws of `part`: its length, its elements, parts of two and three as reads, and rows of one width that lie one after the other. Assumes nothing.
use Prim.Native.Nat.{ℕ, zero, suc, ◌+◌, ◌*◌, ◌≤◌, ◌<◌}
use mathlib.Core.Path.{◌≡◌, sym, ap, ◌∙◌}
use mathlib.Core.Bool.{true}
use mathlib.Core.List.{List, [], ◌∷◌, ◌++◌, append_assoc, flat_map}
use native.Mathlib.Nat.{add-zero, zero-mul, suc-mul, not-suc-le-zero}
use native.Mathlib.Numerals.{add-one}
use native.Mathlib.Omega.{arith}
use borrow.Author.Tests.{eqb-true}
use lib.Dec.{eqb}
use lib.ListN.{length, get_or, take, drop, length-drop}
use lib.Seq.{get_or-take, get_or-drop, length-take-le, drop-append-le, take-append-le, take_all, take-add, take_at, drop-append-add}
use Rattle.lists.specs.Lists.{from, range, part, every}
use Rattle.lists.proofs.Ranges.{range_none, range_snoc, drop_places}
use Rattle.lists.proofs.Collect.{flat_map_snoc}
use Rattle.lists.proofs.Tests.{both}

module _ {A : Type 0} (n : ℕ) (l : List A) (k : ℕ) where
  pub length_part : k * n + n ≤ length l → length (part n l k) ≡ n
  unfolding part
  length_part h = length-take-le n (drop (k * n) l) (omega (arith, length-drop (k * n) l))

  pub get_d_part : (i : ℕ) (d : A) → i < n → get_or (part n l k) i d ≡ get_or l (k * n + i) d
  unfolding part
  get_d_part i d h = get_or-take n (drop (k * n) l) i d h ∙ get_or-drop (k * n) l i d

  -- a part lies in the front that holds it
  pub part_append : (m : List A) → k * n + n ≤ length l → part n (l ++ m) k ≡ part n l k
  unfolding part
  part_append m h =
      let e : n ≤ length (drop (k * n) l) = omega (arith, length-drop (k * n) l) in
      rw (drop-append-le (k * n) l m (omega arith)) (take-append-le n (drop (k * n) l) m e)

-- ---- parts as reads

module _ {A : Type 0} (l : List A) (k : ℕ) (d : A) where
  pub take_two : k + 2 ≤ length l → take 2 (drop k l) ≡ get_or l k d ∷ get_or l (k + 1) d ∷ []
  unfolding range from
  take_two h = drop_places l d k 2 h ∙ rw (add-zero k)

  pub part_three : k * 3 + 3 ≤ length l → part 3 l k ≡ get_or l (k * 3) d ∷ get_or l (k * 3 + 1) d ∷ get_or l (k * 3 + 2) d ∷ []
  unfolding part range from
  part_three h = drop_places l d (k * 3) 3 h ∙ rw (add-zero (k * 3))

-- a list of three by its elements
pub three_places : {A : Type 0} (l : List A) (d : A) → length l ≡ 3 → get_or l 0 d ∷ get_or l 1 d ∷ get_or l 2 d ∷ [] ≡ l
unfolding part
three_places l d h =
    let e : 0 * 3 + 3 ≤ length l = omega arith in
    sym (part_three l 0 d e) ∙ take_all 3 l (omega arith)

-- three places at a time
pub threes : {A : Type 0} (l : List A) (d : A) (n : ℕ) → n * 3 ≤ length l
    → flat_map (λ t. get_or l (t * 3) d ∷ get_or l (t * 3 + 1) d ∷ get_or l (t * 3 + 2) d ∷ []) (range n) ≡ take (n * 3) l
unfolding flat_map part
threes {A} [] d zero h = let f : ℕ → List A = λ t. get_or [] (t * 3) d ∷ get_or [] (t * 3 + 1) d ∷ get_or [] (t * 3 + 2) d ∷ [] in ap (flat_map f) range_none
threes {A} (a ∷ l) d zero h = let f : ℕ → List A = λ t. get_or (a ∷ l) (t * 3) d ∷ get_or (a ∷ l) (t * 3 + 1) d ∷ get_or (a ∷ l) (t * 3 + 2) d ∷ [] in ap (flat_map f) range_none
threes {A} l d (suc n) h =
    let f : ℕ → List A = λ t. get_or l (t * 3) d ∷ get_or l (t * 3 + 1) d ∷ get_or l (t * 3 + 2) d ∷ [] in
    ap (λ (k : ℕ). flat_map f (range k)) (sym (add-one n))
    ∙ ap (flat_map f) (range_snoc n)
    ∙ flat_map_snoc f (range n) n
    ∙ ap (λ (r : List A). r ++ f n) (threes l d n (omega arith))
    ∙ ap (λ (r : List A). take (n * 3) l ++ r) (sym (part_three l n d (omega arith)))
    ∙ sym (ap (λ (k : ℕ). take k l) (suc-mul n 3) ∙ take-add (n * 3) 3 l)

-- ---- rows of one width, one after the other

module _ {A B : Type 0} (w : ℕ) (f : A → List B) where
  -- row i, whatever follows the rows
  pub part_row : (l : List A) (rest : List B) (i : ℕ) (d : A) → every (λ a. eqb (length (f a)) w) l ≡ true → i < length l
      → part w (flat_map f l ++ rest) i ≡ f (get_or l i d)
  unfolding every flat_map part
  part_row [] rest i d e h = absurd (not-suc-le-zero h)
  part_row (a ∷ l) rest zero d e h =
      let p = eqb-true (length (f a)) w (both (eqb (length (f a)) w) (every (λ b. eqb (length (f b)) w) l) e).0 in
      rw (zero-mul w, append_assoc) (take_at (f a) (flat_map f l ++ rest) w p)
  part_row (a ∷ l) rest (suc i) d e h =
      let q = both (eqb (length (f a)) w) (every (λ b. eqb (length (f b)) w) l) e in
      let p = eqb-true (length (f a)) w q.0 in
      let g : suc i * w ≡ length (f a) + i * w = suc-mul i w ∙ omega arith in
      rw (g, append_assoc, drop-append-add (f a) (flat_map f l ++ rest) (i * w)) (part_row l rest i d q.1 (omega arith))

  -- element j of row i
  pub get_d_row : (l : List A) (rest : List B) (i j : ℕ) (d : A) (b : B) → every (λ a. eqb (length (f a)) w) l ≡ true → i < length l → j < w
      → get_or (flat_map f l ++ rest) (i * w + j) b ≡ get_or (f (get_or l i d)) j b
  get_d_row l rest i j d b e h g =
      sym (get_d_part w (flat_map f l ++ rest) i j b g) ∙ ap (λ (r : List B). get_or r j b) (part_row l rest i d e h)
