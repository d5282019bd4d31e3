-- Stores of several elements, what fills a list at its end, and rows of one width that lie one after the other in a filled list: what a store, a read, a part and new rows make of it. Each by the list. Assumes nothing.
use Prim.Native.Nat.{ℕ, zero, suc, ◌+◌, ◌-◌, ◌*◌, ◌≤◌, ◌<◌}
use mathlib.Core.Path.{◌≡◌, refl, sym, ap, ◌∙◌}
use mathlib.Core.Bool.{true}
use mathlib.Core.List.{List, [], ◌∷◌, ◌++◌, append_assoc, flat_map}
use native.Mathlib.Nat.{suc-add, add-suc, add-zero, zero-add, zero-mul, suc-mul, add-mul, mul-le-mul_right, le_of_suc-le-suc, not-suc-le-zero, suc_inj}
use native.Mathlib.Omega.{arith}
use borrow.Author.Tests.{eq-eqb}
use lib.Dec.{eqb}
use lib.ListN.{length, get_or, set, replicate, length-append, length-replicate, length-set, replicate-append-replicate}
use lib.Seq.{sets, set-append_left, length-sets, set_comm, set-set, set-get_or, take_at, drop_at, drop-append-add}
use Rattle.lists.specs.Lists.{Each, every, from, range, filled, part}
use Rattle.lists.proofs.Tests.{and_both}
use Rattle.lists.proofs.Each.{length_rows}
use Rattle.lists.proofs.Parts.{part_row, get_d_row}

module _ {A : Type 0} where
  -- ---- several elements stored

  pub set_append_right : (xs ys : List A) (k : ℕ) (a : A) → set (xs ++ ys) (length xs + k) a ≡ xs ++ set ys k a
  set_append_right [] ys k a = rw (zero-add k)
  set_append_right (x ∷ xs) ys k a = rw (suc-add, set_append_right xs ys k a)

  sets_append_right : (xs ys : List A) (k : ℕ) (vs : List A) → sets (xs ++ ys) (length xs + k) vs ≡ xs ++ sets ys k vs
  sets_append_right xs ys k [] = refl
  sets_append_right xs ys k (v ∷ vs) = rw (set_append_right xs ys k v, ← add-suc (length xs) k) (sets_append_right xs (set ys k v) (suc k) vs)

  sets_append_left : (xs ys : List A) (k : ℕ) (vs : List A) → k + length vs ≤ length xs → sets (xs ++ ys) k vs ≡ sets xs k vs ++ ys
  sets_append_left xs ys k [] h = refl
  sets_append_left xs ys k (v ∷ vs) h =
      rw (set-append_left xs ys k v (omega arith))
      (sets_append_left (set xs k v) ys (suc k) vs (rw (length-set xs k v) (omega arith)))

  sets_suc : (x : A) (l : List A) (k : ℕ) (vs : List A) → sets (x ∷ l) (suc k) vs ≡ x ∷ sets l k vs
  sets_suc x l k [] = refl
  sets_suc x l k (v ∷ vs) = sets_suc x (set l k v) (suc k) vs

  -- a whole list overwritten
  pub sets_all : (l vs : List A) → length vs ≡ length l → sets l 0 vs ≡ vs
  sets_all [] [] e = refl
  sets_all [] (v ∷ vs) e = absurd (omega arith)
  sets_all (x ∷ l) [] e = absurd (omega arith)
  sets_all (x ∷ l) (v ∷ vs) e = sets_suc v l 0 vs ∙ ap (λ (m : List A). v ∷ m) (sets_all l vs (suc_inj e))

  -- what two places held, written over and then stored again
  pub sets_back : (l : List A) (k : ℕ) (a b d : A) → sets (sets l k (a ∷ b ∷ [])) k (get_or l k d ∷ get_or l (suc k) d ∷ []) ≡ l
  sets_back l k a b d =
      let apart : suc k ≡ k → ⊥ = λ e. omega arith in
      rw (set_comm (set l k a) (suc k) k b (get_or l k d) apart, set-set l k a (get_or l k d), set-get_or l k d, set-set l (suc k) b (get_or l (suc k) d))
      (set-get_or l (suc k) d)

  -- ---- what fills a list at its end

  -- it is what a read beyond the list gives
  pub get_d_fill : (l : List A) (m k : ℕ) (d : A) → get_or (l ++ replicate m d) k d ≡ get_or l k d
  get_d_fill [] zero k d = refl
  get_d_fill [] (suc m) zero d = refl
  get_d_fill [] (suc m) (suc k) d = get_d_fill [] m k d
  get_d_fill (x ∷ l) m zero d = refl
  get_d_fill (x ∷ l) m (suc k) d = get_d_fill l m k d

  pub get_d_filled_any : (n : ℕ) (z : A) (l : List A) (k : ℕ) → get_or (filled n z l) k z ≡ get_or l k z
  unfolding filled
  get_d_filled_any n z l k = get_d_fill l (n - length l) k z

  pub sets_filled : (n : ℕ) (z : A) (l : List A) (k : ℕ) (vs : List A) → k + length vs ≤ length l → sets (filled n z l) k vs ≡ filled n z (sets l k vs)
  unfolding filled
  sets_filled n z l k vs h =
      sets_append_left l (replicate (n - length l) z) k vs h
      ∙ ap (λ (m : ℕ). sets l k vs ++ replicate (n - m) z) (sym (length-sets l k vs))

  -- a list of the filling element
  pub filled_replicate : (n m : ℕ) (z : A) → m ≤ n → filled n z (replicate m z) ≡ replicate n z
  unfolding filled
  filled_replicate n m z h =
      let e : m + (n - m) ≡ n = omega arith in
      rw (length-replicate m z) (replicate-append-replicate m (n - m) z ∙ ap (λ (k : ℕ). replicate k z) e)

  part_replicate : (n k m : ℕ) (z : A) → k * m + m ≤ n → part m (replicate n z) k ≡ replicate m z
  unfolding part
  part_replicate n k m z h =
      let e : k * m + (m + (n - (k * m + m))) ≡ n = omega arith in
      let rest = replicate (n - (k * m + m)) z in
      let split : replicate n z ≡ replicate (k * m) z ++ (replicate m z ++ rest) =
      ap (λ (j : ℕ). replicate j z) (sym e)
      ∙ sym (replicate-append-replicate (k * m) (m + (n - (k * m + m))) z)
      ∙ ap (λ (r : List A). replicate (k * m) z ++ r) (sym (replicate-append-replicate m (n - (k * m + m)) z)) in
      rw (split, drop_at (replicate (k * m) z) (replicate m z ++ rest) (k * m) (length-replicate (k * m) z))
      (take_at (replicate m z) rest m (length-replicate m z))

-- ---- rows of one width

module _ {A B : Type 0} (w : ℕ) (f : A → List B) where
  -- a row of that width
  abbrev pub Wide : A → Type 0
  Wide a = length (f a) ≡ w

  every_wide : (l : List A) → Each Wide l → every (λ a. eqb (length (f a)) w) l ≡ true
  unfolding every
  every_wide [] e = refl
  every_wide (a ∷ l) e = and_both (eq-eqb (length (f a)) w e.0) (every_wide l e.1)

  -- a row stored in part, in the list of rows
  rows_sets : (l : List A) (d : A) (i j : ℕ) (a : A) (vs : List B) → Each Wide l → i < length l → j + length vs ≤ w
      → sets (f (get_or l i d)) j vs ≡ f a → sets (flat_map f l) (i * w + j) vs ≡ flat_map f (set l i a)
  unfolding flat_map
  rows_sets [] d i j a vs r h m e = absurd (not-suc-le-zero h)
  rows_sets (g ∷ l) d zero j a vs r h m e =
      rw (zero-mul w, zero-add j, sets_append_left (f g) (flat_map f l) j vs (rw r.0 m), e)
  rows_sets (g ∷ l) d (suc i) j a vs r h m e =
      let q : suc i * w + j ≡ length (f g) + (i * w + j) = rw (suc-mul, r.0) (omega arith) in
      rw (q, sets_append_right (f g) (flat_map f l) (i * w + j) vs, rows_sets l d i j a vs r.1 (le_of_suc-le-suc h) m e)

  module _ (n : ℕ) (z : B) where
    -- rows in a filled list
    abbrev pub rows_in : List A → List B
    rows_in l = filled n z (flat_map f l)

    pub rows_in_part : (l : List A) (d : A) (i : ℕ) → Each Wide l → i < length l → part w (rows_in l) i ≡ f (get_or l i d)
    unfolding filled
    rows_in_part l d i r h = part_row w f l (replicate (n - length (flat_map f l)) z) i d (every_wide l r) h

    pub rows_in_get_d : (l : List A) (d : A) (i j : ℕ) (b : B) → Each Wide l → i < length l → j < w → get_or (rows_in l) (i * w + j) b ≡ get_or (f (get_or l i d)) j b
    unfolding filled
    rows_in_get_d l d i j b r h m = get_d_row w f l (replicate (n - length (flat_map f l)) z) i j d b (every_wide l r) h m

    -- a part behind the rows
    pub rows_in_rest : (l : List A) (i : ℕ) → Each Wide l → length l ≤ i → i * w + w ≤ n → part w (rows_in l) i ≡ replicate w z
    unfolding filled part
    rows_in_rest l i r h m =
        let long : length (flat_map f l) ≡ length l * w = length_rows w f l r in
        let k : i ≡ length l + (i - length l) = omega arith in
        let at : i * w ≡ length (flat_map f l) + (i - length l) * w = ap (λ (j : ℕ). j * w) k ∙ add-mul (length l) (i - length l) w ∙ ap (λ (j : ℕ). j + (i - length l) * w) (sym long) in
        let room : (i - length l) * w + w ≤ n - length (flat_map f l) = omega arith in
        rw (at, drop-append-add (flat_map f l) (replicate (n - length (flat_map f l)) z) ((i - length l) * w))
        (part_replicate (n - length (flat_map f l)) (i - length l) w z room)

    -- a store in one row
    pub rows_in_sets : (l : List A) (d : A) (i j : ℕ) (a : A) (vs : List B) → Each Wide l → i < length l → j + length vs ≤ w
        → sets (f (get_or l i d)) j vs ≡ f a → sets (rows_in l) (i * w + j) vs ≡ rows_in (set l i a)
    rows_in_sets l d i j a vs r h m e =
        let long : length (flat_map f l) ≡ length l * w = length_rows w f l r in
        let room : suc i * w ≤ length l * w = mul-le-mul_right w h in
        let here : suc i * w ≡ i * w + w = suc-mul i w in
        sets_filled n z (flat_map f l) (i * w + j) vs (omega arith) ∙ ap (filled n z) (rows_sets l d i j a vs r h m e)

    -- rows that hold the filling element alone
    pub rows_in_replicate : (k : ℕ) (a : A) → f a ≡ replicate w z → k * w ≤ n → rows_in (replicate k a) ≡ replicate n z
    unfolding flat_map
    rows_in_replicate k a e h = ap (filled n z) (rows k) ∙ filled_replicate n (k * w) z h
      where
        rows : (k : ℕ) → flat_map f (replicate k a) ≡ replicate (k * w) z
        rows zero = rw zero-mul
        rows (suc k) =
            let q : suc k * w ≡ w + k * w = rw suc-mul (omega arith) in
            rw (e, rows k, q) (replicate-append-replicate w (k * w) z)

  -- rows by their numbers: those of the list, and behind them rows of the filling element
  from_rows : (g : ℕ → List B) (z : B) (l : List A) (d : A) (m s : ℕ) → Each Wide l → length l ≤ m
      → ((i : ℕ) → i < length l → g (s + i) ≡ f (get_or l i d)) → ((i : ℕ) → length l ≤ i → i < m → g (s + i) ≡ replicate w z)
      → flat_map g (from s m) ≡ filled (m * w) z (flat_map f l)
  unfolding flat_map from filled
  from_rows g z [] d zero s r h e o = rw zero-mul
  from_rows g z (a ∷ l) d zero s r h e o = absurd (not-suc-le-zero h)
  from_rows g z [] d (suc m) s r h e o =
      let here : g s ≡ replicate w z = rw (add-zero s) at (o 0 (omega arith) (omega arith)) in
      let rest = from_rows g z [] d m (suc s) r (omega arith) (λ i k. absurd (not-suc-le-zero k))
      (λ i k b. let q : suc s + i ≡ s + suc i = omega arith in rw q (o (suc i) (omega arith) (omega arith))) in
      let q : w + (m * w - 0) ≡ suc m * w - 0 = rw suc-mul (omega arith) in
      rw (here, rest) (replicate-append-replicate w (m * w - 0) z ∙ ap (λ (k : ℕ). replicate k z) q)
  from_rows g z (a ∷ l) d (suc m) s r h e o =
      let here : g s ≡ f a = rw (add-zero s) at (e 0 (omega arith)) in
      let rest = from_rows g z l d m (suc s) r.1 (le_of_suc-le-suc h)
      (λ i k. let q : suc s + i ≡ s + suc i = omega arith in rw q (e (suc i) (omega arith)))
      (λ i k b. let q : suc s + i ≡ s + suc i = omega arith in rw q (o (suc i) (omega arith) (omega arith))) in
      let q : m * w - length (flat_map f l) ≡ suc m * w - length (f a ++ flat_map f l) = rw (length-append (f a) (flat_map f l), r.0, suc-mul) (omega arith) in
      rw (here, rest) (ap (λ (k : ℕ). f a ++ (flat_map f l ++ replicate k z)) q ∙ sym (append_assoc (f a) (flat_map f l) _))

  pub range_rows : (g : ℕ → List B) (z : B) (l : List A) (d : A) (m : ℕ) → Each Wide l → length l ≤ m
      → ((i : ℕ) → i < length l → g i ≡ f (get_or l i d)) → ((i : ℕ) → length l ≤ i → i < m → g i ≡ replicate w z)
      → flat_map g (range m) ≡ rows_in (m * w) z l
  unfolding range
  range_rows g z l d m r h e o =
      from_rows g z l d m 0 r h (λ i k. rw (zero-add i) (e i k)) (λ i k b. rw (zero-add i) (o i k b))
