-- A list sorted by insertion is the list in order: each insertion keeps the spots, keeps the rise, and puts its spot behind those of its kind. Assumes nothing.
use Prim.Native.Nat.{ℕ, zero, suc, ◌<◌}
use mathlib.Core.Path.{◌≡◌, refl, sym, ap, ◌∙◌}
use mathlib.Core.Bool.{Bool, true, false, not, cond, ◌&&◌}
use mathlib.Core.List.Permᴰ
use mathlib.Core.List.{List, [], ◌∷◌, ◌++◌, foldl, append-nil, append_assoc, Permᴰ}
use native.Mathlib.Nat.{not-suc-le-zero}
use native.Mathlib.Omega.{arith}
use lib.ListN.{length, get_or}
use lib.Ieee.{Float, lt, eq}
use borrow.Author.Tests.{not-true}
use Rattle.lists.specs.Lists.{every, filter}
use Rattle.lists.proofs.Tests.{and_left, and_right, every_at}
use Rattle.lists.proofs.Collect.{filter_append}
use Rattle.angle_sort.specs.declared.Spot.{Spot}
use Rattle.angle_sort.specs.Order.{insert_of, sorted_of}
use Rattle.angle_sort.specs.Meaning.{SortedMeaning}
use Rattle.angle_sort.proofs.Equals.{Alike, equal_alike}
use Rattle.angle_sort.proofs.Angles.{float_lt_trans, float_lt_asym, float_lt_self}
use Rattle.angle_sort.proofs.Insertion.{every_insert}

-- ---- the same spots

insert_same : (l : List Spot) (s : Spot) → Permᴰ (insert_of l s) (s ∷ l)
unfolding insert_of
insert_same [] s = Permᴰ.refl (s ∷ [])
insert_same (t ∷ l) s = by (lt s.angle t.angle) (insert_same l s)
  where
    by : (b : Bool) → Permᴰ (insert_of l s) (s ∷ l) → Permᴰ (cond b (s ∷ t ∷ l) (t ∷ insert_of l s)) (s ∷ t ∷ l)
    by true p = Permᴰ.refl (s ∷ t ∷ l)
    by false p = Permᴰ.trans (Permᴰ.cons refl p) (Permᴰ.swap refl refl)

folded_same : (l m : List Spot) → Permᴰ (foldl insert_of m l) (m ++ l)
folded_same [] m = Permᴰ.symm (Permᴰ.append-nil m)
folded_same (s ∷ l) m =
    Permᴰ.trans (folded_same l (insert_of m s)) (Permᴰ.trans (Permᴰ.append_right l (insert_same m s)) (Permᴰ.symm (Permᴰ.middle s m l)))

-- ---- no later angle is below an earlier one

-- t's angle is not above u's
abbrev not_below : Spot → Spot → Bool
not_below t u = not (lt u.angle t.angle)

unfoldable rises : List Spot → Bool
rises [] = true
rises (t ∷ l) = every (not_below t) l && rises l

every_mono : {A : Type 0} (f g : A → Bool) → ((a : A) → f a ≡ true → g a ≡ true) → (l : List A) → every f l ≡ true → every g l ≡ true
unfolding every
every_mono f g w [] e = refl
every_mono f g w (a ∷ l) e = rw (w a (and_left (f a) (every f l) e)) (every_mono f g w l (and_right (f a) (every f l) e))

-- what is not below t is not below s, which is below t
not_below_less : (s t : Spot) → lt s.angle t.angle ≡ true → (u : Spot) → not_below t u ≡ true → not_below s u ≡ true
not_below_less s t h u e = by (lt u.angle s.angle) refl
  where
    by : (b : Bool) → lt u.angle s.angle ≡ b → not b ≡ true
    by true g = let p : lt u.angle t.angle ≡ true = float_lt_trans u.angle s.angle t.angle g h in rw p at e
    by false g = refl

insert_rises : (l : List Spot) (s : Spot) → rises l ≡ true → rises (insert_of l s) ≡ true
unfolding insert_of rises every
insert_rises [] s e = refl
insert_rises (t ∷ l) s e = by (lt s.angle t.angle) refl (insert_rises l s (and_right (every (not_below t) l) (rises l) e))
  where
    by : (b : Bool) → lt s.angle t.angle ≡ b → rises (insert_of l s) ≡ true → rises (cond b (s ∷ t ∷ l) (t ∷ insert_of l s)) ≡ true
    by true h r =
        rw (float_lt_asym s.angle t.angle h, every_mono (not_below t) (not_below s) (not_below_less s t h) l (and_left (every (not_below t) l) (rises l) e)) e
    by false h r = rw (every_insert (not_below t) l s, and_left (every (not_below t) l) (rises l) e, h) r

folded_rises : (l m : List Spot) → rises m ≡ true → rises (foldl insert_of m l) ≡ true
folded_rises [] m e = e
folded_rises (s ∷ l) m e = folded_rises l (insert_of m s) (insert_rises m s e)

rises_at : (l : List Spot) → rises l ≡ true → (i j : ℕ) (d : Spot) → i < j → j < length l → lt (get_or l j d).angle (get_or l i d).angle ≡ false
unfolding rises
rises_at [] e i j d h g = absurd (not-suc-le-zero g)
rises_at (t ∷ l) e i zero d h g = absurd (not-suc-le-zero h)
rises_at (t ∷ l) e zero (suc j) d h g =
    not-true (lt (get_or l j d).angle t.angle) (every_at (not_below t) l j d (and_left (every (not_below t) l) (rises l) e) (omega arith))
rises_at (t ∷ l) e (suc i) (suc j) d h g = rises_at l (and_right (every (not_below t) l) (rises l) e) i j d (omega arith) (omega arith)

-- ---- spots of one kind stay in their order

filter_none : {A : Type 0} (f : A → Bool) (l : List A) → every (λ a. not (f a)) l ≡ true → filter f l ≡ []
unfolding filter every
filter_none f [] e = refl
filter_none f (a ∷ l) e =
    rw (not-true (f a) (and_left (not (f a)) (every (λ b. not (f b)) l) e)) (filter_none f l (and_right (not (f a)) (every (λ b. not (f b)) l) e))

module _ (f : Float → Bool) (alike : Alike f) where
  abbrev kind : Spot → Bool
  kind t = f t.angle

  -- what is not below t is not of the kind of s, which is below t
  not_kind : (s t : Spot) → lt s.angle t.angle ≡ true → kind s ≡ true → (u : Spot) → not_below t u ≡ true → not (kind u) ≡ true
  not_kind s t h k u e = by (kind u) refl
    where
      by : (b : Bool) → kind u ≡ b → not b ≡ true
      by true g = let p : lt u.angle t.angle ≡ true = alike u.angle s.angle t.angle g k ∙ h in rw p at e
      by false g = refl

  insert_kind : (l : List Spot) (s : Spot) → rises l ≡ true → filter kind (insert_of l s) ≡ filter kind l ++ filter kind (s ∷ [])
  unfolding insert_of filter rises every
  insert_kind [] s e = refl
  insert_kind (t ∷ l) s e = by (lt s.angle t.angle) refl (insert_kind l s (and_right (every (not_below t) l) (rises l) e))
    where
      before : lt s.angle t.angle ≡ true → (b : Bool) → kind s ≡ b → cond b (s ∷ filter kind (t ∷ l)) (filter kind (t ∷ l)) ≡ filter kind (t ∷ l) ++ cond b (s ∷ []) []
      before h false k = sym (append-nil (filter kind (t ∷ l)))
      before h true k =
          let self : every (not_below t) (t ∷ l) ≡ true = rw (float_lt_self t.angle) (and_left (every (not_below t) l) (rises l) e) in
          let none : filter kind (t ∷ l) ≡ [] =
          filter_none kind (t ∷ l) (every_mono (not_below t) (λ u. not (kind u)) (not_kind s t h k) (t ∷ l) self)
          in
          ap (λ (r : List Spot). s ∷ r) none ∙ ap (λ (r : List Spot). r ++ s ∷ []) (sym none)

      behind : (b : Bool) → filter kind (insert_of l s) ≡ filter kind l ++ filter kind (s ∷ [])
          → cond b (t ∷ filter kind (insert_of l s)) (filter kind (insert_of l s)) ≡ cond b (t ∷ filter kind l) (filter kind l) ++ filter kind (s ∷ [])
      behind true p = ap (λ (r : List Spot). t ∷ r) p
      behind false p = p

      by : (b : Bool) → lt s.angle t.angle ≡ b → filter kind (insert_of l s) ≡ filter kind l ++ filter kind (s ∷ [])
          → filter kind (cond b (s ∷ t ∷ l) (t ∷ insert_of l s)) ≡ filter kind (t ∷ l) ++ filter kind (s ∷ [])
      by true h p = before h (kind s) refl
      by false h p = behind (kind t) p

  folded_kind : (l m : List Spot) → rises m ≡ true → filter kind (foldl insert_of m l) ≡ filter kind m ++ filter kind l
  unfolding filter
  folded_kind [] m e = sym (append-nil (filter kind m))
  folded_kind (s ∷ l) m e =
      folded_kind l (insert_of m s) (insert_rises m s e)
      ∙ ap (λ (r : List Spot). r ++ filter kind l) (insert_kind m s e)
      ∙ append_assoc (filter kind m) (filter kind (s ∷ [])) (filter kind l)
      ∙ ap (λ (r : List Spot). filter kind m ++ r) (sym (filter_append kind (s ∷ []) l))

pub sorted_meaning : SortedMeaning
unfolding sorted_of rises filter
sorted_meaning l =
    record {
      same = folded_same l [];
      ascending = rises_at (foldl insert_of [] l) (folded_rises l [] refl);
      stable = λ v. folded_kind (eq v) (equal_alike v) l [] refl;
    }
