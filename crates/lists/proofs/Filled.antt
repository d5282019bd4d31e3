-- Laws of `filled`: its length, its elements, one element or several more stored at its end. A store at the end writes over a filling element. Assumes nothing.
use Prim.Native.Nat.{ℕ, suc, ◌+◌, ◌-◌, ◌≤◌, ◌<◌}
use mathlib.Core.Path.{◌≡◌, refl, sym, ap, ◌∙◌}
use mathlib.Core.List.{List, [], ◌∷◌, ◌++◌, append-nil}
use native.Mathlib.Nat.{sub-zero}
use native.Mathlib.Omega.{arith}
use lib.ListN.{length, get_or, set, take, replicate, length-append, length-replicate, get_or-append}
use lib.Seq.{set-append_seam, append_snoc, take_at}
use Rattle.lists.specs.Lists.{filled}

module _ {A : Type 0} (n : ℕ) (z : A) where
  pub filled_none : filled n z [] ≡ replicate n z
  unfolding filled
  filled_none = rw sub-zero

  pub length_filled : (l : List A) → length l ≤ n → length (filled n z l) ≡ n
  unfolding filled
  length_filled l h = omega (arith, length-append l (replicate (n - length l) z), length-replicate (n - length l) z)

  -- a full list stays
  pub filled_all : (l : List A) → n ≤ length l → filled n z l ≡ l
  unfolding filled
  filled_all l h =
      let e : n - length l ≡ 0 = omega arith in
      rw e (append-nil l)

  -- one element more
  pub set_filled : (l : List A) (v : A) → length l < n → set (filled n z l) (length l) v ≡ filled n z (l ++ v ∷ [])
  unfolding filled
  set_filled l v h =
      let e : n - length l ≡ suc (n - length (l ++ v ∷ [])) = omega (arith, length-append l (v ∷ [])) in
      rw e (set-append_seam l z (replicate (n - length (l ++ v ∷ [])) z) v ∙ sym (append_snoc l v _))

  -- the same of an array a and a count k that hold the list
  pub set_filled_at : (l : List A) (v : A) {a : List A} {k : ℕ} → length l < n → a ≡ filled n z l → k ≡ length l → set a k v ≡ filled n z (l ++ v ∷ [])
  set_filled_at l v h e g = rw (e, g) (set_filled l v h)

  pub get_d_filled : (l : List A) (i : ℕ) (d : A) → i < length l → get_or (filled n z l) i d ≡ get_or l i d
  unfolding filled
  get_d_filled l i d h = get_or-append l (replicate (n - length l) z) d i h

  -- what was stored
  pub take_filled : (l : List A) → take (length l) (filled n z l) ≡ l
  unfolding filled
  take_filled l = take_at l (replicate (n - length l) z) (length l) refl

-- ---- a loop that stores what it finds at the end of what it has

-- the array a holds the list l, and count is its length
pub record Gathered {A : Type 0} (n : ℕ) (z : A) (l a : List A) (count : ℕ) : Type 0 where
  pub counts : count ≡ length l
  pub holds : a ≡ filled n z l

module _ {A : Type 0} (n : ℕ) (z : A) where
  pub gathered_none : Gathered n z [] (replicate n z) 0
  gathered_none = record { counts = refl; holds = sym (filled_none n z) }

  -- the same list, told otherwise
  pub gathered_same : {l m a : List A} {count : ℕ} → m ≡ l → Gathered n z l a count → Gathered n z m a count
  gathered_same e g = record { counts = g.counts ∙ ap length (sym e); holds = g.holds ∙ ap (filled n z) (sym e) }

  pub gathered_more : {l a : List A} {count : ℕ} (v : A) → count < n → Gathered n z l a count → Gathered n z (l ++ v ∷ []) (set a count v) (count + 1)
  gathered_more {l} {a} {count} v h g =
      record {
        counts = omega (arith, g.counts, length-append l (v ∷ []));
        holds = set_filled_at n z l v (omega (arith, g.counts)) g.holds g.counts;
      }
