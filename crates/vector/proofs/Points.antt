-- A point of a flat array, read place by place, is the part of the array there. Assumes nothing.
use Prim.Native.Nat.{ℕ, zero, suc, ◌+◌, ◌*◌, ◌≤◌, ◌<◌}
use mathlib.Core.Path.{◌≡◌, refl, sym, ◌∙◌}
use mathlib.Core.List.{List, [], ◌∷◌}
use native.Mathlib.Nat.{not-suc-le-zero}
use native.Mathlib.Omega.{arith}
use lib.ListN.{length, get_or}
use Rattle.lists.specs.Lists.{part}
use Rattle.lists.proofs.Parts.{part_three}
use Rattle.vector.specs.Vector.{places_in}

-- a place that is there reads the same with any default
read_any : {A : Type 0} (l : List A) (k : ℕ) (d e : A) → k < length l → get_or l k d ≡ get_or l k e
read_any [] k d e h = absurd (not-suc-le-zero h)
read_any (a ∷ l) zero d e h = refl
read_any (a ∷ l) (suc k) d e h = read_any l k d e (omega arith)

-- three places as they are read, each with itself as the default
module _ {A : Type 0} (l : List A) (i : ℕ) (h : i * 3 + 3 ≤ length l) {x y z : A}
    (first : x ≡ get_or l (i * 3) x) (second : y ≡ get_or l (i * 3 + 1) y) (third : z ≡ get_or l (i * 3 + 2) z) where
  pub three_read : (d : A) → x ∷ y ∷ z ∷ [] ≡ places_in d l i
  unfolding places_in
  three_read d =
      rw (first ∙ read_any l (i * 3) x d (omega arith), second ∙ read_any l (i * 3 + 1) y d (omega arith), third ∙ read_any l (i * 3 + 2) z d (omega arith)) refl

  pub three_part : x ∷ y ∷ z ∷ [] ≡ part 3 l i
  unfolding places_in
  three_part = three_read x ∙ sym (part_three l i x h)
