-- What is made of each pair, one behind another, and blanks behind them. Assumes nothing.
use Prim.Native.Nat.{ℕ, zero, suc, ◌+◌, ◌-◌, ◌*◌, ◌≤◌, ◌<◌}
use mathlib.Core.Path.{◌≡◌, refl, sym, ap, ◌∙◌}
use mathlib.Core.List.{List, [], ◌∷◌, ◌++◌, map, map-append, flat_map}
use native.Mathlib.Nat.{zero-mul, suc-mul}
use native.Mathlib.Omega.{arith}
use lib.LanesLaws.{map-replicate}
use lib.ListN.{length, get_or, set, take, replicate, length-append, length-map, replicate-append-replicate}
use lib.Seq.{length-take-le}
use Rattle.std.specs.List.{flat_map as joined}
use Rattle.std.proofs.lemmas.List.{take_more}
use Rattle.lists.specs.Lists.{filled}
use Rattle.lists.proofs.Collect.{map_snoc, flat_map_append, flat_map_map}
use Rattle.lists.proofs.Filled.{set_filled_at}
use Rattle.layout_planar.specs.declared.Law.{Law}
use Rattle.layout_planar.specs.declared.Law.TheVariants.{Inverse, Crossfade}
use Rattle.layout_planar.specs.declared.PlanarPair.{PlanarPair}
use Rattle.boundary_records.specs.Records.{law_numbers, numbers_of, bytes_of}

-- ---- a loop that stores what it makes of each element: one element more

pub laid_more : {A B : Type 0} (n : ℕ) (z : B) (h : A → B) (l : List A) {to : List B} {i : ℕ} {v : B} (d : A) → i < length l → length l ≤ n
    → v ≡ h (get_or l i d) → to ≡ filled n z (map h (take i l)) → set to i v ≡ filled n z (map h (take (i + 1) l))
laid_more n z h l {to} {i} {v} d b few e g =
    let long : length (map h (take i l)) ≡ i = length-map (take i l) h ∙ length-take-le i l (omega arith) in
    set_filled_at n z (map h (take i l)) v (omega (arith, long)) g (sym long)
    ∙ ap (filled n z) (ap (λ (x : _). map h (take i l) ++ x ∷ []) e ∙ sym (ap (map h) (take_more l i d b) ∙ map_snoc h (take i l) (get_or l i d)))

-- ---- parts of one length, one after another

module _ {A B : Type 0} (w : ℕ) (f : A → List B) (z : A) (y : B) where
  pub length_flat : ((a : A) → length (f a) ≡ w) → (l : List A) → length (flat_map f l) ≡ length l * w
  unfolding flat_map
  length_flat e [] = sym (zero-mul w)
  length_flat e (a ∷ l) = length-append (f a) (flat_map f l) ∙ omega (arith, e a, length_flat e l, suc-mul (length l) w)

  flat_replicate : f z ≡ replicate w y → (k : ℕ) → flat_map f (replicate k z) ≡ replicate (k * w) y
  unfolding flat_map
  flat_replicate e zero = ap (λ (n : ℕ). replicate n y) (sym (zero-mul w))
  flat_replicate e (suc k) =
      let g : w + k * w ≡ suc k * w = omega (arith, suc-mul k w) in
      ap (λ (r : List B). r ++ flat_map f (replicate k z)) e
      ∙ ap (λ (r : List B). replicate w y ++ r) (flat_replicate e k)
      ∙ replicate-append-replicate w (k * w) y
      ∙ ap (λ (n : ℕ). replicate n y) g

  -- parts that are filled up, and what they make that is filled up
  pub flat_filled : (n m : ℕ) (l : List A) → ((a : A) → length (f a) ≡ w) → f z ≡ replicate w y → m - length l * w ≡ (n - length l) * w
      → filled m y (flat_map f l) ≡ flat_map f (filled n z l)
  unfolding filled
  flat_filled n m l e g h =
      ap (λ (k : ℕ). flat_map f l ++ replicate (m - k) y) (length_flat e l)
      ∙ ap (λ (k : ℕ). flat_map f l ++ replicate k y) h
      ∙ ap (λ (r : List B). flat_map f l ++ r) (sym (flat_replicate g (n - length l)))
      ∙ sym (flat_map_append f l (replicate (n - length l) z))

-- ---- an array of rows, one row behind another

-- std's joined lists and ours are one
joined_is : {A B : Type 0} (f : A → List B) (l : List A) → joined f l ≡ flat_map f l
unfolding flat_map
joined_is f [] = refl
joined_is {A} {B} f (a ∷ l) = ap (λ (r : List B). f a ++ r) (joined_is f l)

map_filled : {A B : Type 0} (n : ℕ) (z : A) (f : A → B) (l : List A) → filled n (f z) (map f l) ≡ map f (filled n z l)
unfolding filled
map_filled {A} {B} n z f l =
    ap (λ (k : ℕ). map f l ++ replicate (n - k) (f z)) (length-map l f)
    ∙ ap (λ (r : List B). map f l ++ r) (sym (map-replicate f (n - length l) z))
    ∙ sym (map-append f l (replicate (n - length l) z))

-- the rows of the elements of a list, and blank rows behind them
pub used_laid : {A B : Type 0} (w n m : ℕ) (f : A → List B) (z : A) (y : B) (l : List A) {row : List B} {rows : List (List B)} {r : List B}
    → ((a : A) → length (f a) ≡ w) → f z ≡ replicate w y → m - length l * w ≡ (n - length l) * w
    → row ≡ f z → rows ≡ filled n row (map f l) → r ≡ joined (λ row. row) rows → r ≡ filled m y (flat_map f l)
used_laid {A} {B} w n m f z y l {row} {rows} {r} e g h k i j =
    j
    ∙ ap (joined (λ row. row)) (i ∙ ap (λ (b : List B). filled n b (map f l)) k ∙ map_filled n z f l)
    ∙ joined_is (λ row. row) (map f (filled n z l))
    ∙ flat_map_map (λ row. row) f (filled n z l)
    ∙ sym (flat_filled w f z y n m l e g h)

-- ---- a pair

pub six : (p : PlanarPair) → length (numbers_of p) ≡ 6
unfolding numbers_of
six p = by p.law
  where
    by : (l : Law) → length (p.start ∷ p.gap ∷ law_numbers l) ≡ 6
    by (Inverse a b c d) = refl
    by Crossfade = refl

pub three : (p : PlanarPair) → length (bytes_of p) ≡ 3
unfolding bytes_of
three p = refl
