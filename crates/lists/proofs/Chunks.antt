-- What std says of the chunks of a slice and of a test of all elements, in the definitions' words. Assumes nothing.
use Prim.Native.Nat.{ℕ, ◌+◌, ◌*◌, ◌<◌}
use mathlib.Core.Path.{◌≡◌, refl, sym, ap, ◌∙◌}
use mathlib.Core.Bool.{Bool, ◌&&◌}
use mathlib.Core.List.{List, [], ◌∷◌, ◌++◌, map, flat_map}
use native.Mathlib.Omega.{arith}
use lib.ListN.{length, get_or, drop, take, length-append}
use lib.Seq.{take_at, drop_at, take_all}
use Rattle.std.specs.Iterator.{AlwaysYields}
use Rattle.std.specs.List.{list_all}
use Rattle.std.specs.Slice.Iter.{chunks_exact_steps, chunks_exact_rest, chunks_exact_size}
use Rattle.std.proofs.lemmas.Iterator.{YieldsList}
use Rattle.lists.specs.Lists.{Each, every, range}
use Rattle.lists.proofs.Collect.{flat_map_map}
use Rattle.lists.proofs.Each.{each_all, each_map}
use Rattle.lists.proofs.Parts.{threes}

-- std's test of all elements and ours are one
pub all_is : {A : Type 0} (f : A → Bool) (l : List A) → list_all f l ≡ every f l
unfolding every
all_is f [] = refl
all_is f (a ∷ l) = ap (λ (b : Bool). f a && b) (all_is f l)

module _ {A : Type 0} (w : ℕ) (some : 0 < w) where
  -- parts of w elements that make up what is left are the chunks
  yielded : (parts : List (List A)) (s : _) → Each (λ part. length part ≡ w) parts → chunks_exact_rest s ≡ flat_map (λ part. part) parts → chunks_exact_size s ≡ w
      → AlwaysYields chunks_exact_steps (λ chunk. chunk.now) s parts
  unfolding flat_map
  yielded [] s h e z = λ x t step. absurd (omega (arith, ap length (sym e ∙ step.1.0), length-append x.now (chunks_exact_rest t), step.1.1, z, some))
  yielded (part ∷ parts) s h e z = (
    λ t step. omega (arith, ap length e, length-append part (flat_map (λ part. part) parts), h.0, z, step.1.0),
    λ x t step.
        let long : length x.now ≡ w = step.1.1 ∙ z in
        let both : x.now ++ chunks_exact_rest t ≡ part ++ flat_map (λ part. part) parts = sym step.1.0 ∙ e in (
          sym (take_at x.now (chunks_exact_rest t) w long) ∙ ap (take w) both ∙ take_at part (flat_map (λ part. part) parts) w h.0,
          yielded parts t h.1 (sym (drop_at x.now (chunks_exact_rest t) w long) ∙ ap (drop w) both ∙ drop_at part (flat_map (λ part. part) parts) w h.0) (step.0 ∙ z),
        ),
  )

  pub chunks_yield : (parts : List (List A)) {s : _} → Each (λ part. length part ≡ w) parts → chunks_exact_rest s ≡ flat_map (λ part. part) parts → chunks_exact_size s ≡ w
      → YieldsList chunks_exact_steps (λ chunk. chunk.now) s parts
  chunks_yield parts h e z = record { runs = yielded parts _ h e z }

-- three places at a time
pub threes_yield : {A : Type 0} (l : List A) (d : A) (n : ℕ) {s : _} → length l ≡ n * 3 → chunks_exact_rest s ≡ l → chunks_exact_size s ≡ 3
    → YieldsList chunks_exact_steps (λ chunk. chunk.now) s (map (λ t. get_or l (t * 3) d ∷ get_or l (t * 3 + 1) d ∷ get_or l (t * 3 + 2) d ∷ []) (range n))
threes_yield {A} l d n long e z =
    let three : ℕ → List A = λ t. get_or l (t * 3) d ∷ get_or l (t * 3 + 1) d ∷ get_or l (t * 3 + 2) d ∷ [] in
    chunks_yield 3 (omega arith) (map three (range n))
    (each_map (λ part. length part ≡ 3) three (range n) (each_all (λ t. length (three t) ≡ 3) (λ t. refl) (range n)))
    (e ∙ sym (flat_map_map (λ part. part) three (range n) ∙ threes l d n (omega (arith, long)) ∙ take_all (n * 3) l (omega (arith, long)))) z
