-- What is laid is not malformed: its counts are lengths of lists that fit, and its numbers are read back. Assumes nothing.
use Prim.Native.Nat.{ℕ, zero, suc, ◌+◌, ◌-◌, ◌≤◌, zero-le}
use mathlib.Core.Path.{◌≡◌, refl, ap, ap₂, ◌∙◌}
use mathlib.Core.Bool.{true, false, ◌||◌}
use mathlib.Core.List.{List, [], ◌∷◌, map}
use native.Mathlib.Omega.{arith}
use borrow.Author.Tests.{ltb-true, leb-true, le-ltb, lt-leb}
use lib.Dec.{ltb, leb}
use lib.ListN.{length, replicate}
use Rattle.lists.specs.Lists.{filled, every, any}
use Rattle.lists.proofs.Tests.{any_append, both, every_none}
use Rattle.layout_record.specs.Shape.{Shape, silent, mono, planar, hull, Layout}
use Rattle.layout_record.specs.Panner.{laid, pairs_in, slots_in, hull_in}
use Rattle.layout_record.specs.Malformed.{counts_over, used_slots, used_points, numbers_out, malformed_of}
use Rattle.layout_record.specs.Meaning.{ShapeFits, LayoutFits, point_count, WellFormed}
use Rattle.layout_record.proofs.Reading.{read_back}

-- ---- counts

-- the parts of a shape that fits
record PartsFit (s : Shape) : Type 0 where
  pub real : length (hull_in s).out ≤ 40
  pub pairs : length (pairs_in s) ≤ 40
  pub slots : length (slots_in s) ≤ 40
  pub tris : length (hull_in s).tris ≤ 80
  pub imag : length (hull_in s).imag ≤ 14
  pub nbrs : every (λ ns. leb (length ns) 40) (hull_in s).imag ≡ true

parts_fit : (s : Shape) → ShapeFits s → PartsFit s
unfolding hull_in pairs_in slots_in every
parts_fit silent f = record { real = omega arith; pairs = omega arith; slots = omega arith; tris = omega arith; imag = omega arith; nbrs = refl }
parts_fit (mono i) f = record { real = omega arith; pairs = omega arith; slots = omega arith; tris = omega arith; imag = omega arith; nbrs = refl }
parts_fit (planar ps ss) f = record { real = omega arith; pairs = f.0; slots = f.1; tris = omega arith; imag = omega arith; nbrs = refl }
parts_fit (hull h) f = record { real = f.out; pairs = omega arith; slots = omega arith; tris = f.tris; imag = f.imag; nbrs = f.nbrs }

-- no count of the neighbours is over
zeros_pass : (b n : ℕ) → any (λ k. ltb b k) (replicate n 0) ≡ false
unfolding any
zeros_pass b zero = refl
zeros_pass b (suc n) = rw (le-ltb b 0 zero-le) (zeros_pass b n)

lengths_pass : {A : Type 0} (b : ℕ) (ls : List (List A)) → every (λ l. leb (length l) b) ls ≡ true → any (λ k. ltb b k) (map length ls) ≡ false
unfolding every any
lengths_pass b [] e = refl
lengths_pass b (l ∷ ls) e =
    let p = both (leb (length l) b) (every (λ l. leb (length l) b) ls) e in
    rw (le-ltb b (length l) (leb-true (length l) b p.0)) (lengths_pass b ls p.1)

nbrs_pass : {A : Type 0} (n b : ℕ) (ls : List (List A)) → every (λ l. leb (length l) b) ls ≡ true → any (λ k. ltb b k) (filled n 0 (map length ls)) ≡ false
unfolding filled
nbrs_pass n b ls e =
    any_append (λ k. ltb b k) (map length ls) (replicate (n - length (map length ls)) 0)
    ∙ ap₂ ◌||◌ (lengths_pass b ls e) (zeros_pass b (n - length (map length ls)))

counts_pass : (l : Layout) → LayoutFits l → counts_over (laid l) ≡ false
unfolding counts_over laid
counts_pass l f =
    let p = parts_fit l.shape f.shape in
    rw (
      le-ltb 40 l.outputs f.outputs,
      le-ltb 40 (length (hull_in l.shape).out) p.real,
      le-ltb 40 (length (pairs_in l.shape)) p.pairs,
      le-ltb 40 (length (slots_in l.shape)) p.slots,
      le-ltb 80 (length (hull_in l.shape).tris) p.tris,
      le-ltb 14 (length (hull_in l.shape).imag) p.imag,
    )
    (nbrs_pass 14 40 (hull_in l.shape).imag p.nbrs)

-- ---- numbers

below_none : (b : ℕ) (l : List ℕ) → every (λ o. ltb o b) l ≡ true → any (λ o. leb b o) l ≡ false
below_none b l e = every_none (λ a p. lt-leb b a (ltb-true a b p)) l e

numbers_pass : (l : Layout) → LayoutFits l → numbers_out (laid l) ≡ false
unfolding numbers_out laid point_count
numbers_pass l f =
    ap (λ (m : Layout). any (λ o. leb l.outputs o) (used_slots m.shape)
    || any (λ p. leb (length (hull_in l.shape).out + length (hull_in l.shape).imag) p) (used_points m.shape)) (read_back l f.shape)
    ∙ ap₂ ◌||◌ (below_none l.outputs (used_slots l.shape) f.slots) (below_none (point_count l.shape) (used_points l.shape) f.points)

pub well_formed : WellFormed
unfolding malformed_of
well_formed l f = ap₂ ◌||◌ (counts_pass l f) (numbers_pass l f)
