-- A record whose counts pass is within its arrays: each test of `counts_over` says so of one count. Assumes nothing.
use Prim.Native.Nat.{ℕ, ◌≤◌}
use mathlib.Core.Path.{◌≡◌}
use mathlib.Core.Bool.{true, false}
use mathlib.Core.List.{List}
use borrow.Author.Tests.{ltb-false, le-leb}
use lib.Dec.{ltb, leb}
use Rattle.lists.specs.Lists.{every, any}
use Rattle.layout_record.specs.Malformed.{counts_over}
use Rattle.layout_record.specs.declared.VbapPanner.{VbapPanner}
use Rattle.lists.proofs.Tests.{neither}
use Rattle.layout_record.proofs.Bounds.{every_if_none}

pub record Within (v : VbapPanner) : Type 0 where
  pub outputs : v.num_outputs ≤ 40
  pub real : v.num_real ≤ 40
  pub pairs : v.num_pairs ≤ 40
  pub slots : v.num_slots ≤ 40
  pub tris : v.num_tris ≤ 80
  pub imag : v.num_imag ≤ 14
  pub nbrs : every (λ n. leb n 40) v.num_nbrs ≡ true

-- no number over b, and each at most b
pub none_over : (b : ℕ) (l : List ℕ) → any (λ n. ltb b n) l ≡ false → every (λ n. leb n b) l ≡ true
none_over b l e = every_if_none (λ a p. le-leb a b (ltb-false b a p)) l e

pub within : (v : VbapPanner) → counts_over v ≡ false → Within v
unfolding counts_over
within v e =
    let p₁ = neither _ (any (λ n. ltb 40 n) v.num_nbrs) e in
    let p₂ = neither _ (ltb 14 v.num_imag) p₁.0 in
    let p₃ = neither _ (ltb 80 v.num_tris) p₂.0 in
    let p₄ = neither _ (ltb 40 v.num_slots) p₃.0 in
    let p₅ = neither _ (ltb 40 v.num_pairs) p₄.0 in
    let p₆ = neither (ltb 40 v.num_outputs) (ltb 40 v.num_real) p₅.0 in
    record {
      outputs = ltb-false 40 v.num_outputs p₆.0;
      real = ltb-false 40 v.num_real p₆.1;
      pairs = ltb-false 40 v.num_pairs p₅.1;
      slots = ltb-false 40 v.num_slots p₄.1;
      tris = ltb-false 80 v.num_tris p₃.1;
      imag = ltb-false 14 v.num_imag p₂.1;
      nbrs = none_over 40 v.num_nbrs p₁.1;
    }
