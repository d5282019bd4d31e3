-- Rows of bounded gains: what a store and an addition at a place keep. Assumes nothing.
use Prim.Native.Nat.{ℕ, ◌≤◌}
use mathlib.Core.List.{List}
use lib.ListN.{get_or, replicate}
use lib.Ieee.{Float, nan, binary32, add}
use Rattle.float_order.specs.Values.{+0}
use Rattle.row_places.specs.Places.{add_at}
use Rattle.float_bounds.proofs.Size.{Mag, mag_more}
use Rattle.float_bounds.proofs.Order.{zero_mag}
use Rattle.lists.proofs.Each.{each_imply, each_get_d, each_set, each_replicate}
use Rattle.lists.specs.Lists.{Each}

-- every gain is at most B smallest values in size
abbrev pub Row : ℕ → List Float → Type 0
Row B row = Each (λ g. Mag binary32 g B) row

pub zeros : (B n : ℕ) → Row B (replicate n +0)
zeros B n = each_replicate (λ g. Mag binary32 g B) n +0 zero_mag

pub row_more : (A B : ℕ) → A ≤ B → (row : List Float) → Row A row → Row B row
row_more A B l row h = each_imply (λ g. Mag binary32 g A) (λ g. Mag binary32 g B) (λ g m. mag_more l m) row h

-- what is added to a gain gives one within C
pub add_at_lem : (A C : ℕ) (row : List Float) (i : ℕ) (v : Float) → A ≤ C → Row A row → ((g : Float) → Mag binary32 g A → Mag binary32 (add binary32 g v) C) → Row C (add_at row i v)
unfolding add_at
add_at_lem A C row i v l h k =
    each_set (λ g. Mag binary32 g C) row i (add binary32 (get_or row i nan) v) (row_more A C l row h) (λ g. k (get_or row i nan) (each_get_d (λ g. Mag binary32 g A) row i nan g h))
