-- The turns of mixing a block of a session's samples are those over the session. Assumes nothing.
use Prim.Native.Nat.{ℕ, zero, suc, ◌+◌, ◌*◌, ◌<◌}
use mathlib.Core.Path.{◌≡◌, ap, ◌∙◌}
use mathlib.Core.List.{List, foldl}
use native.Mathlib.Numerals.{add-one}
use native.Mathlib.Omega.{arith}
use lib.ListN.{get_or}
use lib.Ieee.{Float, nan}
use Rattle.lists.specs.Lists.{range}
use Rattle.lists.proofs.Collect.{foldl_snoc}
use Rattle.lists.proofs.Parts.{get_d_part}
use Rattle.lists.proofs.Ranges.{range_none, range_snoc}
use Rattle.mix_block.specs.Limits.{row_places}
use Rattle.mix_block.specs.Inner.Turns.{ramp_part, ramp_source}
use Rattle.mix_block.specs.declared.Block.{Block}
use Rattle.session_calls.specs.Session.{start_row, target, ramp_slot, mixed_outputs}
use Rattle.session_calls.specs.declared.Session.{Session}

-- two folds whose turns are equal
foldl_same : {A : Type 0} (f g : A → ℕ → A) (a : A) (n : ℕ) → ((b : A) (k : ℕ) → k < n → f b k ≡ g b k) → foldl f a (range n) ≡ foldl g a (range n)
foldl_same f g a zero h = rw range_none
foldl_same f g a (suc n) h =
    rw (← add-one n, range_snoc n, foldl_snoc f a (range n) n, foldl_snoc g a (range n) n, foldl_same f g a n (λ b k m. h b k (omega arith)))
    (h (foldl g a (range n)) n (omega arith))

-- where a block mixes from the start rows to the targets, the turns are the definition's
module _ (s : Session) (b : Block) (outputs : b.outputs ≡ s.panner.num_outputs) (sources : b.sources ≡ s.sources) (starts : b.from.now ≡ s.starts)
    (e : (i o : ℕ) → i < s.sources → o < s.panner.num_outputs → get_or b.to.now (i * row_places + o) nan ≡ get_or (target s i) o nan)
  where
    slot_same : (x : List Float) (i o : ℕ) → i < s.sources → o < s.panner.num_outputs → ramp_part b i x o ≡ ramp_slot s b.block b.samples.now i x o
    unfolding ramp_part ramp_slot start_row
    slot_same x i o h k = rw (e i o h k, starts, get_d_part row_places s.starts i o nan (omega (arith, b.row)))

    pub mix_same : (out : List Float) → foldl (ramp_source b) out (range b.sources) ≡ mixed_outputs s b.block b.samples.now out
    unfolding mixed_outputs ramp_source
    mix_same out =
        ap (λ (n : ℕ). foldl (ramp_source b) out (range n)) sources
        ∙ foldl_same _ _ out s.sources
        (λ m i h.
        ap (λ (n : ℕ). foldl (ramp_part b i) m (range n)) outputs
        ∙ foldl_same (ramp_part b i) (ramp_slot s b.block b.samples.now i) m s.panner.num_outputs (λ x o k. slot_same x i o h k))
