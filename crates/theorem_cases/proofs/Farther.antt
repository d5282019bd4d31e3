-- F as (0, 0, −1) and as (0, 0, −2): `unit` makes one direction of both, so their active speakers are the same, and with them the layout. Assumes nothing.
use Prim.Native.Nat.{ℕ, ◌%◌, ◌≤◌}
use mathlib.Core.Path.{◌≡◌, refl, sym, ap, ap₂, ◌∙◌}
use mathlib.Core.Bool.{false}
use mathlib.Core.List.{List, [], ◌∷◌, ◌++◌}
use native.Mathlib.Omega.{arith}
use borrow.Author.Tests.{le-ltb}
use lib.ListN.{length}
use lib.Ieee.{Float, round, neg, add, mul, div, le, lt, eq, of_bits}
use Rattle.lists.specs.Lists.{from, range, collect, any, every, part}
use Rattle.float_order.specs.Values.{is_finite}
use Rattle.float_root.specs.Root.{sqrt_of}
use Rattle.vector.specs.Vector.{dot_in, dot_of, over_of, length_of, unit_of}
use Rattle.vector.specs.declared.Speaker.{Speaker}
use Rattle.layout_new.specs.Layout.{outputs_of, speaker_at, active, shape_of, layout_of, too_many_triplets}
use Rattle.mix_block.specs.Limits.{most_sources}
use Rattle.session_open.specs.Open.{open_refusal, open_of}
use Rattle.theorem_take_back.specs.Demand3.{Given, Comparable}
use Rattle.theorem_cases.specs.Table.{F}
use Rattle.theorem_cases.specs.Farther.{far_f, Farther}
use Rattle.theorem_cases.proofs.Shown.{at, F-level, two_active}

-- ---- two lists of as many positions, with the same active speakers

module _ (near far : List Float) (many : outputs_of near ≡ outputs_of far) (same : active near [] ≡ active far []) where
  one_layout : layout_of near [] ≡ layout_of far []
  unfolding layout_of
  one_layout = ap₂ (λ (n : ℕ) (act : List Speaker). record { outputs = n; shape = shape_of act }) many same

  comparable : (g h : Given) → g.positions ≡ near → g.lfe ≡ [] → h.positions ≡ far → h.lfe ≡ [] → g.sources ≡ h.sources → Comparable g h
  comparable g h p q p' q' n = record { layout = ap₂ layout_of p q ∙ one_layout ∙ sym (ap₂ layout_of p' q'); sources = n }

accepts : (positions : List Float) (n : ℕ) → length positions % 3 ≡ 0 → outputs_of positions ≤ 40 → too_many_triplets (active positions []) ≡ false → 1 ≤ n → n ≤ most_sources
    → (open_of positions [] n).number ≡ 0
unfolding open_of open_refusal
accepts positions n e m t a b = rw (e, le-ltb 40 (outputs_of positions) m, le-ltb n 1 a, le-ltb most_sources n b, t)

-- ---- F alone, and F, F

one_near : active F [] ≡ at 0 ∷ []
unfolding active collect range from outputs_of speaker_at any unit_of length_of dot_of dot_in over_of is_finite part sqrt_of round add mul div neg le lt eq of_bits
one_near = refl

one_far : active far_f [] ≡ at 0 ∷ []
unfolding active collect range from outputs_of speaker_at any unit_of length_of dot_of dot_in over_of is_finite part sqrt_of round add mul div neg le lt eq of_bits
one_far = refl

two_far : active (far_f ++ far_f) [] ≡ at 0 ∷ at 1 ∷ []
unfolding active collect range from outputs_of speaker_at any unit_of length_of dot_of dot_in over_of is_finite part sqrt_of round add mul div neg le lt eq of_bits
two_far = refl

few_alone : too_many_triplets (at 0 ∷ []) ≡ false
unfolding too_many_triplets
few_alone = refl

few_together : too_many_triplets (at 0 ∷ at 1 ∷ []) ≡ false
unfolding too_many_triplets every
few_together = rw (F-level 0, F-level 1)

pub farther : Farther
unfolding outputs_of
farther = (
  record {
    accepted = λ n a b. (accepts F n refl (omega arith) (ap too_many_triplets one_near ∙ few_alone) a b, accepts far_f n refl (omega arith) (ap too_many_triplets one_far ∙ few_alone) a b);
    comparable = comparable F far_f refl (one_near ∙ sym one_far);
  },
  record {
    accepted = λ n a b. (
      accepts (F ++ F) n refl (omega arith) (ap too_many_triplets two_active ∙ few_together) a b,
      accepts (far_f ++ far_f) n refl (omega arith) (ap too_many_triplets two_far ∙ few_together) a b,
    );
    comparable = comparable (F ++ F) (far_f ++ far_f) refl (two_active ∙ sym two_far);
  },
)
