-- Document 01, "Returned numbers", the paragraph on 11. Assumes nothing.
use Rattle.std.specs.Prelude.{ℕ, ◌+◌, Bool, ◌||◌, cond, ltb, leb, Result, Ok, Err}
use mathlib.Core.List.{List, [], ◌∷◌, ◌++◌, flat_map}
use Rattle.lists.specs.Lists.{any}
use Rattle.layout_planar.specs.declared.PlanarPair.{PlanarPair}
use Rattle.layout_record.specs.Shape.{numbers, Shape, silent, mono, planar, hull}
use Rattle.layout_record.specs.Panner.{layout_in}
use Rattle.layout_record.specs.declared.VbapPanner.{VbapPanner}
use Rattle.refusals.specs.declared.Refusal.{Refusal}
use Rattle.refusals.specs.Refusals.{number_of}

-- counts, tested in every kind. Origin of the bounds: document 01, "Returned numbers", 11.
unfoldable pub counts_over : VbapPanner → Bool
counts_over v =
    ltb 40 v.num_outputs || ltb 40 v.num_real || ltb 40 v.num_pairs || ltb 40 v.num_slots
    || ltb 80 v.num_tris || ltb 14 v.num_imag || any (λ n. ltb 40 n) v.num_nbrs

-- the slots that a ring's pairs and speakers name, and those of a hull's real points and of the neighbours of its imaginary points
abbrev pub ring_slots : List PlanarPair → List ℕ → List ℕ
ring_slots pairs slots = flat_map (λ p. p.a ∷ p.b ∷ []) pairs ++ slots

abbrev pub hull_slots : List ℕ → List (List ℕ) → List ℕ
hull_slots out imag = out ++ flat_map (λ ns. ns) imag

-- slot and point numbers that the layout's own kind and counts reach
unfoldable pub used_slots : Shape → List ℕ
used_slots silent = []
used_slots (mono i) = i ∷ []
used_slots (planar pairs slots) = ring_slots pairs slots
used_slots (hull h) = hull_slots h.out h.imag

unfoldable pub used_points : Shape → List ℕ
used_points silent = []
used_points (mono i) = []
used_points (planar pairs slots) = []
used_points (hull h) = flat_map numbers h.tris

-- a number that is not below a bound
abbrev pub any_from : ℕ → List ℕ → Bool
any_from bound l = any (λ x. leb bound x) l

-- a used slot number not below outputs, or a used point number not below real plus imaginary
unfoldable pub numbers_out : VbapPanner → Bool
numbers_out v =
    let s = (layout_in v).shape in
    any_from v.num_outputs (used_slots s) || any_from (v.num_real + v.num_imag) (used_points s)

-- the same of a ring, and of a hull by its slots, its lists of neighbours and its triplets' point numbers
unfoldable pub planar_out : ℕ → List PlanarPair → List ℕ → Bool
planar_out outputs pairs slots = any_from outputs (ring_slots pairs slots)

unfoldable pub hull_out : ℕ → ℕ → List ℕ → List (List ℕ) → List ℕ → Bool
hull_out outputs points out imag corners = any_from outputs (hull_slots out imag) || any_from points corners

unfoldable pub malformed_of : VbapPanner → Bool
malformed_of v = counts_over v || numbers_out v

-- what `num_outputs` answers: 0 or the refusal's number, and the count of outputs; and the answer that a Result gives, 0 beside a refusal
pub record Outputs : Type 0 where
  pub number : ℕ
  pub count : ℕ

abbrev pub outputs_answer : Result ℕ Refusal → Outputs
outputs_answer (Ok n) = record { number = 0; count = n }
outputs_answer (Err why) = record { number = number_of why; count = 0 }

-- `num_outputs`: 11 and 0 for a malformed record, else 0 and the count
unfoldable pub num_outputs_of : VbapPanner → Outputs
num_outputs_of v = cond (malformed_of v) (record { number = 11; count = 0 }) (record { number = 0; count = v.num_outputs })
