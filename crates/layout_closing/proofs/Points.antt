-- The greatest product, by one point more. Assumes nothing.
use Rattle.std.proofs.Common.{◌≡◌, ℕ, ◌+◌, ◌<◌, true, [], map, length, get_or, take, refl, ap, ◌∙◌, add-one}
use mathlib.Core.List.{foldl}
use lib.Seq.{take-suc}
use lib.Ieee.{inf}
use Rattle.lists.proofs.Collect.{map_snoc, foldl_snoc}
use Rattle.float_order.specs.Order.{max_of}
use Rattle.vector.specs.Vector.{Vector, Points, dot_of}
use Rattle.layout_closing.specs.Closing.{nearest_product}

module _ (pts : Points) (c : Vector) where
  pub nearest_none : nearest_product (take 0 pts) c ≡ inf true
  unfolding nearest_product
  nearest_none = refl

  pub nearest_more : (i : ℕ) → i < length pts → nearest_product (take (i + 1) pts) c ≡ max_of (nearest_product (take i pts) c) (dot_of (get_or pts i []) c)
  unfolding nearest_product
  nearest_more i h =
      ap (λ (l : Points). foldl max_of (inf true) (map (λ p. dot_of p c) l)) (ap (λ (k : ℕ). take k pts) (add-one i) ∙ take-suc pts i [] h)
      ∙ ap (foldl max_of (inf true)) (map_snoc (λ p. dot_of p c) (take i pts) (get_or pts i []))
      ∙ foldl_snoc max_of (inf true) (map (λ p. dot_of p c) (take i pts)) (dot_of (get_or pts i []) c)
