-- The slots that stand in for an imaginary point are real points' slots, each once: a slot is added only where it is none yet. Assumes nothing.
use Rattle.std.proofs.Common.{◌≡◌, ℕ, true, List, [], ◌∷◌, get_or}
use Rattle.lists.specs.Lists.{member}
use Rattle.layout_neighbours.specs.Neighbours.{Reach, reach, neighbours_of}
use Rattle.layout_neighbours.proofs.Sound.{reach_keeps}
use Rattle.layout_neighbours.proofs.Laid.{search_keeps}
use Rattle.theorem_layouts.specs.Sound.{SoundNeighbours}
use Rattle.lists.proofs.Each.{each_append, each_get_d}
use Rattle.lists.proofs.Once.{member_self, not_member, once_snoc}

module _ (out : List ℕ) where
  abbrev Kept : Reach → Type 0
  Kept r = SoundNeighbours out r.nbrs

  reach_kept : (r : Reach) (p : ℕ) → Kept r → Kept (reach out r p)
  reach_kept r p h =
      reach_keeps Kept out r p h
      (λ l e. record {
        apart = once_snoc r.nbrs (get_or out p 0) h.apart (not_member (get_or out p 0) r.nbrs e);
        real = each_append (λ o. member o out ≡ true) r.nbrs (get_or out p 0 ∷ []) h.real (each_get_d (λ o. member o out ≡ true) out p 0 l (member_self out), tt);
      })
      (λ l e f. h)

  pub neighbours_sound : (tris : List (List ℕ)) (p : ℕ) → SoundNeighbours out (neighbours_of out tris p)
  neighbours_sound tris p = search_keeps Kept out tris reach_kept p (record { apart = tt; real = tt }) (SoundNeighbours out) (λ r k. k)
