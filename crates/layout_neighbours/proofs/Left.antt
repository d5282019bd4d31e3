-- Laws of the loop of passes: what is left to do from a state that the arrays hold gives the neighbours of p. Assumes nothing.
use Prim.Native.Nat.{ℕ, ◌+◌, ◌≤◌, ◌<◌}
use mathlib.Core.Path.{◌≡◌, refl, sym, ap, ◌∙◌}
use mathlib.Core.Bool.{Bool, true, false, not, ◌||◌}
use mathlib.Core.List.{List, [], ◌∷◌}
use native.Mathlib.Omega.{arith}
use lib.Dec.{eqb}
use lib.ListN.{length, set, replicate, get_or-replicate, length-replicate}
use Rattle.lists.specs.Lists.{any, filled}
use Rattle.lists.proofs.Filled.{filled_none}
use Rattle.layout_neighbours.specs.Neighbours.{Reach, pass, passes, neighbours_of}
use Rattle.layout_neighbours.specs.Inner.Flat.{triples_of}
use Rattle.layout_neighbours.specs.Inner.Search.{Arrays, Holds, Held, Leads, Points}
use Rattle.layout_neighbours.proofs.Among.{among_none, among_snoc}
use Rattle.layout_neighbours.proofs.Chunks.{low_triples}
use Rattle.layout_neighbours.proofs.Holds.{none_found, holds_point}
use Rattle.layout_neighbours.proofs.Sound.{Low, Visited, visited_few, ends, passes_done, passes_on, after, one_more, enough}

-- ---- the loop

pub record Left (out : List ℕ) (ts : List (List ℕ)) (p : ℕ) (a : Arrays) : Type 0 where
  pub state : Reach
  pub holds : Holds state a
  pub begun : Visited (length out) 1 state
  pub same : (passes out ts 14 state).nbrs ≡ neighbours_of out ts p

-- before the first point nothing is visited
holds_nothing : Holds (record { visited = []; nbrs = [] }) (record { visited = replicate 54 false; nbrs = replicate 40 0; seen = 0; found = 0 })
unfolding any
holds_nothing = record {
  points = among_none 0 54;
  below = among_none 0 40;
  long = length-replicate 54 false;
  marks = λ p h. get_or-replicate 54 p false false h;
  slots = sym (filled_none 40 0);
  seen = refl;
  found = refl;
}

-- the arrays that a search from p begins with
abbrev pub begin : ℕ → Arrays
begin p = record { visited = set (replicate 54 false) p true; nbrs = replicate 40 0; seen = 1; found = 0 }

holds_first : (p : ℕ) → p < 54 → Holds (record { visited = p ∷ []; nbrs = [] }) (begin p)
unfolding any
holds_first p h = holds_point holds_nothing p h refl

pub held_first : (p : ℕ) → p < 54 → Held (begin p)
held_first p h = ∣ (record { visited = p ∷ []; nbrs = [] }, holds_first p h) ∣₁

pub left_start : (out : List ℕ) (ts : List (List ℕ)) (p : ℕ) → length out ≤ p → p < length out + 14 → p < 54 → Left out ts p (begin p)
unfolding neighbours_of any
left_start out ts p h g k = record {
  state = record { visited = p ∷ []; nbrs = [] };
  holds = holds_first p k;
  begun = record { imaginary = among_snoc (length out) 14 [] p (among_none (length out) 14) refl h g; more = omega arith };
  same = refl;
}

-- the search stops: there is a neighbour, or as many points were seen before
abbrev pub stops : Arrays → Arrays → Bool
stops before after = not (eqb after.found 0) || eqb after.seen before.seen

module _ (idx out : List ℕ) (ps : Points idx (length out)) where
  abbrev ts : List (List ℕ)
  ts = triples_of idx

  -- a pass leads from arrays a to arrays b
  module _ {p : ℕ} {a b : Arrays} (h : Left out ts p a) (leads : Leads (pass out ts) a b) where
    k : Holds (pass out ts h.state) b
    k = leads h.state h.holds

    test : ends h.state (pass out ts h.state) ≡ stops a b
    test = rw (none_found k, ← k.seen, ← h.holds.seen) refl

    module _ (e : stops a b ≡ true) where
      all_found : (pass out ts h.state).nbrs ≡ neighbours_of out ts p
      all_found = sym (ap (λ (x : Reach). x.nbrs) (passes_done out ts 13 h.state (test ∙ e))) ∙ h.same

      pub left_nbrs : b.nbrs ≡ filled 40 0 (neighbours_of out ts p)
      left_nbrs = k.slots ∙ ap (filled 40 0) all_found

      pub left_found : b.found ≡ length (neighbours_of out ts p)
      left_found = k.found ∙ ap length all_found

    module _ (e : stops a b ≡ false) where
      low : Low (length out) ts
      low = low_triples idx (length out) ps

      now : Visited (length out) (length h.state.visited) h.state
      now = record { imaginary = h.begun.imaginary; more = omega arith }

      then : Visited (length out) (length (pass out ts h.state).visited) (pass out ts h.state)
      then = after out ts low h.state now

      more : length h.state.visited < length (pass out ts h.state).visited
      more = one_more out ts low h.state now (test ∙ e)

      pub left_less : (a.seen < b.seen) × (b.seen ≤ 14)
      left_less = (omega (arith, more, k.seen, h.holds.seen), omega (arith, k.seen, visited_few then))

      pub left_on : Left out ts p b
      left_on =
          let f : passes out ts 14 (pass out ts h.state) ≡ passes out ts 14 h.state =
          enough out ts low 14 13 (pass out ts h.state) then (omega (arith, more, h.begun.more)) (omega (arith, more, h.begun.more)) ∙ sym (passes_on out ts 13 h.state (test ∙ e)) in
          record { state = pass out ts h.state; holds = k; begun = record { imaginary = then.imaginary; more = omega (arith, more, h.begun.more) }; same = ap (λ (x : Reach). x.nbrs) f ∙ h.same }
