-- Laws of the walk over the triplets, three point numbers at a time: what is left leads on to what all lead to. Assumes nothing.
use Prim.Native.Nat.{ℕ, suc, ◌+◌, ◌<◌}
use mathlib.Core.Path.{◌≡◌, refl, sym, ap, ◌∙◌}
use mathlib.Core.List.{List, [], ◌∷◌, ◌++◌}
use native.Mathlib.Omega.{arith}
use lib.ListN.{length, length-append, get_or-append}
use lib.Seq.{get_or-append-add}
use Rattle.layout_neighbours.specs.Neighbours.{Reach, pass, across}
use Rattle.layout_neighbours.specs.Inner.Flat.{triples_of}
use Rattle.layout_neighbours.specs.Inner.Search.{Arrays, Holds, Leads, Points}
use Rattle.layout_neighbours.proofs.Sound.{Low}

-- ---- the triplets of point numbers

triples_more : (t more : List ℕ) → length t ≡ 3 → triples_of (t ++ more) ≡ t ∷ triples_of more
unfolding triples_of
triples_more [] more h = absurd (omega arith)
triples_more (i ∷ []) more h = absurd (omega arith)
triples_more (i ∷ (j ∷ [])) more h = absurd (omega arith)
triples_more (i ∷ (j ∷ (k ∷ []))) more h = refl
triples_more (i ∷ (j ∷ (k ∷ (p ∷ l)))) more h = absurd (omega arith)

triples_none : (l : List ℕ) → length l < 3 → triples_of l ≡ []
unfolding triples_of
triples_none [] h = refl
triples_none (i ∷ []) h = refl
triples_none (i ∷ (j ∷ [])) h = refl
triples_none (i ∷ (j ∷ (k ∷ l))) h = absurd (omega arith)

pub low_triples : (idx : List ℕ) (nreal : ℕ) → Points idx nreal → Low nreal (triples_of idx)
unfolding triples_of
low_triples [] nreal ps = tt
low_triples (i ∷ []) nreal ps = tt
low_triples (i ∷ (j ∷ [])) nreal ps = tt
low_triples (i ∷ (j ∷ (k ∷ l))) nreal ps = (
  (ps 0 (omega arith), (ps 1 (omega arith), (ps 2 (omega arith), tt))),
  low_triples l nreal (λ n h. ps (suc (suc (suc n))) (omega arith)),
)

-- ---- the walk

-- some triplets are done, and the rest is left
pub record Walked (slots idx rest : List ℕ) (size : ℕ) (before after : Arrays) : Type 0 where
  pub three : size ≡ 3
  pub low : Points rest (length slots)
  pub leads : (r : Reach) → Holds r before → (q : Reach) × Holds q after × (pass slots (triples_of rest) q ≡ pass slots (triples_of idx) r)

module _ {slots idx rest : List ℕ} {size : ℕ} {before : Arrays} where
  pub walked_start : Points idx (length slots) → size ≡ 3 → rest ≡ idx → Walked slots idx rest size before before
  walked_start ps e l = rw l (record { three = e; low = ps; leads = λ r h. (r, h, refl) })

  module _ {after : Arrays} (w : Walked slots idx rest size before after) where
    -- all are done
    pub walked_all : length rest < size → Leads (pass slots (triples_of idx)) before after
    unfolding pass
    walked_all h r k =
        let q = w.leads r k in
        let e : q.0 ≡ pass slots (triples_of idx) r = sym (ap (λ (ts : List (List ℕ)). pass slots ts q.0) (triples_none rest (omega (arith, w.three)))) ∙ q.2 in
        rw (← e) q.1

    module _ (t more : List ℕ) (e : rest ≡ t ++ more) (n : length t ≡ size) where
      pub next_low : Points t (length slots)
      next_low k h = let g = w.low k (omega (arith, ap length e, length-append t more)) in rw (e, get_or-append t more 0 k h) at g

      pub walked_on : {size' : ℕ} {then : Arrays} → size' ≡ size → Leads (λ r. across slots r t) after then → Walked slots idx more size' before then
      unfolding pass
      walked_on s leads = record {
        three = s ∙ w.three;
        low = λ k h.
            let g = w.low (length t + k) (omega (arith, ap length e, length-append t more)) in
            rw (e, get_or-append-add t more k 0) at g;
        leads = λ r h.
            let q = w.leads r h in
            let f : pass slots (triples_of more) (across slots q.0 t) ≡ pass slots (triples_of idx) r =
            sym (ap (λ (ts : List (List ℕ)). pass slots ts q.0) (ap triples_of e ∙ triples_more t more (n ∙ w.three))) ∙ q.2 in
            (across slots q.0 t, leads q.0 q.1, f);
      }
