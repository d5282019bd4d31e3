-- Laws of the arrays that hold a search: there is room, and each case of `reach` is a store. Assumes nothing.
use Prim.Native.Nat.{ℕ, ◌+◌, ◌≤◌, ◌<◌, zero-le}
use mathlib.Core.Path.{◌≡◌, refl, sym, ap, ◌∙◌}
use mathlib.Core.Bool.{Bool, true, false, ◌||◌}
use mathlib.Core.List.{List, [], ◌∷◌, ◌++◌}
use mathlib.Core.Logic.{∥∥₁_elim, ∥∥₁_map}
use native.Mathlib.Bridge.{le_prop}
use native.Mathlib.Omega.{arith}
use borrow.Author.Tests.{eq-eqb, ne_eqb, eqb-true, eqb-false}
use lib.Dec.{eqb}
use lib.ListN.{length, get_or, set, take, length-append, length-set}
use lib.Seq.{get_or-set_same, get_or-set_other}
use Rattle.lists.specs.Lists.{member, is_empty}
use Rattle.lists.proofs.Filled.{length_filled, take_filled, set_filled_at}
use Rattle.lists.proofs.Tests.{or_right, or_none, empty_length}
use Rattle.lists.proofs.Once.{member_snoc}
use Rattle.layout_neighbours.specs.Neighbours.{Reach, reach}
use Rattle.layout_neighbours.specs.Inner.Search.{Among, Arrays, Holds, Held, Leads, Slots}
use Rattle.layout_neighbours.proofs.Among.{among_snoc, among_few}
use Rattle.layout_neighbours.proofs.Reaches.{with_slot, with_point, reach_listed, reach_found, reach_seen, reach_late, reach_visits}

-- the facts on the slots, as one
pub slots : {out : List ℕ} → length out ≤ 40 → ((k : ℕ) → k < length out → get_or out k 0 < 40) → Slots out
slots few low = record { few = few; low = low }

-- the arrays with a slot stored, and with a point marked
abbrev pub stored : Arrays → ℕ → Arrays
stored a s = record { visited = a.visited; nbrs = set a.nbrs a.found s; seen = a.seen; found = a.found + 1 }

abbrev pub marked : Arrays → ℕ → Arrays
marked a p = record { visited = set a.visited p true; nbrs = a.nbrs; seen = a.seen + 1; found = a.found }

module _ {r : Reach} {a : Arrays} (h : Holds r a) where
  -- ---- there is room

  pub found_few : a.found ≤ 40
  found_few = omega (arith, among_few 40 0 r.nbrs h.below)

  pub seen_few : a.seen ≤ 54
  seen_few = omega (arith, among_few 54 0 r.visited h.points)

  pub nbrs_long : length a.nbrs ≡ 40
  nbrs_long = ap length h.slots ∙ length_filled 40 0 r.nbrs (among_few 40 0 r.nbrs h.below)

  -- the slots found stand at the front
  pub front : take a.found a.nbrs ≡ r.nbrs
  front = ap (λ (k : ℕ). take k a.nbrs) h.found ∙ ap (take (length r.nbrs)) h.slots ∙ take_filled 40 0 r.nbrs

  pub none_found : is_empty r.nbrs ≡ eqb a.found 0
  none_found = empty_length r.nbrs ∙ ap (λ (k : ℕ). eqb k 0) (sym h.found)

  -- ---- one slot more, one point more

  module _ (s : ℕ) (low : s < 40) (new : member s r.nbrs ≡ false) where
    below_more : Among 0 40 (r.nbrs ++ s ∷ [])
    below_more = among_snoc 0 40 r.nbrs s h.below new zero-le low

    pub room : length r.nbrs < 40
    room = omega (arith, among_few 40 0 (r.nbrs ++ s ∷ []) below_more, length-append r.nbrs (s ∷ []))

    holds_slot : Holds (with_slot r s) (stored a s)
    holds_slot = record {
      points = h.points;
      below = below_more;
      long = h.long;
      marks = h.marks;
      slots = set_filled_at 40 0 r.nbrs s room h.slots h.found;
      seen = h.seen;
      found = omega (arith, h.found, length-append r.nbrs (s ∷ []));
    }

  module _ (p : ℕ) (low : p < 54) (new : member p r.visited ≡ false) where
    mark : (q : ℕ) → q < 54 → get_or (set a.visited p true) q false ≡ member q (r.visited ++ p ∷ [])
    mark q g = by (eqb p q) refl ∙ sym (member_snoc q r.visited p)
      where
        by : (b : Bool) → eqb p q ≡ b → get_or (set a.visited p true) q false ≡ member q r.visited || eqb p q
        by true e =
            let o : q ≡ p = sym (eqb-true p q e) in
            ap (λ (k : ℕ). get_or (set a.visited p true) k false) o ∙ get_or-set_same a.visited p true false (omega (arith, h.long)) ∙ sym (or_right (member q r.visited) (eqb p q) e)
        by false e =
            get_or-set_other a.visited p q true false (λ o. eqb-false p q e (sym o)) ∙ h.marks q g ∙ sym (or_none e)

    pub holds_point : Holds (with_point r p) (marked a p)
    holds_point = record {
      points = among_snoc 0 54 r.visited p h.points new zero-le low;
      below = h.below;
      long = length-set a.visited p true ∙ h.long;
      marks = mark;
      slots = h.slots;
      seen = omega (arith, h.seen, length-append r.visited (p ∷ []));
      found = h.found;
    }

-- ---- what is held

module _ {a : Arrays} (h : Held a) where
  pub front_fits : a.found ≤ length a.nbrs
  front_fits = ∥∥₁_elim h le_prop (λ k. omega (arith, found_few k.1, nbrs_long k.1))

  pub seen_fits : a.seen ≤ 54
  seen_fits = ∥∥₁_elim h le_prop (λ k. seen_few k.1)

  pub held_on : {f : Reach → Reach} {b : Arrays} → Leads f a b → Held b
  held_on {f} leads = ∥∥₁_map h (λ k. (f k.0, leads k.0 k.1))

-- ---- a point, case by case

module _ {out : List ℕ} (s : Slots out) {r : Reach} {a : Arrays} (h : Holds r a) (p : ℕ) where
  module _ (real : p < length out) where
    listed : (b : Bool) → member (get_or out p 0) (take a.found a.nbrs) ≡ b → member (get_or out p 0) r.nbrs ≡ b
    listed b e = ap (member (get_or out p 0)) (sym (front h)) ∙ e

    pub holds_listed : member (get_or out p 0) (take a.found a.nbrs) ≡ true → Holds (reach out r p) a
    holds_listed e = rw (reach_listed out r p real (listed true e)) h

    module _ (e : member (get_or out p 0) (take a.found a.nbrs) ≡ false) where
      pub room_found : a.found < 40
      room_found = omega (arith, room h (get_or out p 0) (s.low p real) (listed false e), h.found)

      pub holds_found : Holds (reach out r p) (stored a (get_or out p 0))
      holds_found = rw (reach_found out r p real (listed false e)) (holds_slot h (get_or out p 0) (s.low p real) (listed false e))

  module _ (imag : length out ≤ p) where
    pub holds_late : (a.found ≡ 0 → ⊥) → Holds (reach out r p) a
    holds_late g = rw (reach_late out r p imag (none_found h ∙ ne_eqb a.found 0 g)) h

    module _ (high : p < length out + 14) where
      seen_at : (b : Bool) → get_or a.visited p false ≡ b → member p r.visited ≡ b
      seen_at b e = sym (h.marks p (omega (arith, s.few))) ∙ e

      pub holds_seen : get_or a.visited p false ≡ true → Holds (reach out r p) a
      holds_seen e = rw (reach_seen out r p imag (seen_at true e)) h

      pub holds_visited : get_or a.visited p false ≡ false → a.found ≡ 0 → Holds (reach out r p) (marked a p)
      holds_visited e g =
          rw (reach_visits out r p imag (seen_at false e) (none_found h ∙ eq-eqb a.found 0 g))
          (holds_point h p (omega (arith, s.few)) (seen_at false e))

-- a new slot has room
pub slot_fits : {out : List ℕ} {a : Arrays} → Slots out → Held a → (p : ℕ) → p < length out → member (get_or out p 0) (take a.found a.nbrs) ≡ false → a.found < 40
slot_fits s h p g e = ∥∥₁_elim h le_prop (λ k. room_found s k.1 p g e)
