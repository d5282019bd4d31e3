-- `layout_neighbours::Search::reach` meets its contract: each way through the tests is a case of the definition, and its store is the case's law; a new slot has room, since distinct slots below 40 are at most 40. Assumes nothing.
use Rattle.std.proofs.Common.{◌≡◌, false, slice_index_or, take, sym, ◌∙◌, arith}
use Rattle.lists.specs.Lists.{member}
use Rattle.layout_neighbours.specs.Neighbours.{reach}
use Rattle.layout_neighbours.specs.Inner.Search.{Leads}
use Rattle.layout_neighbours.specs.Inner.Arrays.{arrays_of}
use Rattle.layout_neighbours.proofs.Holds.{slots, stored, marked, front_fits, seen_fits, held_on, slot_fits, holds_listed, holds_found, holds_seen, holds_late, holds_visited}
use Rattle.layout_neighbours.proofs.Search.reach.Goals as goal
use Rattle.layout_neighbours.proofs.Search.reach.Goals.{Else-contains, Else-n-ne0}

-- the slot is new
new_slot : (c : Else-contains) → member (slice_index_or c.args.g.slots.now c.args.p 0) (take c.args.self.now.found c.args.self.now.nbrs) ≡ false
new_slot c = sym c.contains.ensures ∙ c.if-contains.false

-- a slot more
slot_more : (c : Else-contains)
    → Leads (λ r. reach c.args.g.slots.now r c.args.p) (arrays_of c.args.self.now) (stored (arrays_of c.args.self.now) (slice_index_or c.args.g.slots.now c.args.p 0))
slot_more c r h = holds_found (slots c.args.g.few c.args.g.low) h c.args.p c.if-p-g.true (new_slot c)

-- a point more
point_more : (c : Else-n-ne0) → Leads (λ r. reach c.args.g.slots.now r c.args.p) (arrays_of c.args.self.now) (marked (arrays_of c.args.self.now) c.args.p)
point_more c r h =
    holds_visited (slots c.args.g.few c.args.g.low) h c.args.p c.if-p-g.false c.requires c.if-self-p.false c.if-n-ne0.false

pub shared_ref_as_front-contains : goal.shared_ref_as_front-contains
shared_ref_as_front-contains c = omega (arith, front_fits c.args.self.now.held)

pub returns-then-contains : goal.returns-then-contains
returns-then-contains c r h =
    holds_listed (slots c.args.g.few c.args.g.low) h c.args.p c.if-p-g.true (sym c.contains.ensures ∙ c.if-contains.true)

pub bounds-self-n : goal.bounds-self-n
bounds-self-n c =
    slot_fits (slots c.args.g.few c.args.g.low) c.args.self.now.held c.args.p c.if-p-g.true (new_slot (goal.at.bounds-self-n c).Else-contains)

pub invariant_of-self : goal.invariant_of-self
invariant_of-self c = record { held = held_on c.args.self.now.held (slot_more (goal.at.invariant_of-self c).Else-contains) }

pub returns-then-p-g : goal.returns-then-p-g
returns-then-p-g c = slot_more (goal.at.returns-then-p-g c).Else-contains

pub returns-then-self-p : goal.returns-then-self-p
returns-then-self-p c r h =
    holds_seen (slots c.args.g.few c.args.g.low) h c.args.p c.if-p-g.false c.requires c.if-self-p.true

pub returns-then-n-ne0 : goal.returns-then-n-ne0
returns-then-n-ne0 c r h = holds_late (slots c.args.g.few c.args.g.low) h c.args.p c.if-p-g.false c.if-n-ne0.true

pub overflow_add-self-2 : goal.overflow_add-self-2
overflow_add-self-2 c = omega (arith, seen_fits c.args.self.now.held)

pub invariant_of-self-2 : goal.invariant_of-self-2
invariant_of-self-2 c = record { held = held_on c.args.self.now.held (point_more c) }

pub returns : goal.returns
returns c = point_more (goal.at.returns c).Else-n-ne0
