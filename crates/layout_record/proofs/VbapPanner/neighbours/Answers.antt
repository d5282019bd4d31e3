-- `VbapPanner::neighbours` meets its contract: the part that the code takes is that of the neighbours reached. Assumes nothing.
use Rattle.std.proofs.Common.{◌≡◌, ℕ, ◌+◌, ◌-◌, ◌*◌, ◌≤◌, List, take, drop, get_or, sym, arith}
use lib.Seq.{take-take}
use Rattle.lists.specs.Lists.{part}
use Rattle.layout_record.specs.Panner.{near_in}
use Rattle.layout_record.proofs.VbapPanner.neighbours.Goals as goal

reached : (counts xs : List ℕ) (k : ℕ) → get_or counts k 0 ≤ 40 → take (k * 40 + get_or counts k 0 - k * 40) (drop (k * 40) xs) ≡ near_in counts xs k
unfolding part
reached counts xs k h =
    let e : k * 40 + get_or counts k 0 - k * 40 ≡ get_or counts k 0 = omega arith in
    rw e (sym (take-take (get_or counts k 0) 40 (drop (k * 40) xs) h))

pub returns : goal.returns
returns c = let v = c.args.self.now in reached v.num_nbrs v.imag_nbrs c.args.k c.requires.1
