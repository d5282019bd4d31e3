-- `session_render::new_starts` meets its contract: each turn renews one row in place, and the rows of no source stay. Assumes nothing.
use Prim.Native.Nat.{ℕ, ◌*◌, ◌<◌}
use mathlib.Core.Path.{◌≡◌}
use lib.ListN.{length}
use Rattle.mix_block.specs.Limits.{most_sources, row_places}
use Rattle.session_calls.specs.Session.{target, new_start}
use Rattle.session_render.proofs.Rows.{Renewed}
use Rattle.session_render.proofs.new_starts.Given as goal

abbrev pub invariant-loop-i : goal.invariant-loop-i
invariant-loop-i l = (length l.next ≡ most_sources * row_places) × Renewed row_places l.s.starts (new_start l.s) l.i l.next × ((j : ℕ) → j < l.i → length (target l.s j) ≡ l.s.panner.num_outputs)
