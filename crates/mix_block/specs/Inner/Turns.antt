-- Document 01, "Session" ("For each source ascending, for each slot ascending"): one turn of each loop. The definitions of crate `session_calls` tell the same by the session. Assumes nothing.
use Rattle.std.specs.Prelude.{ℕ, ◌+◌, ◌*◌, get_or, take, drop, Float}
use mathlib.Core.List.{List, ◌++◌, foldl}
use Rattle.std.specs.Float.{nan}
use Rattle.lists.specs.Lists.{range, part}
use Rattle.mix_ramp.specs.Ramp.{ramp_add_of}
use Rattle.mix_block.specs.Limits.{row_places}
use Rattle.mix_block.specs.declared.Block.{Block}

-- slot o's part, ramped with the samples of source i from its gain in one list of rows to its gain in the other
unfoldable pub ramp_part : Block → ℕ → List Float → ℕ → List Float
ramp_part b i out o =
    take (o * b.block) out
    ++ ramp_add_of (part b.block out o) (part b.block b.samples.now i) (get_or b.from.now (i * row_places + o) nan) (get_or b.to.now (i * row_places + o) nan)
    ++ drop ((o + 1) * b.block) out

-- for each slot ascending
unfoldable pub ramp_source : Block → List Float → ℕ → List Float
ramp_source b out i = foldl (ramp_part b i) out (range b.outputs)
