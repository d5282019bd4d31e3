-- Document 01, "Session" ("After the calls, a source's list here is its standing directions, and its row here is the row at the last accepted render"; "Unused places hold +0"):
-- what a history leaves, laid into the record. A definition, over the depth, and a statement, proved by `stands` (proofs/Theorem.antt). Assumes nothing.
use Rattle.std.specs.Prelude.{ℕ, ◌*◌, ◌≡◌, length, Float}
use mathlib.Core.List.{List, [], ◌∷◌, map, flat_map}
use Rattle.lists.specs.Lists.{filled}
use Rattle.float_order.specs.Values.{+0}
use Rattle.layout_record.specs.declared.VbapPanner.{VbapPanner}
use Rattle.layout_new.specs.Layout.{panner_of}
use Rattle.mix_block.specs.Limits.{most_sources, row_places}
use Rattle.session_history.specs.Calls.{Call}
use Rattle.session_history.specs.History.{Direction, Past, depth}
use Rattle.session_calls.specs.declared.Session.{Session}
use Rattle.session_calls.specs.Session.{after_all}
use Rattle.theorem_take_back.specs.Demand3.{Given, opened, history_of}

-- a direction's two numbers, and those of a list of directions in order
abbrev pub numbers_of : Direction → List Float
numbers_of d = d.azimuth ∷ d.elevation ∷ []

unfoldable pub numbers_in : List Direction → List Float
numbers_in ds = flat_map numbers_of ds

-- the places of one source in a record of a depth: two numbers for each direction that may stand, and a gain for each output that there may be; +0 in those that are left
unfoldable pub places_of : ℕ → Past → List Float
places_of deep p = filled (deep * 2) +0 (numbers_in p.standing)

unfoldable pub start_of : Past → List Float
start_of p = filled row_places +0 p.row

-- every count, list and row at its source's places, 0 and +0 in those of sources that are not used
unfoldable pub laid_at : ℕ → VbapPanner → List Past → Session
laid_at deep v ps =
    record {
      panner = v;
      sources = length ps;
      counts = filled most_sources 0 (map (λ p. length p.standing) ps);
      standing = filled (most_sources * (deep * 2)) +0 (flat_map (places_of deep) ps);
      starts = filled (most_sources * row_places) +0 (flat_map start_of ps);
    }

-- the session after the calls is their history, laid into the record
abbrev pub Stands : Type 0
Stands = (g : Given) (calls : List Call) → after_all (opened g) calls ≡ laid_at depth (panner_of g.positions g.lfe) (history_of g calls)
