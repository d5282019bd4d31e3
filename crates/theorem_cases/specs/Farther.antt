-- Document 01, "Session", demand 3, of "the same accepted layout", and "Proving ground" ("Position F is (0, 0, −1)"): two lists of positions that make one layout, so that demand 3 speaks of a session of each.
-- A statement, proved by `farther` (proofs/Farther.antt). Assumes nothing.
use Rattle.std.specs.Prelude.{ℕ, ◌≤◌, ◌≡◌, List, [], ◌∷◌, ◌++◌, Float}
use Rattle.std.specs.Float.Ieee.{neg}
use Rattle.float_order.specs.Values.{+0, 2·0}
use Rattle.mix_block.specs.Limits.{most_sources}
use Rattle.session_open.specs.Open.{open_of}
use Rattle.theorem_take_back.specs.Demand3.{Given, Comparable}
use Rattle.theorem_cases.specs.Table.{F}

-- F at twice the distance: (0, 0, −2)
abbrev pub far_f : List Float
far_f = +0 ∷ +0 ∷ neg 2·0 ∷ []

-- open accepts both lists, without LFE slots, with as many sources as there may be, and two sessions, one of each, are comparable
pub record OneLayout (near far : List Float) : Type 0 where
  pub accepted : (n : ℕ) → 1 ≤ n → n ≤ most_sources → ((open_of near [] n).number ≡ 0) × ((open_of far [] n).number ≡ 0)
  pub comparable : (g h : Given) → g.positions ≡ near → g.lfe ≡ [] → h.positions ≡ far → h.lfe ≡ [] → g.sources ≡ h.sources → Comparable g h

-- F alone, and F, F
abbrev pub Farther : Type 0
Farther = OneLayout F far_f × OneLayout (F ++ F) (far_f ++ far_f)
