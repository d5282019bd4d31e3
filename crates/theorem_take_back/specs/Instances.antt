-- Document 01, "Session" ("Two sessions are equal when every field has the same bits"), "Tempting but wrong" ("remembering the start as a direction, so that two with one row count as unequal") and "Proving ground" ("Place, take back: equal to fresh"):
-- what demand 3 says of short lists of calls. Statements, proved by `one_row` and `zeros_apart` (proofs/Instances.antt) and `placed_back` (proofs/PlacedBack.antt). Assumes nothing.
use Rattle.std.specs.Prelude.{ℕ, suc, ◌<◌, ◌≡◌, true, List, [], ◌∷◌, pos, length, get_or, Float}
use Rattle.std.specs.Float.{fin}
use Rattle.float_order.specs.Values.{+0}
use Rattle.layout_new.specs.Layout.{layout_of}
use Rattle.row_gains.specs.Gains.{row_of}
use Rattle.session_history.specs.Calls.{place, take_back, render}
use Rattle.session_calls.specs.declared.Session.{Session}
use Rattle.session_calls.specs.Session.{standing_count, number_of, at, after_all}
use Rattle.theorem_take_back.specs.Demand3.{Given, opened}

-- −0: 8000_0000
abbrev pub −0 : Float
−0 = fin true 0 (pos 0)

-- a render at one of two directions that have one row, and that direction taken back: the sessions are equal, be the render accepted or refused
abbrev pub OneRow : Type 0
OneRow =
    (g : Given) (i : ℕ) → i < g.sources
    → (az el az' el' : Float)
    → let l = layout_of g.positions g.lfe in
    row_of l l.outputs az el ≡ row_of l l.outputs az' el'
    → (L : ℕ) (samples outputs : List Float)
    → after_all (opened g) (place i az el ∷ render L samples outputs ∷ take_back i ∷ [])
    ≡ after_all (opened g) (place i az' el' ∷ render L samples outputs ∷ take_back i ∷ [])

-- +0 and −0 have different bits: placed as an azimuth, or as an elevation, they leave unequal sessions
abbrev pub ZerosApart : Type 0
ZerosApart =
    (g : Given) (i : ℕ) → i < g.sources
    → (x : Float)
    → (after_all (opened g) (place i +0 x ∷ []) ≡ after_all (opened g) (place i −0 x ∷ []) → ⊥)
    × (after_all (opened g) (place i x +0 ∷ []) ≡ after_all (opened g) (place i x −0 ∷ []) → ⊥)

-- a direction placed and taken back, on any session that accepts it, a record made by hand too: where its two places held +0, the session is as it was
abbrev pub PlacedBack : Type 0
PlacedBack =
    (s : Session) (i : ℕ) (az el : Float) → number_of s (place i az el) ≡ 0 → i < length s.counts
    → let k = at i (standing_count s i) in
    get_or s.standing k +0 ≡ +0 → get_or s.standing (suc k) +0 ≡ +0
    → after_all s (place i az el ∷ take_back i ∷ []) ≡ s
