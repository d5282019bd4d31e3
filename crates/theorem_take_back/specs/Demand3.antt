-- Document 01, "Session": demand 3, one claim about two whole lists of calls. A statement, proved by `demand3` (proofs/Theorem.antt). Assumes nothing.
-- Two sessions, each as open returned it at first, for the same accepted layout and count of sources, are equal in every field after any two lists of calls
-- exactly where both histories leave every source with the same directions and the same row. All four calls mix freely in both lists, and each may be refused or accepted.
use Rattle.std.specs.Prelude.{ℕ, ◌<◌, ◌≡◌, ◌↔◌, List, Float}
use Rattle.layout_new.specs.Layout.{layout_of}
use Rattle.session_history.specs.Calls.{Call}
use Rattle.session_calls.specs.declared.Session.{Session}
use Rattle.session_open.specs.Open.{open_of}
use Rattle.session_calls.specs.Session.{after_all}
use Rattle.session_history.specs.History.{Past, history, past}

-- of one source: the same standing directions, and the same row at the last accepted render
pub record Alike (p q : Past) : Type 0 where
  pub directions : p.standing ≡ q.standing
  pub gains : p.row ≡ q.row

-- ---- what open was given, where it accepts that

pub record Given : Type 0 where
  pub positions : List Float
  pub lfe : List ℕ
  pub sources : ℕ
  pub accepted : (open_of positions lfe sources).number ≡ 0

abbrev pub opened : Given → Session
opened g = (open_of g.positions g.lfe g.sources).session

abbrev pub history_of : Given → List Call → List Past
history_of g calls = history g.positions g.lfe g.sources calls

abbrev pub past_of : Given → List Call → ℕ → Past
past_of g calls i = past g.positions g.lfe g.sources calls i

-- "the same accepted layout", be it from the same positions and LFE slots or from others
pub record Comparable (g h : Given) : Type 0 where
  pub layout : layout_of g.positions g.lfe ≡ layout_of h.positions h.lfe
  pub sources : g.sources ≡ h.sources

-- ---- demand 3

abbrev pub Demand3 : Type 0
Demand3 =
    (g h : Given) → Comparable g h → (one two : List Call)
    → (after_all (opened g) one ≡ after_all (opened h) two) ↔ ((i : ℕ) → i < g.sources → Alike (past_of g one i) (past_of h two i))

-- its instance for one list of positions and LFE slots, given to open twice; proved from it by `demand3_alike`
abbrev pub Demand3Alike : Type 0
Demand3Alike =
    (positions : List Float) (lfe : List ℕ) (sources : ℕ) → (open_of positions lfe sources).number ≡ 0
    → (one two : List Call)
    → (after_all (open_of positions lfe sources).session one ≡ after_all (open_of positions lfe sources).session two)
    ↔ ((i : ℕ) → i < sources → Alike (past positions lfe sources one i) (past positions lfe sources two i))
