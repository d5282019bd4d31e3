-- How proofs change a field of a session: two sessions are the same where every field is. Assumes nothing.
use Prim.Native.Nat.{ℕ}
use mathlib.Core.Path.{◌≡◌}
use mathlib.Core.List.{List}
use lib.ListN.{set}
use lib.Ieee.{Float}
use Rattle.session_calls.specs.declared.Session.{Session}
use Rattle.session_calls.specs.Session.{stood, with_starts}

pub record SameFields (s t : Session) : Type 0 where
  pub panner : s.panner ≡ t.panner
  pub sources : s.sources ≡ t.sources
  pub counts : s.counts ≡ t.counts
  pub standing : s.standing ≡ t.standing
  pub starts : s.starts ≡ t.starts

pub same_session : (s t : Session) → SameFields s t → s ≡ t
same_session s t e =
    λ k. record { panner = e.panner k; sources = e.sources k; counts = e.counts k; standing = e.standing k; starts = e.starts k }

-- the fields that no call changes
pub record SameRest (s t : Session) : Type 0 where
  pub panner : s.panner ≡ t.panner
  pub sources : s.sources ≡ t.sources

pub stood_same : (s t : Session) → SameRest s t → (i n : ℕ) (l : List Float) → set s.counts i n ≡ t.counts → l ≡ t.standing → s.starts ≡ t.starts → stood s i n l ≡ t
stood_same s t r i n l c d e =
    same_session (stood s i n l) t (record { panner = r.panner; sources = r.sources; counts = c; standing = d; starts = e })

pub starts_same : (s t : Session) → SameRest s t → (l : List Float) → s.counts ≡ t.counts → s.standing ≡ t.standing → l ≡ t.starts → with_starts s l ≡ t
starts_same s t r l c d e =
    same_session (with_starts s l) t (record { panner = r.panner; sources = r.sources; counts = c; standing = d; starts = e })
