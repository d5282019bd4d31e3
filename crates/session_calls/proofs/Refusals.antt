-- What the numbers of the calls tell: a session that is not malformed has its counts in range, and a call on one source passes what all of them share. Assumes nothing.
use Prim.Native.Nat.{ℕ, zero, suc, ◌≤◌, ◌<◌}
use mathlib.Core.Path.{◌≡◌, refl, sym, ap, ap₂}
use mathlib.Core.Bool.{Bool, true, false, ◌||◌, cond}
use mathlib.Core.List.{List, [], ◌∷◌}
use native.Mathlib.Omega.{arith}
use borrow.Author.Tests.{ltb-false, leb-false, eqb-false, lt-leb, le-ltb}
use lib.Dec.{eqb, ltb, leb}
use lib.Ieee.{Float, nan}
use lib.ListN.{get_or}
use Rattle.std.proofs.Common.{Result, Ok, Err}
use Rattle.std.specs.Result.{IsErrAnd}
use Rattle.lists.specs.Lists.{any}
use Rattle.layout_record.specs.Malformed.{malformed_of}
use Rattle.lists.proofs.Tests.{neither}
use Rattle.mix_block.specs.Limits.{most_sources}
use Rattle.session_history.specs.Calls.{place, take_back, settle}
use Rattle.session_history.specs.History.{depth}
use Rattle.session_calls.specs.Session.{malformed_by, malformed_session, standing_count, on_source, number_of}
use Rattle.session_calls.specs.declared.Session.{Session}
use Rattle.refusals.specs.declared.Refusal.{Refusal}
use Rattle.refusals.specs.declared.Refusal.TheVariants.{NotTriples, TooManyPositions, NoSuchCount, TooManyTriplets, NoSuchSource, Full, NoneStands, BlockLength, SampleLength, OutputLength, Malformed}
use Rattle.refusals.specs.Refusals.{number_of as refusal_number, number_in}

-- ---- a session that is not malformed, by its depth

pub record FormedBy (deep : ℕ) (s : Session) : Type 0 where
  pub panner : malformed_of s.panner ≡ false
  pub some : 1 ≤ s.sources
  pub few : s.sources ≤ most_sources
  pub counts : any (λ n. ltb deep n) s.counts ≡ false

abbrev pub Formed : Session → Type 0
Formed s = FormedBy depth s

module _ (deep : ℕ) (s : Session) where
  pub formed_by : malformed_by deep s ≡ false → FormedBy deep s
  unfolding malformed_by
  formed_by e =
      let p = neither (malformed_of s.panner || ltb s.sources 1 || ltb most_sources s.sources) _ e in
      let q = neither (malformed_of s.panner || ltb s.sources 1) _ p.0 in
      let r = neither (malformed_of s.panner) _ q.0 in
      record { panner = r.0; some = ltb-false _ _ r.1; few = ltb-false _ _ q.1; counts = p.1 }

  pub formed_by_is : FormedBy deep s → malformed_by deep s ≡ false
  unfolding malformed_by
  formed_by_is f =
      ap₂ ◌||◌ (ap₂ ◌||◌ (ap₂ ◌||◌ f.panner (le-ltb s.sources 1 f.some)) (le-ltb most_sources s.sources f.few)) f.counts

pub formed : (s : Session) → malformed_session s ≡ false → Formed s
formed s e = formed_by depth s e

pub formed_is : (s : Session) → Formed s → malformed_session s ≡ false
formed_is s f = formed_by_is depth s f

pub none_at : (b : ℕ) (l : List ℕ) (i : ℕ) → any (λ n. ltb b n) l ≡ false → get_or l i 0 ≤ b
unfolding any
none_at b [] i e = omega arith
none_at b (n ∷ l) zero e = ltb-false b n (neither (ltb b n) (any (λ n. ltb b n) l) e).0
none_at b (n ∷ l) (suc i) e = none_at b l i (neither (ltb b n) (any (λ n. ltb b n) l) e).1

-- ---- a refusal's number

pub refused : (why : Refusal) → refusal_number why ≡ 0 → ⊥
refused NotTriples e = omega arith
refused TooManyPositions e = omega arith
refused NoSuchCount e = omega arith
refused TooManyTriplets e = omega arith
refused NoSuchSource e = omega arith
refused Full e = omega arith
refused NoneStands e = omega arith
refused BlockLength e = omega arith
refused SampleLength e = omega arith
refused OutputLength e = omega arith
refused Malformed e = omega arith

-- a refusal that `?` passes on has the number that it had
pub number_passed : (r : Result (Unit {0}) Refusal) (why : Refusal) → IsErrAnd r (λ e. e ≡ why) → number_in r ≡ refusal_number why
number_passed (Ok u) why h = absurd h
number_passed (Err y) why h = ap refusal_number h

-- ---- the refusals that all calls on one source share

-- what a call on source i has shown once the shared refusals are passed
pub record Passed (s : Session) (i : ℕ) : Type 0 where
  pub formed : malformed_session s ≡ false
  pub low : i < s.sources
  pub source : i < most_sources
  pub few : standing_count s i ≤ depth

module _ (s : Session) (i : ℕ) where
  pub malformed_source : (own : ℕ) → malformed_session s ≡ true → on_source s i own ≡ 11
  unfolding on_source
  malformed_source own m = rw m

  pub no_source : (own : ℕ) → malformed_session s ≡ false → leb s.sources i ≡ true → on_source s i own ≡ 5
  unfolding on_source
  no_source own m h = rw (m, h)

  pub on_source_lem : (own : ℕ) → malformed_session s ≡ false → leb s.sources i ≡ false → on_source s i own ≡ own
  unfolding on_source
  on_source_lem own m h = rw (m, h)

  -- the shared ones first: where one of them applies, the call's own does not count
  first : (m b : Bool) (own : ℕ) → (◌≡◌ {A = ℕ} (cond m 11 (cond b 5 0)) 0 → ⊥) → ◌≡◌ {A = ℕ} (cond m 11 (cond b 5 own)) (cond m 11 (cond b 5 0))
  first true b own h = refl
  first false true own h = refl
  first false false own h = absurd (h refl)

  pub shared_first : (own : ℕ) → (on_source s i 0 ≡ 0 → ⊥) → on_source s i own ≡ on_source s i 0
  unfolding on_source
  shared_first own h = first (malformed_session s) (leb s.sources i) own h

  -- where the whole is 0, none of them applies, and the call's own is 0
  none : (m b : Bool) (own : ℕ) → ◌≡◌ {A = ℕ} (cond m 11 (cond b 5 own)) 0 → (m ≡ false) × (b ≡ false) × (own ≡ 0)
  none true b own h = absurd (omega arith)
  none false true own h = absurd (omega arith)
  none false false own h = (refl, refl, h)

  module _ (own : ℕ) (z : on_source s i own ≡ 0) where
    tests : (malformed_session s ≡ false) × (leb s.sources i ≡ false) × (own ≡ 0)
    unfolding on_source
    tests = none (malformed_session s) (leb s.sources i) own z

    pub passed : Passed s i
    passed =
        let f = formed s tests.0 in
        let h : i < s.sources = leb-false s.sources i tests.1 in
        record { formed = tests.0; low = h; source = omega arith; few = none_at depth s.counts i f.counts }

    pub own_passed : own ≡ 0
    own_passed = tests.2

  -- so that the call's own number stands where the shared ones are passed
  pub passed_own : (own : ℕ) → Passed s i → on_source s i own ≡ own
  passed_own own p = on_source_lem own p.formed (lt-leb s.sources i p.low)

  -- ---- of each call

  pub place_shared : (az el : Float) → (on_source s i 0 ≡ 0 → ⊥) → number_of s (place i az el) ≡ on_source s i 0
  unfolding number_of
  place_shared az el h = shared_first _ h

  pub take_shared : (on_source s i 0 ≡ 0 → ⊥) → number_of s (take_back i) ≡ on_source s i 0
  unfolding number_of
  take_shared h = shared_first _ h

  pub place_own : (az el : Float) → Passed s i → number_of s (place i az el) ≡ cond (leb depth (standing_count s i)) 6 0
  unfolding number_of
  place_own az el p = passed_own _ p

  pub take_own : Passed s i → number_of s (take_back i) ≡ cond (eqb (standing_count s i) 0) 7 0
  unfolding number_of
  take_own p = passed_own _ p

  pub settle_number : number_of s (settle i) ≡ on_source s i 0
  unfolding number_of
  settle_number = refl

-- what an accepted call has shown
module _ (s : Session) (i : ℕ) where
  room : (b : Bool) → ◌≡◌ {A = ℕ} (cond b 6 0) 0 → b ≡ false
  room true e = absurd (omega arith)
  room false e = refl

  some : (b : Bool) → ◌≡◌ {A = ℕ} (cond b 7 0) 0 → b ≡ false
  some true e = absurd (omega arith)
  some false e = refl

  pub place_passed : (az el : Float) → number_of s (place i az el) ≡ 0 → Passed s i × (standing_count s i < depth)
  unfolding number_of
  place_passed az el z = (passed s i _ z, leb-false depth (standing_count s i) (room _ (own_passed s i _ z)))

  pub take_passed : number_of s (take_back i) ≡ 0 → Passed s i × (1 ≤ standing_count s i)
  unfolding number_of
  take_passed z =
      let h : standing_count s i ≡ 0 → ⊥ = eqb-false (standing_count s i) 0 (some _ (own_passed s i _ z)) in
      (passed s i _ z, omega arith)

  pub settle_passed : number_of s (settle i) ≡ 0 → Passed s i
  unfolding number_of
  settle_passed z = passed s i _ z

-- and a call that is not refused, by the number that was returned
module _ (s : Session) (i : ℕ) where
  pub shared_source : 0 ≡ on_source s i 0 → i < most_sources
  shared_source z = (passed s i 0 (sym z)).source

  pub shared_few : 0 ≡ on_source s i 0 → standing_count s i ≤ depth
  shared_few z = (passed s i 0 (sym z)).few

  pub place_source : ((az el : Float) → 0 ≡ number_of s (place i az el)) → i < most_sources
  place_source z = (place_passed s i nan nan (sym (z nan nan))).0.source

  pub place_room : ((az el : Float) → 0 ≡ number_of s (place i az el)) → standing_count s i < depth
  place_room z = (place_passed s i nan nan (sym (z nan nan))).1

  pub take_source : 0 ≡ number_of s (take_back i) → i < most_sources
  take_source z = (take_passed s i (sym z)).0.source

  pub take_some : 0 ≡ number_of s (take_back i) → (1 ≤ standing_count s i) × (standing_count s i ≤ depth)
  take_some z = ((take_passed s i (sym z)).1, (take_passed s i (sym z)).0.few)
