-- Document 01, "Session" and refusals 5 to 11: the calls on the record, with what a refusal leaves. Assumes nothing.
use Rattle.std.specs.Prelude.{ℕ, ◌+◌, ◌-◌, ◌*◌, Bool, ◌||◌, not, cond, eqb, ltb, leb, length, get_or, set, take, drop, replicate, Float}
use mathlib.Core.List.{List, [], ◌∷◌, ◌++◌, foldl, flat_map}
use Rattle.std.proofs.lemmas.List.Edits.{sets}
use Rattle.std.specs.Float.{nan}
use Rattle.lists.specs.Lists.{range, any, part}
use Rattle.float_order.specs.Values.{+0}
use Rattle.layout_record.specs.declared.VbapPanner.{VbapPanner}
use Rattle.layout_record.specs.Panner.{layout_in}
use Rattle.layout_record.specs.Malformed.{malformed_of}
use Rattle.row_gains.specs.Gains.{finite_or0, row_of}
use Rattle.mix_ramp.specs.Ramp.{ramp_add_of}
use Rattle.mix_block.specs.Limits.{most_sources, row_places}
use Rattle.session_history.specs.Calls.{Call, place, take_back, settle, render}
use Rattle.session_history.specs.History.{depth, longest_block}
use Rattle.session_calls.specs.declared.Session.{Session}

-- ---- malformed: its layout, sources not 1 to 8, or a standing count over the depth in any of its eight places

-- by the depth, so that records of another depth can be judged by the same words
unfoldable pub malformed_by : ℕ → Session → Bool
malformed_by deep s =
    malformed_of s.panner || ltb s.sources 1 || ltb most_sources s.sources || any (λ n. ltb deep n) s.counts

abbrev pub malformed_session : Session → Bool
malformed_session s = malformed_by depth s

-- ---- the number of each call: 11 first, the others in rising order

abbrev pub standing_count : Session → ℕ → ℕ
standing_count s i = get_or s.counts i 0

-- a call on source i: 11 and 5, then what the call has of its own
unfoldable pub on_source : Session → ℕ → ℕ → ℕ
on_source s i own = cond (malformed_session s) 11 (cond (leb s.sources i) 5 own)

unfoldable pub number_of : Session → Call → ℕ
number_of s (place i az el) = on_source s i (cond (leb depth (standing_count s i)) 6 0)
number_of s (take_back i) = on_source s i (cond (eqb (standing_count s i) 0) 7 0)
number_of s (settle i) = on_source s i 0
number_of s (render L samples outputs) =
    cond (malformed_session s) 11
    (cond (eqb L 0) 8 (cond (ltb longest_block L) 8
    (cond (not (eqb (length samples) (s.sources * L))) 9
    (cond (not (eqb (length outputs) (s.panner.num_outputs * L))) 10 0))))

-- ---- what an accepted call makes of the session

-- where direction j of source i stands
abbrev pub at : ℕ → ℕ → ℕ
at i j = i * (depth * 2) + j * 2

-- another count for source i, and other standing directions
abbrev pub stood : Session → ℕ → ℕ → List Float → Session
stood s i n l = record { panner = s.panner; sources = s.sources; counts = set s.counts i n; standing = l; starts = s.starts }

-- other start rows
abbrev pub with_starts : Session → List Float → Session
with_starts s l = record { panner = s.panner; sources = s.sources; counts = s.counts; standing = s.standing; starts = l }

-- another count for source i, and other numbers from its direction j on
unfoldable pub restood : Session → ℕ → ℕ → ℕ → List Float → Session
restood s i n j numbers = stood s i n (sets s.standing (at i j) numbers)

-- appends a direction
unfoldable pub placed : Session → ℕ → Float → Float → Session
placed s i az el =
    let n = standing_count s i in
    restood s i (n + 1) n (finite_or0 az ∷ finite_or0 el ∷ [])

-- removes the last, +0 into the freed place
unfoldable pub taken_back : Session → ℕ → Session
taken_back s i =
    let n = standing_count s i in
    restood s i (n - 1) (n - 1) (+0 ∷ +0 ∷ [])

-- keeps only the last, +0 into every place after the first; an empty list stays as it is. The last direction is copied as it is held, a NaN of a hand-made record with its bits
unfoldable pub settled : Session → ℕ → Session
settled s i =
    let n = standing_count s i in
    let last = take 2 (drop (at i (n - 1)) s.standing) in
    cond (eqb n 0) s (restood s i 1 0 (last ++ replicate (depth * 2 - 2) +0))

-- the start row of source i
unfoldable pub start_row : Session → ℕ → List Float
start_row s i = part row_places s.starts i

-- its target: the row of the last standing direction, all +0 where none stands; of n directions the last is at az and el
unfoldable pub target_row : VbapPanner → ℕ → Float → Float → List Float
target_row v n az el = cond (eqb n 0) (replicate v.num_outputs +0) (row_of (layout_in v) v.num_outputs az el)

unfoldable pub target : Session → ℕ → List Float
target s i =
    let n = standing_count s i in
    let last = at i (n - 1) in
    target_row s.panner n (get_or s.standing last nan) (get_or s.standing (last + 1) nan)

-- the start row of every source becomes its target, the places from outputs on unchanged. Of a gain that is a NaN, in a hand-made layout, sign and payload are the program's; every choice is a quiet NaN
unfoldable pub new_start : Session → ℕ → List Float
new_start s i = let row = target s i ++ drop s.panner.num_outputs (start_row s i) in cond (ltb i s.sources) row (start_row s i)

unfoldable pub rendered : Session → Session
rendered s = with_starts s (flat_map (new_start s) (range most_sources))

-- ---- the session after a call, refused or accepted, and after a list of calls

unfoldable pub accepted : Session → Call → Session
accepted s (place i az el) = placed s i az el
accepted s (take_back i) = taken_back s i
accepted s (settle i) = settled s i
accepted s (render L samples outputs) = rendered s

unfoldable pub after : Session → Call → Session
after s c = let t = accepted s c in cond (eqb (number_of s c) 0) t s

unfoldable pub after_all : Session → List Call → Session
after_all s calls = foldl after s calls

-- ---- the output buffer after render

-- slot o's part, ramped from start to target with the samples of source i
unfoldable pub ramp_slot : Session → ℕ → List Float → ℕ → List Float → ℕ → List Float
ramp_slot s L samples i outputs o =
    take (o * L) outputs
    ++ ramp_add_of (part L outputs o) (part L samples i) (get_or (start_row s i) o nan) (get_or (target s i) o nan)
    ++ drop ((o + 1) * L) outputs

-- for each source ascending, for each slot ascending. Of a ramped sample that is a NaN sign and payload are the program's; every choice is a quiet NaN
unfoldable pub mixed_outputs : Session → ℕ → List Float → List Float → List Float
mixed_outputs s L samples outputs =
    foldl (λ out i. foldl (ramp_slot s L samples i) out (range s.panner.num_outputs)) outputs (range s.sources)

unfoldable pub rendered_buffer : Session → ℕ → List Float → List Float → List Float
rendered_buffer s L samples outputs =
    let out = mixed_outputs s L samples outputs in
    cond (eqb (number_of s (render L samples outputs)) 0) out outputs
