-- Laws of `known`, by the kind and by each pair's three bytes, and what is no record is malformed. Assumes nothing.
use Prim.Native.Nat.{ℕ, ◌+◌, ◌*◌, ◌≤◌, ◌<◌}
use mathlib.Core.Path.{◌≡◌, refl, ◌∙◌}
use mathlib.Core.Bool.{Bool, true, false}
use mathlib.Core.List.{List, [], ◌∷◌, map}
use native.Mathlib.Omega.{arith}
use borrow.Author.Tests.{lt-ltb, le-ltb}
use lib.Dec.{ltb}
use lib.ListN.{get_or}
use Rattle.std.specs.List.{list_all}
use Rattle.lists.specs.Lists.{range, every}
use Rattle.lists.proofs.Chunks.{all_is}
use Rattle.lists.proofs.Tests.{every_map, every_always}
use Rattle.layout_record.specs.Malformed.{counts_over, malformed_of}
use Rattle.session_calls.specs.Session.{malformed_by}
use Rattle.boundary_records.specs.Places.{most_outputs}
use Rattle.boundary_records.specs.Records.{known, record_from}
use Rattle.boundary_records.specs.Sessions.{session_from}
use Rattle.boundary_records.specs.Meaning.{UnknownMalformed}

pub law_known : List ℕ → ℕ → Bool
law_known bytes i = ltb (get_or bytes (i * 3 + 2) 0) 2

pub kind_unknown : (kind : ℕ) (bytes : List ℕ) → 3 < kind → known kind bytes ≡ false
unfolding known
kind_unknown kind bytes h = rw (le-ltb kind 4 (omega arith))

pub kind_known : (kind : ℕ) (bytes : List ℕ) → kind ≤ 3 → known kind bytes ≡ every (law_known bytes) (range most_outputs)
unfolding known law_known
kind_known kind bytes h = rw (lt-ltb kind 4 (omega arith))

-- each law by its pair's three bytes
pub laws_tested : (bytes : List ℕ) → list_all (λ pair. ltb (get_or pair 2 0) 2) (map (λ t. get_or bytes (t * 3) 0 ∷ get_or bytes (t * 3 + 1) 0 ∷ get_or bytes (t * 3 + 2) 0 ∷ []) (range most_outputs))
    ≡ every (law_known bytes) (range most_outputs)
unfolding law_known
laws_tested bytes =
    let three : ℕ → List ℕ = λ t. get_or bytes (t * 3) 0 ∷ get_or bytes (t * 3 + 1) 0 ∷ get_or bytes (t * 3 + 2) 0 ∷ [] in
    all_is (λ pair. ltb (get_or pair 2 0) 2) (map three (range most_outputs)) ∙ every_map (λ pair. ltb (get_or pair 2 0) 2) three (range most_outputs)

pub laws_known : (bytes : List ℕ) → ((i : ℕ) → get_or bytes (i * 3 + 2) 0 < 2) → every (law_known bytes) (range most_outputs) ≡ true
unfolding law_known
laws_known bytes h = every_always (law_known bytes) (λ i. lt-ltb (get_or bytes (i * 3 + 2) 0) 2 (h i)) (range most_outputs)

-- what is no record is malformed: its outputs are too many
pub unknown_malformed : UnknownMalformed
unfolding record_from malformed_of counts_over malformed_by session_from
unknown_malformed bytes floats h = (rw h refl, rw h refl)
