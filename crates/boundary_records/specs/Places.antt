-- The places of a record and of a session in two lent arrays, one of bytes and one of floats: docs/EMBEDDING.md. Each part begins where the one before ends. Assumes nothing.
use Rattle.std.specs.Prelude.{ℕ, ◌+◌, ◌*◌}
use Rattle.mix_block.specs.Limits.{most_sources, row_places}
use Rattle.session_history.specs.History.{depth}

-- ---- how many there may be

-- outputs, and no more pairs, slots, real points and neighbours of one. Origin: a place of a row for each output
abbrev pub most_outputs : ℕ
most_outputs = row_places

-- triplets of a hull. Origin: document 01, refusal 4
abbrev pub most_triplets : ℕ
most_triplets = 80

-- imaginary points of a hull. Origin: document 01, "Returned numbers" (11)
abbrev pub most_imaginary : ℕ
most_imaginary = 14

-- ---- the bytes of a record: the head, the pairs, the slots, the points' slots, the triplets, the counts of neighbours, and the neighbours

-- outputs, kind, mono slot, and the counts of pairs, slots, real points, triplets and imaginary points
abbrev pub head_places : ℕ
head_places = 8

-- both slots and the law of each pair
abbrev pub pair_byte_places : ℕ
pair_byte_places = most_outputs * 3

abbrev pub slots_at : ℕ
slots_at = head_places + pair_byte_places

abbrev pub out_at : ℕ
out_at = slots_at + most_outputs

abbrev pub idx_at : ℕ
idx_at = out_at + most_outputs

-- three point numbers of each triplet
abbrev pub idx_places : ℕ
idx_places = most_triplets * 3

abbrev pub counts_of_nbrs_at : ℕ
counts_of_nbrs_at = idx_at + idx_places

abbrev pub nbrs_at : ℕ
nbrs_at = counts_of_nbrs_at + most_imaginary

-- a list of neighbours for each imaginary point
abbrev pub nbr_places : ℕ
nbr_places = most_imaginary * most_outputs

-- all bytes of a record, 1,022
abbrev pub record_byte_places : ℕ
record_byte_places = nbrs_at + nbr_places

-- ---- its floats: the pairs, the points' directions, and the inverses

-- start, gap and the law's four numbers of each pair
abbrev pub pair_float_places : ℕ
pair_float_places = most_outputs * 6

-- the direction of each real point
abbrev pub dir_places : ℕ
dir_places = most_outputs * 3

abbrev pub inv_at : ℕ
inv_at = pair_float_places + dir_places

-- the nine entries of each triplet's inverse
abbrev pub inv_places : ℕ
inv_places = 9 * most_triplets

-- all floats of a record, 1,080
abbrev pub record_float_places : ℕ
record_float_places = inv_at + inv_places

-- ---- a session's, behind its record's: the count of sources and the standing counts; the start rows and the standing directions

-- behind the count of sources
abbrev pub counts_at : ℕ
counts_at = record_byte_places + 1

-- all bytes of a session
abbrev pub session_byte_places : ℕ
session_byte_places = counts_at + most_sources

-- a row for each source
abbrev pub start_places : ℕ
start_places = most_sources * row_places

abbrev pub standing_at : ℕ
standing_at = record_float_places + start_places

-- the azimuth and the elevation of each direction that may stand
abbrev pub standing_places : ℕ
standing_places = most_sources * (depth * 2)

-- all floats of a session
abbrev pub session_float_places : ℕ
session_float_places = standing_at + standing_places
