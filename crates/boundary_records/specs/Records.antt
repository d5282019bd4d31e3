-- A record in two lent arrays, one of bytes and one of floats: docs/EMBEDDING.md. The kind and the law are numbers there. Assumes nothing.
use Rattle.std.specs.Prelude.{ℕ, ◌+◌, ◌*◌, min, Bool, ◌&&◌, cond, eqb, ltb, Float, get_or, take, drop}
use mathlib.Core.List.{List, [], ◌∷◌, ◌++◌, map, flat_map}
use Rattle.std.specs.Float.{nan}
use Rattle.lists.specs.Lists.{range, every, filled}
use Rattle.float_order.specs.Values.{+0}
use Rattle.layout_planar.specs.declared.Law.{Law}
use Rattle.layout_planar.specs.declared.Law.TheVariants.{Inverse, Crossfade}
use Rattle.layout_planar.specs.declared.PlanarPair.{PlanarPair}
use Rattle.layout_record.specs.declared.Kind.{Kind}
use Rattle.layout_record.specs.declared.Kind.TheVariants.{Silent, Mono, Planar, Hull}
use Rattle.layout_record.specs.declared.VbapPanner.{VbapPanner}
use Rattle.boundary_records.specs.Places.{most_outputs, most_imaginary, head_places, pair_byte_places, slots_at, out_at, idx_at, idx_places, counts_of_nbrs_at, nbrs_at, nbr_places, pair_float_places, dir_places, inv_at, inv_places}

-- ---- written to the arrays

abbrev pub kind_number : Kind → ℕ
kind_number Silent = 0
kind_number Mono = 1
kind_number Planar = 2
kind_number Hull = 3

-- outputs, the kind, the mono slot, and the counts
unfoldable pub head_of : VbapPanner → List ℕ
head_of p =
    p.num_outputs ∷ kind_number p.kind ∷ p.mono ∷ p.num_pairs ∷ p.num_slots ∷ p.num_real ∷ p.num_tris ∷ p.num_imag ∷ []

-- a law's four numbers, +0 for the crossfade; and its own, 1 for the inverse and 0 for the crossfade
abbrev pub law_numbers : Law → List Float
law_numbers (Inverse a b c d) = a ∷ b ∷ c ∷ d ∷ []
law_numbers Crossfade = +0 ∷ +0 ∷ +0 ∷ +0 ∷ []

abbrev pub law_number : Law → ℕ
law_number (Inverse a b c d) = 1
law_number Crossfade = 0

-- a pair's six numbers and three bytes
unfoldable pub numbers_of : PlanarPair → List Float
numbers_of p = p.start ∷ p.gap ∷ law_numbers p.law

unfoldable pub bytes_of : PlanarPair → List ℕ
bytes_of p = p.a ∷ p.b ∷ law_number p.law ∷ []

-- the numbers and the bytes of the first n pairs, +0 and 0 behind them
unfoldable pub pair_numbers : ℕ → List PlanarPair → List Float
pair_numbers n ps = filled pair_float_places +0 (flat_map numbers_of (take (min n most_outputs) ps))

unfoldable pub pair_bytes : ℕ → List PlanarPair → List ℕ
pair_bytes n ps = filled pair_byte_places 0 (flat_map bytes_of (take (min n most_outputs) ps))

-- a record's bytes and floats, one part after another
unfoldable pub record_bytes : VbapPanner → List ℕ
record_bytes p =
    head_of p
    ++ pair_bytes p.num_pairs p.pairs
    ++ p.slots
    ++ p.pt_out
    ++ p.idx
    ++ p.num_nbrs
    ++ p.imag_nbrs

unfoldable pub record_floats : VbapPanner → List Float
record_floats p = pair_numbers p.num_pairs p.pairs ++ p.pt_dir ++ p.inv

-- ---- read from the arrays

-- the kind of a number up to 3, and the law of a number up to 1
unfoldable pub kind_from : ℕ → Kind
kind_from n = cond (eqb n 0) Silent (cond (eqb n 1) Mono (cond (eqb n 2) Planar Hull))

unfoldable pub law_from : ℕ → Float → Float → Float → Float → Law
law_from n a b c d = cond (eqb n 1) (Inverse a b c d) Crossfade

unfoldable pub pair_from : List Float → List ℕ → ℕ → PlanarPair
pair_from numbers bytes i =
    record {
      start = get_or numbers (i * 6) nan;
      gap = get_or numbers (i * 6 + 1) nan;
      a = get_or bytes (i * 3) 0;
      b = get_or bytes (i * 3 + 1) 0;
      law =
          law_from (get_or bytes (i * 3 + 2) 0) (get_or numbers (i * 6 + 2) nan) (get_or numbers (i * 6 + 3) nan) (get_or numbers (i * 6 + 4) nan)
          (get_or numbers (i * 6 + 5) nan);
    }

-- the kind is one of four, and the law of each pair, used or not, one of two
unfoldable pub known : ℕ → List ℕ → Bool
known kind bytes = ltb kind 4 && every (λ i. ltb (get_or bytes (i * 3 + 2) 0) 2) (range most_outputs)

-- the outputs of arrays with an unknown kind or law: more than there may be. Origin: the greatest byte
abbrev pub no_record : ℕ
no_record = 255

-- the n places from place i on
abbrev pub section : {A : Type 0} → ℕ → ℕ → List A → List A
section i n l = take n (drop i l)

-- the record in the first places of the arrays. Where the kind or a law is unknown its outputs are too many, so that every call refuses it with 11 (unknown-malformed)
unfoldable pub record_from : List ℕ → List Float → VbapPanner
record_from bytes floats =
    record {
      num_outputs = cond (known (get_or bytes 1 0) (section head_places pair_byte_places bytes)) (get_or bytes 0 0) no_record;
      kind = kind_from (get_or bytes 1 0);
      mono = get_or bytes 2 0;
      num_pairs = get_or bytes 3 0;
      pairs = map (pair_from (section 0 pair_float_places floats) (section head_places pair_byte_places bytes)) (range most_outputs);
      num_slots = get_or bytes 4 0;
      slots = section slots_at most_outputs bytes;
      num_real = get_or bytes 5 0;
      pt_out = section out_at most_outputs bytes;
      pt_dir = section pair_float_places dir_places floats;
      num_tris = get_or bytes 6 0;
      idx = section idx_at idx_places bytes;
      inv = section inv_at inv_places floats;
      num_imag = get_or bytes 7 0;
      num_nbrs = section counts_of_nbrs_at most_imaginary bytes;
      imag_nbrs = section nbrs_at nbr_places bytes;
    }
