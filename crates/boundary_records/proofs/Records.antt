-- A record and a session that are put together from their parts. Assumes nothing.
use Prim.Native.Nat.{ℕ}
use mathlib.Core.Path.{◌≡◌}
use mathlib.Core.Bool.{Bool, cond}
use mathlib.Core.List.{List, map}
use lib.Ieee.{Float}
use lib.ListN.{get_or}
use Rattle.lists.specs.Lists.{range}
use Rattle.layout_planar.specs.declared.PlanarPair.{PlanarPair}
use Rattle.layout_record.specs.declared.Kind.{Kind}
use Rattle.layout_record.specs.declared.VbapPanner.{VbapPanner}
use Rattle.session_calls.specs.declared.Session.{Session}
use Rattle.mix_block.specs.Limits.{most_sources}
use Rattle.boundary_records.specs.Places.{most_outputs, most_imaginary, head_places, pair_byte_places, slots_at, out_at, idx_at, idx_places, counts_of_nbrs_at, nbrs_at, nbr_places, record_byte_places, pair_float_places, dir_places, inv_at, inv_places, record_float_places, counts_at, start_places, standing_at, standing_places}
use Rattle.boundary_records.specs.Records.{known, kind_from, pair_from, no_record, section, record_from}
use Rattle.boundary_records.specs.Sessions.{session_from}

module _ (bytes : List ℕ) (floats : List Float) where
  -- the outputs, the kind, the pairs and the arrays are told
  pub record_made : {pb : List ℕ} {pn : List Float} {b : Bool} {o : ℕ} {k : Kind} {ps : List PlanarPair} {slots out : List ℕ} {dir : List Float} {idx : List ℕ} {inv : List Float} {counts nbrs : List ℕ}
      → pb ≡ section head_places pair_byte_places bytes → pn ≡ section 0 pair_float_places floats
      → b ≡ known (get_or bytes 1 0) pb → o ≡ cond b (get_or bytes 0 0) no_record → k ≡ kind_from (get_or bytes 1 0) → ps ≡ map (pair_from pn pb) (range most_outputs)
      → slots ≡ section slots_at most_outputs bytes → out ≡ section out_at most_outputs bytes → dir ≡ section pair_float_places dir_places floats → idx ≡ section idx_at idx_places bytes → inv ≡ section inv_at inv_places floats
      → counts ≡ section counts_of_nbrs_at most_imaginary bytes → nbrs ≡ section nbrs_at nbr_places bytes
      → ◌≡◌ {A = VbapPanner}
      (record {
        num_outputs = o;
        kind = k;
        mono = get_or bytes 2 0;
        num_pairs = get_or bytes 3 0;
        pairs = ps;
        num_slots = get_or bytes 4 0;
        slots = slots;
        num_real = get_or bytes 5 0;
        pt_out = out;
        pt_dir = dir;
        num_tris = get_or bytes 6 0;
        idx = idx;
        inv = inv;
        num_imag = get_or bytes 7 0;
        num_nbrs = counts;
        imag_nbrs = nbrs;
      })
      (record_from bytes floats)
  unfolding record_from
  record_made i j e f g h s o d x v c n = rw (f, e, g, h, i, j, s, o, d, x, v, c, n)

  pub session_made : {p : VbapPanner} {counts : List ℕ} {starts standing : List Float}
      → p ≡ record_from bytes floats → counts ≡ section counts_at most_sources bytes → starts ≡ section record_float_places start_places floats → standing ≡ section standing_at standing_places floats
      → ◌≡◌ {A = Session} (record { panner = p; sources = get_or bytes record_byte_places 0; counts = counts; standing = standing; starts = starts }) (session_from bytes floats)
  unfolding session_from
  session_made e f g h = rw (e, f, g, h)
