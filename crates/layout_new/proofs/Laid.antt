-- The record of a hull, written in one piece, is the layout laid flat. Assumes nothing.
use Prim.Native.Nat.{ℕ}
use mathlib.Core.Path.{◌≡◌}
use mathlib.Core.List.{List, [], map, flat_map}
use lib.Ieee.{Float, nan}
use lib.ListN.{length, get_or, replicate}
use Rattle.lists.specs.Lists.{range, filled}
use Rattle.float_order.specs.Values.{+0}
use Rattle.layout_planar.specs.declared.PlanarPair.{PlanarPair}
use Rattle.layout_planar.specs.Planar.{no_pair}
use Rattle.layout_record.specs.Shape.{HullShape, numbers, hull}
use Rattle.layout_record.specs.Panner.{kind_in, mono_in, pairs_in, slots_in, hull_in, laid}
use Rattle.layout_record.specs.declared.Kind.TheVariants.{Hull}
use Rattle.layout_record.specs.declared.VbapPanner.{VbapPanner}

pub laid_hull : (n : ℕ) (h : HullShape) {nr nt ni : ℕ} {pairs : List PlanarPair} {out idx num nbrs : List ℕ} {dir inv : List Float}
    → pairs ≡ replicate 40 no_pair → nr ≡ length h.out → out ≡ filled 40 0 h.out → dir ≡ filled 120 +0 (flat_map (λ d. d) h.dirs)
    → nt ≡ length h.tris → idx ≡ filled 240 0 (flat_map numbers h.tris)
    → inv ≡ flat_map (λ e. filled 80 +0 (map (λ t. get_or t.inv e nan) h.tris)) (range 9)
    → ni ≡ length h.imag → num ≡ filled 14 0 (map length h.imag) → nbrs ≡ flat_map (filled 40 0) (filled 14 [] h.imag)
    → ◌≡◌ {A = VbapPanner}
    (record {
      num_outputs = n;
      kind = Hull;
      mono = 0;
      num_pairs = 0;
      pairs = pairs;
      num_slots = 0;
      slots = replicate 40 0;
      num_real = nr;
      pt_out = out;
      pt_dir = dir;
      num_tris = nt;
      idx = idx;
      inv = inv;
      num_imag = ni;
      num_nbrs = num;
      imag_nbrs = nbrs;
    })
    (laid (record { outputs = n; shape = hull h }))
unfolding laid kind_in mono_in pairs_in slots_in hull_in filled
laid_hull n h pairs nr out dir nt idx inv ni num nbrs = rw (pairs, nr, out, dir, nt, idx, inv, ni, num, nbrs)
