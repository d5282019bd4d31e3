-- Document 01, "Layout" ("Places and counts of a layout that its kind doesn't reach hold 0, +0 or, for a law, the crossfade") and "What to write where": the flat record.
-- `laid` writes a layout into it, `layout_in` reads what its kind and counts reach. Assumes nothing.
use Rattle.std.specs.Prelude.{ℕ, ◌+◌, ◌*◌, length, get_or, take}
use mathlib.Core.List.{List, [], map, flat_map}
use Rattle.std.specs.Float.{nan}
use Rattle.lists.specs.Lists.{range, filled, part}
use Rattle.float_order.specs.Values.{+0}
use Rattle.layout_planar.specs.declared.PlanarPair.{PlanarPair}
use Rattle.layout_planar.specs.Planar.{no_pair}
use Rattle.layout_hull.specs.Triplets.{Triplet}
use Rattle.layout_record.specs.Shape.{HullShape, numbers, Shape, silent, mono, planar, hull, Layout}
use Rattle.layout_record.specs.declared.Kind.{Kind}
use Rattle.layout_record.specs.declared.Kind.TheVariants.{Silent, Mono, Planar, Hull}
use Rattle.layout_record.specs.declared.VbapPanner.{VbapPanner}

-- ---- the parts of a shape; what it does not reach is empty

unfoldable pub kind_in : Shape → Kind
kind_in silent = Silent
kind_in (mono i) = Mono
kind_in (planar ps ss) = Planar
kind_in (hull h) = Hull

unfoldable pub mono_in : Shape → ℕ
mono_in silent = 0
mono_in (mono i) = i
mono_in (planar ps ss) = 0
mono_in (hull h) = 0

unfoldable pub pairs_in : Shape → List PlanarPair
pairs_in silent = []
pairs_in (mono i) = []
pairs_in (planar ps ss) = ps
pairs_in (hull h) = []

unfoldable pub slots_in : Shape → List ℕ
slots_in silent = []
slots_in (mono i) = []
slots_in (planar ps ss) = ss
slots_in (hull h) = []

abbrev pub no_hull : HullShape
no_hull = record { out = []; dirs = []; tris = []; imag = [] }

unfoldable pub hull_in : Shape → HullShape
hull_in silent = no_hull
hull_in (mono i) = no_hull
hull_in (planar ps ss) = no_hull
hull_in (hull h) = h

-- ---- a layout laid flat. Origin of 40, 80 and 14: document 01, "Returned numbers", 11; 120 is three numbers for each of 40, 240 three for each of 80.

unfoldable pub laid : Layout → VbapPanner
laid l =
    let pairs = pairs_in l.shape in
    let slots = slots_in l.shape in
    let h = hull_in l.shape in
    record {
      num_outputs = l.outputs;
      kind = kind_in l.shape;
      mono = mono_in l.shape;
      num_pairs = length pairs;
      pairs = filled 40 no_pair pairs;
      num_slots = length slots;
      slots = filled 40 0 slots;
      num_real = length h.out;
      pt_out = filled 40 0 h.out;
      pt_dir = filled 120 +0 (flat_map (λ d. d) h.dirs);
      num_tris = length h.tris;
      idx = filled 240 0 (flat_map numbers h.tris);
      inv = flat_map (λ e. filled 80 +0 (map (λ t. get_or t.inv e nan) h.tris)) (range 9);
      num_imag = length h.imag;
      num_nbrs = filled 14 0 (map length h.imag);
      imag_nbrs = flat_map (filled 40 0) (filled 14 [] h.imag);
    }

-- beside a refusal every place holds 0, +0 or the crossfade
unfoldable pub no_panner : VbapPanner
no_panner = laid (record { outputs = 0; shape = silent })

-- ---- what a record reaches

unfoldable pub triplet_at : VbapPanner → ℕ → Triplet
triplet_at v t =
    record {
      i = get_or v.idx (t * 3) 0;
      j = get_or v.idx (t * 3 + 1) 0;
      k = get_or v.idx (t * 3 + 2) 0;
      inv = map (λ e. get_or v.inv (e * 80 + t) nan) (range 9);
    }

-- the neighbours of imaginary point k, by the arrays of their counts and of their slots
abbrev pub near_in : List ℕ → List ℕ → ℕ → List ℕ
near_in counts nbrs k = take (get_or counts k 0) (part 40 nbrs k)

unfoldable pub neighbours_at : VbapPanner → ℕ → List ℕ
neighbours_at v k = near_in v.num_nbrs v.imag_nbrs k

unfoldable pub shape_in : VbapPanner → Kind → Shape
shape_in v Silent = silent
shape_in v Mono = mono v.mono
shape_in v Planar = planar (take v.num_pairs v.pairs) (take v.num_slots v.slots)
shape_in v Hull =
    hull (record {
      out = take v.num_real v.pt_out;
      dirs = map (part 3 v.pt_dir) (range v.num_real);
      tris = map (triplet_at v) (range v.num_tris);
      imag = map (neighbours_at v) (range v.num_imag);
    })

unfoldable pub layout_in : VbapPanner → Layout
layout_in v = record { outputs = v.num_outputs; shape = shape_in v v.kind }
