-- Every row of a layout that `new` makes is finite throughout: the layout is sound, and each kind's row has its law. Assumes nothing.
use mathlib.Core.Path.{◌≡◌, refl}
use Prim.Native.Nat.{ℕ, ◌+◌, ◌*◌, ◌^◌, ◌≤◌, ◌<◌, zero-le}
use native.Mathlib.Nat.{le_trans}
use native.Mathlib.Omega.{arith}
use mathlib.Core.Bool.{true}
use lib.Dec.{T, lit≤}
use lib.ListN.{length, replicate}
use lib.Ieee.{Float, nan, inf, fin, binary32, fits}
use lib.Ieee.Fits.{cond-fits}
use lib.Ieee.Scale.{finite}
use Rattle.lists.specs.Lists.{member, Each}
use Rattle.float_order.specs.Values.{+0, 1·0, is_finite}
use Rattle.lists.proofs.Once.{pigeonhole}
use Rattle.layout_record.specs.Shape.{HullShape, Shape, silent, mono, planar, hull}
use Rattle.layout_new.specs.Layout.{outputs_of, layout_of}
use Rattle.row_planar.specs.PlanarRow.{planar_row}
use Rattle.row_gains.specs.Gains.{finite_or0, row_in, row_of}
use Rattle.float_bounds.proofs.Size.{Mag, mag_finite, val_mag}
use Rattle.theorem_layouts.specs.Sound.{SoundHull, SoundNeighbours, Sound}
use Rattle.lists.proofs.Each.{each_imply, each_member, each_set}
use Rattle.theorem_layouts.proofs.Layouts.{layout_sound}
use Rattle.theorem_rows.specs.RowSound.{RowFinite}
use Rattle.theorem_rows.proofs.Places.{Row, zeros, row_more}
use Rattle.theorem_rows.proofs.Pairs.{L}
use Rattle.theorem_rows.proofs.PlanarRows.{B40, planar_row_lem}
use Rattle.theorem_rows.proofs.HullRows.{Few, hull_row_lem}

-- ---- a sound hull has few neighbours to a point

pub few_neighbours : (outputs : ℕ) (h : HullShape) → outputs ≤ 40 → SoundHull outputs h → Each Few h.imag
few_neighbours outputs h l s =
    each_imply (SoundNeighbours h.out) Few
    (λ ns g. pigeonhole 40 0 ns g.apart (λ p m. (zero-le, let b : p < outputs = each_member (λ o. o < outputs) h.out p s.low (each_member (λ o. member o h.out ≡ true) ns p g.real m) in omega arith)))
    h.imag s.imag

-- ---- a row by the kind

shape_row : (outputs n : ℕ) (az el : Float) (s : Shape) → outputs ≤ 40 → T (finite az) → T (fits binary32 az) → T (finite el) → T (fits binary32 el) → Sound outputs s → Row (2 ^ 82 * L) (row_in n az el s)
unfolding row_in Sound
shape_row outputs n az el silent l a b c d h = zeros (2 ^ 82 * L) n
shape_row outputs n az el (mono i) l a b c d h = each_set (λ g. Mag binary32 g (2 ^ 82 * L)) (replicate n +0) i 1·0 (zeros (2 ^ 82 * L) n) (λ _. val_mag {X = L} (2 ^ 82 * L) (record { has = (refl, refl) }) (lit≤ tt))
shape_row outputs n az el (planar ps ss) l a b c d h = row_more B40 (2 ^ 82 * L) (lit≤ tt) (planar_row n az el ps ss) (planar_row_lem n az el ps ss a b c d h.each (le_trans h.few l))
shape_row outputs n az el (hull r) l a b c d h = hull_row_lem n az el r (length r.out + length r.imag) a b c d h.tris (few_neighbours outputs r l h)

-- ---- any angle

pub or_finite : (v : Float) → T (finite (finite_or0 v))
unfolding finite_or0 is_finite
or_finite nan = tt
or_finite (inf s) = tt
or_finite (fin s m e) = tt

pub or_fits : (v : Float) → T (fits binary32 v) → T (fits binary32 (finite_or0 v))
unfolding finite_or0 fits
or_fits v h = cond-fits binary32 (is_finite v) v +0 h tt

finite_number : (v : Float) → T (finite v) → T (is_finite v)
unfolding is_finite
finite_number nan h = absurd h
finite_number (inf s) h = absurd h
finite_number (fin s m e) h = tt

pub row_finite : RowFinite
unfolding row_of layout_of
row_finite positions lfe h l n az el a b =
    let s = (layout_of positions lfe).shape in
    each_imply (λ g. Mag binary32 g (2 ^ 82 * L)) (λ g. T (is_finite g)) (λ g m. finite_number g (mag_finite m)) (row_in n (finite_or0 az) (finite_or0 el) s)
    (shape_row (outputs_of positions) n (finite_or0 az) (finite_or0 el) s l (or_finite az) (or_fits az a) (or_finite el) (or_fits el b) (layout_sound positions lfe h))
