-- Every gain of a row is a value of 32 bits, whatever the layout and the angles: it is +0, 1, or a rounded sum, product, quotient or root. Assumes nothing.
use Prim.Native.Nat.{ℕ, zero, suc, ◌+◌, ◌-◌, ◌*◌, ◌/◌, ◌^◌, compare}
use mathlib.Core.Bool.{true, false}
use mathlib.Core.List.{List, map}
use native.Mathlib.Nat.{le_trans}
use lib.Dec.{T}
use lib.Ieee.{Float, nan, inf, fin, Format, binary32, prec, size, nearest, fits, mul}
use lib.Ieee.Fits.{kept-lt, nearest-le, nan-fits, inf-fits, add-fits, mul-fits, div-fits}
use Rattle.lists.specs.Lists.{Each}
use Rattle.lists.proofs.Each.{each_all, each_map, each_replicate, each_set}
use Rattle.float_order.specs.Values.{+0, 1·0}
use Rattle.float_root.specs.Root.{whole_root, round_root, sqrt_of}
use Rattle.float_order.proofs.Laws.{units_fits}
use Rattle.layout_record.specs.Malformed.{used_slots}
use Rattle.row_gains.specs.Gains.{finite_or0, row_of}
use Rattle.theorem_rows.proofs.Powers.{scaled_by}
use Rattle.theorem_rows.proofs.Written.{Made, row_kept}
use Rattle.theorem_take_back.specs.Bits.{Fits32, GainsFit}

-- ---- a root

root_fits : (f : Format) (n : ℕ) → T (fits f (round_root f n))
unfolding round_root
root_fits f n =
    let k = size (whole_root n) - prec f in
    let q = whole_root n / 2 ^ k in
    let h = (2 * q + 1) * 2 ^ k in
    let by = compare (n * 4) (h * h) in
    units_fits f false (nearest q by) k (le_trans (nearest-le q by) (kept-lt (prec f) (whole_root n)))

sqrt_fits : (f : Format) (x : Float) → T (fits f x) → T (fits f (sqrt_of f x))
unfolding sqrt_of
sqrt_fits f nan h = nan-fits f
sqrt_fits f (inf true) h = nan-fits f
sqrt_fits f (inf false) h = inf-fits f false
sqrt_fits f (fin s zero e) h = h
sqrt_fits f (fin true (suc m) e) h = nan-fits f
sqrt_fits f (fin false (suc m) e) h = root_fits f _

-- ---- a row

one_fits : Fits32 1·0
unfolding fits
one_fits = tt

made : Made Fits32
made = record { one = one_fits; sum = add-fits binary32; quotient = div-fits binary32; root = λ x y. sqrt_fits binary32 _ (add-fits binary32 x y) }

times : (x : Float) (r : List Float) → Each Fits32 (map (λ g. mul binary32 g x) r)
times x r = each_map Fits32 (λ g. mul binary32 g x) r (each_all (λ g. Fits32 (mul binary32 g x)) (λ g. mul-fits binary32 g x) r)

pub gains_fit : GainsFit
unfolding row_of fits
gains_fit l n az el =
    row_kept (Each Fits32) (λ _. Unit) Fits32 made (λ row i v u k h. each_set Fits32 row i v h (λ _. k)) (λ row h. scaled_by (Each Fits32) row h (λ x _. times x row)) n (finite_or0 az) (finite_or0 el) l.shape
    (each_all (λ _. Unit) (λ _. tt) (used_slots l.shape)) tt (each_replicate Fits32 n +0 tt)
