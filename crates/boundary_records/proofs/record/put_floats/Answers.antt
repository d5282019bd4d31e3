-- `boundary_records::record::put_floats` meets its contract: the record's parts are laid one behind another. Assumes nothing.
use mathlib.Core.Path.{◌≡◌, refl}
use native.Mathlib.Omega.{arith}
use lib.Ieee.{of_bits}
use lib.ListN.{length, take}
use Rattle.std.proofs.Common.{rules}
use Rattle.float_order.specs.Values.{+0}
use Rattle.layout_planar.specs.Planar.{no_pair}
use Rattle.boundary_records.specs.Records.{numbers_of, pair_numbers}
use Rattle.boundary_records.specs.Places.{most_outputs, pair_float_places, dir_places, inv_places}
use Rattle.boundary_records.proofs.Pairs.{used_laid, six}
use Rattle.boundary_records.proofs.Pasted.{put_is, three_pasted}
use Rattle.boundary_records.proofs.Laid.{out_floats}
use Rattle.boundary_records.proofs.record.put_floats.Goals as goal

pub returns : goal.returns
unfolding pair_numbers numbers_of of_bits
returns c =
    let p = c.args.p.now in
    let made : c.as_flattened.result.now ≡ pair_numbers p.num_pairs p.pairs =
    rw (← c.used.ensures.count)
    (used_laid 6 most_outputs pair_float_places numbers_of no_pair +0 (take c.used.result p.pairs) six refl (omega arith) refl
    (c.laid-pairs.ensures numbers_of (λ q y t. search rules)) c.as_flattened.ensures.value) in
    let pairs : length c.as_flattened.result.now ≡ pair_float_places = omega (arith, c.as_flattened.ensures.len) in
    let dir : length p.pt_dir ≡ dir_places = omega arith in
    let inv : length p.inv ≡ inv_places = omega arith in
    let b = out_floats p c.args.to.now made (pairs, dir, inv)
    (three_pasted (put_is c.put.ensures pairs) (put_is c.put-2.ensures dir) (put_is c.put-3.ensures inv)) in
    record { to_after = b.0; long = b.1 }
