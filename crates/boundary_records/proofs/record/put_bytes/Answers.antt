-- `boundary_records::record::put_bytes` meets its contract: the record's parts are laid one behind another. Assumes nothing.
use mathlib.Core.Path.{◌≡◌, refl}
use native.Mathlib.Omega.{arith}
use lib.ListN.{length, take}
use Rattle.std.proofs.Common.{rules}
use Rattle.layout_planar.specs.Planar.{no_pair}
use Rattle.boundary_records.specs.Places.{most_outputs, most_imaginary, head_places, pair_byte_places, idx_places, nbr_places}
use Rattle.boundary_records.specs.Records.{bytes_of, pair_bytes}
use Rattle.boundary_records.proofs.Pairs.{used_laid, three}
use Rattle.boundary_records.proofs.Pasted.{put_is, three_pasted, four_pasted}
use Rattle.boundary_records.proofs.Laid.{out_bytes}
use Rattle.boundary_records.proofs.record.put_bytes.Goals as goal

pub returns : goal.returns
unfolding pair_bytes bytes_of
returns c =
    let p = c.args.p.now in
    let head : length c.head_of.result ≡ head_places = search rules in
    let made : c.as_flattened.result.now ≡ pair_bytes p.num_pairs p.pairs =
    rw (← c.used.ensures.count)
    (used_laid 3 most_outputs pair_byte_places bytes_of no_pair 0 (take c.used.result p.pairs) three refl (omega arith) refl
    (c.laid-pairs.ensures bytes_of (λ q y t. search rules)) c.as_flattened.ensures.value) in
    let pairs : length c.as_flattened.result.now ≡ pair_byte_places = omega (arith, c.as_flattened.ensures.len) in
    let slots : length p.slots ≡ most_outputs = omega arith in
    let out : length p.pt_out ≡ most_outputs = omega arith in
    let idx : length p.idx ≡ idx_places = omega arith in
    let counts : length p.num_nbrs ≡ most_imaginary = omega arith in
    let nbrs : length p.imag_nbrs ≡ nbr_places = omega arith in
    let b = out_bytes p c.args.to.now c.head_of.ensures made (head, pairs, slots) (out, idx, counts, nbrs)
    (three_pasted (put_is c.put.ensures head) (put_is c.put-2.ensures pairs) (put_is c.put-3.ensures slots))
    (four_pasted (put_is c.put-4.ensures out) (put_is c.put-5.ensures idx) (put_is c.put-6.ensures counts) (put_is c.put-7.ensures nbrs)) in
    record { to_after = b.0; long = b.1 }
