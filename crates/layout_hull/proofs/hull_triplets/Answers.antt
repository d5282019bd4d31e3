use Rattle.std.proofs.Common.{◌≡◌, ℕ, length, sym, ap, ◌∙◌, zero-le, arith}
use lib.Ieee.{of_bits}
use Rattle.layout_hull.specs.Inner.Steps.{tiled_of}
use Rattle.layout_hull.specs.Triplets.{verdict}
use Rattle.layout_hull.proofs.Laid.{laid_of, laid_start, tiled_laid}
use Rattle.layout_hull.proofs.Verdicts.{at_first, at_second, at_third, first_none, second_none, third_none, third_done, second_done, all_verdicts}
use Rattle.layout_hull.proofs.Turns.{turn_skip, turn_open, turn_out, turn_small, turn_full, turn_keep}
use Rattle.layout_hull.proofs.hull_triplets.Goals as goal

pub first-init : goal.first-init
unfolding of_bits
first-init c =
    let n = length c.args.pts.now in
    (zero-le, laid_start n ∙ ap (laid_of n) (sym (first_none (verdict c.args.pts.now) n)))

pub second-init : goal.second-init
second-init c =
    let n = length c.args.pts.now in
    (omega arith, omega arith, c.first.invariant.1 ∙ ap (laid_of n) (sym (second_none (verdict c.args.pts.now) n c.first.i)))

pub third-init : goal.third-init
third-init c =
    let n = length c.args.pts.now in
    (omega arith, omega arith, omega arith, c.second.invariant.2 ∙ ap (laid_of n) (sym (third_none (verdict c.args.pts.now) n c.first.i c.second.j)))

pub third-preserved-in-Skip : goal.third-preserved-in-Skip
third-preserved-in-Skip c =
    turn_skip c.args.pts.now c.first.i c.second.j c.third.k c.third.h c.third.invariant c.third-test.true c.face_test.ensures c.in-Skip.is

pub third-preserved-in-Open : goal.third-preserved-in-Open
third-preserved-in-Open c =
    turn_open c.args.pts.now c.first.i c.second.j c.third.k c.third.h c.third.invariant c.third-test.true c.face_test.ensures c.in-Open.is

pub third-preserved-then-not-in_fan : goal.third-preserved-then-not-in_fan
third-preserved-then-not-in_fan c =
    turn_out c.args.pts.now c.first.i c.second.j c.third.k c.third.h c.third.invariant c.third-test.true c.face_test.ensures c.in-Outward.is c.in_fan.ensures c.if-not-in_fan.true

pub third-preserved-then-abs : goal.third-preserved-then-abs
third-preserved-then-abs c =
    turn_small c.args.pts.now c.first.i c.second.j c.third.k c.third.h c.third.invariant c.third-test.true c.face_test.ensures c.in-Outward.is c.in_fan.ensures c.if-not-in_fan.false c.determinant-det.ensures c.abs.ensures c.if-abs.true

pub third-preserved-then-p-ge-MOST_TRIPLETS : goal.third-preserved-then-p-ge-MOST_TRIPLETS
third-preserved-then-p-ge-MOST_TRIPLETS c =
    turn_full c.args.pts.now c.first.i c.second.j c.third.k c.third.h c.third.invariant c.third-test.true c.face_test.ensures c.in-Outward.is c.in_fan.ensures c.if-not-in_fan.false c.determinant-det.ensures c.abs.ensures c.if-abs.false c.if-p-ge-MOST_TRIPLETS.true

pub third-preserved : goal.third-preserved
third-preserved c =
    turn_keep c.args.pts.now c.first.i c.second.j c.third.k c.third.h c.third.invariant c.third-test.true c.face_test.ensures c.in-Outward.is c.in_fan.ensures c.if-not-in_fan.false c.determinant-det.ensures c.abs.ensures c.if-abs.false c.if-p-ge-MOST_TRIPLETS.false c.inverse-m.ensures c.put_numbers.ensures c.put_inverse.ensures

pub second-preserved : goal.second-preserved
second-preserved c =
    let v = verdict c.args.pts.now in
    let n = length c.args.pts.now in
    let e : c.third.k ≡ n = omega arith in
    let h : c.third.h ≡ laid_of n (at_third v n c.first.i c.second.j n) = c.third.invariant.3 ∙ ap (λ (m : ℕ). laid_of n (at_third v n c.first.i c.second.j m)) e in
    (omega arith, omega arith, h ∙ ap (laid_of n) (third_done v n c.first.i c.second.j c.second.invariant.0))

pub first-preserved : goal.first-preserved
first-preserved c =
    let v = verdict c.args.pts.now in
    let n = length c.args.pts.now in
    let e : c.second.j ≡ n = omega arith in
    let h : c.second.h ≡ laid_of n (at_second v n c.first.i n) = c.second.invariant.2 ∙ ap (λ (m : ℕ). laid_of n (at_second v n c.first.i m)) e in
    (omega arith, h ∙ ap (laid_of n) (second_done v n c.first.i))

pub returns : goal.returns
unfolding tiled_of
returns c =
    let v = verdict c.args.pts.now in
    let n = length c.args.pts.now in
    let e : c.first.i ≡ n = omega arith in
    let h : c.first.h ≡ laid_of n (at_first v n n) = c.first.invariant.1 ∙ ap (λ (m : ℕ). laid_of n (at_first v n m)) e in
    ap tiled_of (h ∙ ap (laid_of n) (all_verdicts c.args.pts.now)) ∙ tiled_laid c.args.pts.now
