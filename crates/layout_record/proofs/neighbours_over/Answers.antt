use Rattle.std.proofs.Common.{ℕ, ◌≤◌, leb, get_or, refl, sym, ap, ◌∙◌, arith, leb-true}
use Rattle.lists.specs.Lists.{any, range}
use Rattle.lists.proofs.Tests.{every_get_d}
use Rattle.layout_record.specs.Panner.{near_in}
use Rattle.layout_record.proofs.Bounds.{none_in_parts, passed_none, passed_more, passed_one}
use Rattle.layout_record.proofs.neighbours_over.Goals as goal
use Rattle.layout_record.proofs.neighbours_over.Goals.{In-loop-k}

pub returns-then-not-over : goal.returns-then-not-over
returns-then-not-over c =
    let v = c.args.p.now in
    sym (none_in_parts (λ x. leb c.args.bound x) 40 v.imag_nbrs (λ k. get_or v.num_nbrs k 0) (range v.num_imag) (sym c.over.ensures ∙ c.if-not-over.true))

pub loop-k-init : goal.loop-k-init
loop-k-init c = passed_none (λ x. leb c.args.bound x) (near_in c.args.p.now.num_nbrs c.args.p.now.imag_nbrs)

count_fits : (c : In-loop-k) → get_or c.args.p.now.num_nbrs c.loop-k.k 0 ≤ 40
count_fits c = leb-true _ 40 (every_get_d (λ n. leb n 40) c.args.p.now.num_nbrs c.loop-k.k 0 refl c.requires.1)

pub neighbours-requires : goal.neighbours-requires
neighbours-requires c = (omega arith, count_fits (goal.at.neighbours-requires c).In-loop-k)

pub returns-then-over : goal.returns-then-over
returns-then-over c =
    let v = c.args.p.now in
    let f = λ (x : ℕ). leb c.args.bound x in
    sym (passed_one f (near_in v.num_nbrs v.imag_nbrs) c.loop-k.k v.num_imag c.loop-k-test.true
    (ap (any f) (sym c.neighbours.ensures) ∙ sym c.over-in-loop-k.ensures ∙ c.if-over.true))

pub loop-k-preserved : goal.loop-k-preserved
loop-k-preserved c =
    let v = c.args.p.now in
    let f = λ (x : ℕ). leb c.args.bound x in
    passed_more f (near_in v.num_nbrs v.imag_nbrs) c.loop-k.k c.loop-k.invariant
    (ap (any f) (sym c.neighbours.ensures) ∙ sym c.over-in-loop-k.ensures ∙ c.if-over.false)
