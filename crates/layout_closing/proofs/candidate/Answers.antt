use Rattle.std.proofs.Common.{◌≡◌, ℕ, take, refl, ap, ◌∙◌, arith}
use mathlib.Core.List.{foldl}
use mathlib.Core.Option.{none}
use lib.Ieee.{neg, of_bits}
use Rattle.layout_closing.specs.Closing.{better, candidates, candidate_of}
use Rattle.layout_closing.specs.Inner.Flat.{best_in}
use Rattle.layout_closing.proofs.Candidates.{found_same, best_more}
use Rattle.layout_closing.proofs.candidate.Goals as goal

pub loop-c-init : goal.loop-c-init
unfolding best_in
loop-c-init c = refl

pub better-best-requires : goal.better-best-requires
better-best-requires c = found_same _ _ c.loop-c.invariant

pub loop-c-preserved : goal.loop-c-preserved
unfolding of_bits neg
loop-c-preserved c =
    best_more c.args.pts.now candidates c.loop-c.c-index c.loop-c-test.true refl c.loop-c.invariant c.better-best.ensures

pub returns : goal.returns
unfolding candidate_of
returns c =
    let pts = c.args.pts.now in
    let e : c.loop-c.c-index ≡ 14 = omega arith in
    c.loop-c.invariant ∙ ap (λ (k : ℕ). best_in pts (foldl (better pts) none (take k candidates))) e
