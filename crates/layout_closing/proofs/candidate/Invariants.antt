-- The loop's invariant: the best of the candidates so far; the code's table is the definition's, by computation. Assumes nothing.
use Rattle.std.proofs.Common.{◌≡◌, take}
use mathlib.Core.List.{foldl}
use mathlib.Core.Option.{none}
use Rattle.layout_closing.specs.Closing.{better, candidates}
use Rattle.layout_closing.specs.Inner.Flat.{best_in}
use Rattle.layout_closing.proofs.candidate.Given as goal

abbrev pub invariant-loop-c : goal.invariant-loop-c
invariant-loop-c l = l.best ≡ best_in l.pts (foldl (better l.pts) none (take l.c-index candidates))
