-- `float_sine::sin_cos` meets its contract: the steps are the definition's, and k mod 4 chooses the same branch. Assumes nothing.
use Rattle.std.proofs.Common.{ap, ◌∙◌}
use lib.Ieee.{binary64, sub, mul}
use Rattle.float_sine.specs.Pi.{half_pi}
use Rattle.float_sine.specs.Quarter.{number_of}
use Rattle.float_sine.specs.Series.{sum_of}
use Rattle.float_sine.specs.Sine.{S, C}
use Rattle.float_sine.proofs.Coefficients.{tables}
use Rattle.float_sine.proofs.Turns.{Turned, turned}
use Rattle.float_sine.proofs.sin_cos.Goals as goal
use Rattle.float_sine.proofs.sin_cos.Goals.{After-sum-c}

at : (c : After-sum-c) → Turned c.args.v (mul binary64 (sub binary64 c.rem_two_pi-r.result (mul binary64 c.turn_of-t.result.k half_pi)) c.sum.result) c.sum-c.result (number_of c.turn_of-t.result.quarter)
unfolding S C
at c =
    let y = sub binary64 c.rem_two_pi-r.result (mul binary64 c.turn_of-t.result.k half_pi) in
    turned c.args.v c.rem_two_pi-r.result c.turn_of-t.result.k (mul binary64 y c.sum.result) c.sum-c.result (number_of c.turn_of-t.result.quarter)
    c.rem_two_pi-r.ensures c.turn_of-t.ensures
    (ap (mul binary64 y) (c.sum.ensures ∙ ap (sum_of (mul binary64 y y)) tables.0)) (c.sum-c.ensures ∙ ap (sum_of (mul binary64 y y)) tables.1)

pub returns-in-First : goal.returns-in-First
returns-in-First c = (at (goal.at.returns-in-First c).After-sum-c).at_0 (ap number_of c.in-First.is)

pub returns-in-Second : goal.returns-in-Second
returns-in-Second c = (at (goal.at.returns-in-Second c).After-sum-c).at_1 (ap number_of c.in-Second.is)

pub returns-in-Third : goal.returns-in-Third
returns-in-Third c = (at (goal.at.returns-in-Third c).After-sum-c).at_2 (ap number_of c.in-Third.is)

pub returns-in-Fourth : goal.returns-in-Fourth
returns-in-Fourth c = (at (goal.at.returns-in-Fourth c).After-sum-c).at_3 (ap number_of c.in-Fourth.is)
