-- `float_root::root_near` meets its contract: a guess whose digits pass the test is the rounded root. Assumes nothing.
use Rattle.std.proofs.Common.{refl}
use Rattle.float_order.proofs.Weights.{weights_read}
use Rattle.float_root.proofs.Candidate.{few_digits, near_root}
use Rattle.float_root.proofs.root_near.Goals as goal

pub is_root-requires : goal.is_root-requires
is_root-requires g c =
    few_digits (weights_read g.met.W.Width.weights refl c.FIELD-weight.ensures c.HIGHEST-highest.ensures) c.in-Some.b c.in-Some-pattern.g c.even_digits.ensures

pub returns-then-is_root : goal.returns-then-is_root
returns-then-is_root g c =
    let w = weights_read g.met.W.Width.weights refl c.FIELD-weight.ensures c.HIGHEST-highest.ensures in
    near_root w c.in-Some.ensures c.in-Some-pattern.ensures c.even_digits.result c.if-e-eq0.false c.if-e-highest.false c.if-g-weight.true c.even_digits.ensures (c.is_root.ensures c.if-is_root.true)
