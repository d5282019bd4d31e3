-- `layout_planar::pair_of` meets its contract: its two answers are the two cases of the test on the gap. Assumes nothing.
use Rattle.std.proofs.Common.{◌∙◌, arith}
use Rattle.layout_planar.proofs.Chosen.{law_told, pair_none, pair_some, slot_fits_lem}
use Rattle.layout_planar.proofs.pair_of.Goals as goal

pub returns-then-g : goal.returns-then-g
returns-then-g c = pair_none _ _ _ c.if-g.true

pub overflow_cast-result : goal.overflow_cast-result
overflow_cast-result c = omega (arith, slot_fits_lem _ c.requires.s_value.0)

pub overflow_cast-result-2 : goal.overflow_cast-result-2
overflow_cast-result-2 c = omega (arith, slot_fits_lem _ c.requires.s_value.1)

pub returns : goal.returns
returns c =
    let law = c.law_of-law.ensures ∙ law_told c.args.s.angle c.args.t.angle c.args.g c.requires.a_value.0 c.requires.a_value.1 in
    rw (c.narrow-2.ensures, c.narrow.ensures, law) (pair_some _ _ _ c.if-g.false)
