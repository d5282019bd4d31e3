-- `layout_fan::in_fan` meets its contract: the numbers that are gathered are the coplanar points, at most 51, and each is a point's. Assumes nothing.
use Rattle.std.proofs.Common.{◌∙◌, arith}
use Rattle.layout_fan.proofs.Fans.{few_coplanar, below_coplanar, fan_empty, fan_higher, fan_next}
use Rattle.layout_fan.proofs.in_fan.Goals as goal

pub returns-then-is_empty : goal.returns-then-is_empty
returns-then-is_empty c = fan_empty _ _ _ _ _ (c.as_slice-numbers.ensures.value ∙ c.coplanar-found.ensures) c.is_empty.ensures c.if-is_empty.true

pub returns-then-not-is_lowest : goal.returns-then-not-is_lowest
returns-then-not-is_lowest c =
    fan_higher _ _ _ _ _ (c.as_slice-numbers.ensures.value ∙ c.coplanar-found.ensures) c.is_empty.ensures c.if-is_empty.false c.is_lowest.ensures c.if-not-is_lowest.true

pub next_in_fan-requires-clause-few : goal.next_in_fan-requires-clause-few
next_in_fan-requires-clause-few c =
    let a = c.args in
    rw (c.as_slice-numbers.ensures.value, c.coplanar-found.ensures) (omega (arith, few_coplanar a.c.pts.now a.c.t.i a.c.t.j a.c.t.k a.plane c.requires.1 c.requires.2 a.c.within.2))

pub next_in_fan-requires-clause-within : goal.next_in_fan-requires-clause-within
next_in_fan-requires-clause-within c =
    let a = c.args in
    rw (c.as_slice-numbers.ensures.value, c.coplanar-found.ensures) (below_coplanar a.c.pts.now a.c.t.i a.c.t.j a.c.t.k a.plane)

pub returns : goal.returns
returns c =
    fan_next _ _ _ _ _ (c.as_slice-numbers.ensures.value ∙ c.coplanar-found.ensures) c.is_empty.ensures c.if-is_empty.false c.is_lowest.ensures c.if-not-is_lowest.false c.next_in_fan.ensures
