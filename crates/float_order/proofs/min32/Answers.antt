-- `float_order::min32` meets its contract: it makes the definition's tests in their order, and of two NaNs gives their sum. Assumes nothing.
use Rattle.std.proofs.Common.{◌≡◌, Bool, sym, ◌∙◌}
use lib.Ieee.{Float, binary32, is_nan, ne}
use Rattle.float_order.proofs.Order.{is_nan_lem, min_both_nan, min_first_nan, min_second_nan, min_second, min_first}
use Rattle.float_order.proofs.min32.Goals as goal

-- the answer of std's test, in the lemmas' words: only a NaN differs from itself
differs : (x : Float) (r b : Bool) → r ≡ is_nan x → r ≡ b → ne x x ≡ b
differs x r b e h = is_nan_lem x ∙ sym e ∙ h

pub returns-then-is_nan-2 : goal.returns-then-is_nan-2
returns-then-is_nan-2 c = min_both_nan _ _ binary32 (differs _ _ _ c.is_nan.ensures.value c.if-is_nan.true) (differs _ _ _ c.is_nan-then-is_nan.ensures.value c.if-is_nan-2.true)

pub returns-else-is_nan-2 : goal.returns-else-is_nan-2
returns-else-is_nan-2 c = min_first_nan _ _ (differs _ _ _ c.is_nan.ensures.value c.if-is_nan.true)

pub returns-then-is_nan-3 : goal.returns-then-is_nan-3
returns-then-is_nan-3 c = min_second_nan _ _ (differs _ _ _ c.is_nan.ensures.value c.if-is_nan.false) (differs _ _ _ c.is_nan-2.ensures.value c.if-is_nan-3.true)

pub returns-then-y-x : goal.returns-then-y-x
returns-then-y-x c = min_second _ _ (differs _ _ _ c.is_nan.ensures.value c.if-is_nan.false) (differs _ _ _ c.is_nan-2.ensures.value c.if-is_nan-3.false) c.if-y-x.true

pub returns-else-y-x : goal.returns-else-y-x
returns-else-y-x c = min_first _ _ (differs _ _ _ c.is_nan.ensures.value c.if-is_nan.false) (differs _ _ _ c.is_nan-2.ensures.value c.if-is_nan-3.false) c.if-y-x.false
