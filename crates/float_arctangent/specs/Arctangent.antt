-- Document 01, "Number work", the stand-ins: arctangent and atan2, in 64 bits. Where the angle is a NaN (Meaning.antt says where), its sign and payload are the program's: every choice is a NaN. Assumes nothing.
use Rattle.std.specs.Prelude.{◌+◌, ◌*◌, false, cond, ◌&&◌, List, pos, Float}
use Rattle.std.specs.Float.{fin, binary64}
use Rattle.std.specs.Float.Ieee.{add, sub, neg, mul, div, le, eq}
use Rattle.float_order.specs.Values.{+0, 1·0, abs, sign_bit}
use Rattle.float_root.specs.Root.{sqrt_of}
use Rattle.float_sine.specs.Pi.{PI64, half_pi}
use Rattle.float_sine.specs.Series.{coefficients, sum_of}

-- 8: 4020_0000_0000_0000. Origin: document 01, 8·(q times the sum), after three halvings.
abbrev pub 8·0 : Float
8·0 = fin false 1 (pos 3)

-- (−1)^i ÷ (2i + 1), i = 0..7
unfoldable pub arctangent_coefficients : List Float
arctangent_coefficients = coefficients (λ i. 2 * i + 1) 0 8

-- q ÷ (1 + √(1 + q·q))
unfoldable pub halved_of : Float → Float
halved_of q = div binary64 q (add binary64 1·0 (sqrt_of binary64 (add binary64 1·0 (mul binary64 q q))))

-- 8·(q times the sum), z = q·q
unfoldable pub eightfold_of : Float → Float
eightfold_of q = mul binary64 8·0 (mul binary64 q (sum_of (mul binary64 q q) arctangent_coefficients))

-- A(q)
unfoldable pub atan_of : Float → Float
atan_of q = eightfold_of (halved_of (halved_of (halved_of q)))

-- |y| ÷ |x|; two zeros take quotient 0
unfoldable pub ratio_of : Float → Float → Float
ratio_of y x = cond (eq y +0 && eq x +0) +0 (div binary64 y x)

-- Of |y| and |x|: A(|y| ÷ |x|) where |y| ≤ |x|, else pi/2 − A(|x| ÷ |y|).
unfoldable pub first_quadrant_of : Float → Float → Float
first_quadrant_of y x = cond (le y x) (atan_of (ratio_of y x)) (sub binary64 half_pi (atan_of (ratio_of x y)))

-- With x's sign bit set, pi minus it.
unfoldable pub with_sign_of_x : Float → Float → Float
with_sign_of_x x a = cond (sign_bit x) (sub binary64 PI64 a) a

-- With y's, negated.
unfoldable pub with_sign_of_y : Float → Float → Float
with_sign_of_y y b = cond (sign_bit y) (neg b) b

unfoldable pub atan2_of : Float → Float → Float
atan2_of y x = with_sign_of_y y (with_sign_of_x x (first_quadrant_of (abs y) (abs x)))
