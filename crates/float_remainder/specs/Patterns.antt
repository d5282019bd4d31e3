-- What a pattern of a finite value, without its sign, stands for, in whole numbers. Assumes nothing.
use Rattle.std.specs.Prelude.{ℕ, ◌+◌, ◌-◌, ◌*◌, ◌/◌, ◌%◌, ◌^◌, cond, ltb}

-- The number of smallest values in the finite value whose pattern, without its sign, is b. w is the weight of the exponent's field: 2 ^ 23 of an f32, 2 ^ 52 of an f64 (IEEE 754-2019, 3.4).
unfoldable pub units_of : ℕ → ℕ → ℕ
units_of w b = cond (ltb b w) b ((b % w + w) * 2 ^ (b / w - 1))
