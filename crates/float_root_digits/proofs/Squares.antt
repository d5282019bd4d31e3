-- Squares of whole numbers. Assumes nothing.
use Rattle.std.proofs.Common.{◌≡◌, ℕ, suc, ◌+◌, ◌*◌, ◌<◌, ◌≤◌, suc-mul, mul-le-mul, lt_of_not-le, mul-suc, not-le_of_lt, arith}
use native.Mathlib.Nat.{mul-mul-mul_comm}

pub sq_lt : (a b : ℕ) → a * a < b * b → a < b
sq_lt a b h = lt_of_not-le (λ (g : b ≤ a). not-le_of_lt h (mul-le-mul g g))

pub sq_suc : (a : ℕ) → suc a * suc a ≡ a * a + 2 * a + 1
sq_suc a = let e : suc a * suc a ≡ suc a * a + suc a = mul-suc (suc a) a in let f : suc a * a ≡ a * a + a = suc-mul a a in omega arith

pub sq_twice : (a : ℕ) → 2 * a * (2 * a) ≡ 4 * (a * a)
sq_twice a = mul-mul-mul_comm 2 a 2 a
