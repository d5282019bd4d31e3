use Rattle.std.proofs.Common.{ℕ, zero, suc, ◌≡◌, sym, subst, ◌<◌, ◌≤◌, ◌*◌, ◌^◌, arith}
use Rattle.std.proofs.Math.Nat.{pow-suc}
use Rattle.demo_rehearsal.proofs.decimals.DecimalDisplay.fmt.Goals as goal

-- a power of ten is not 0
tens : (k : ℕ) → 0 < 10 ^ k
tens zero = omega arith
tens (suc k) = let h = tens k in let e = pow-suc 10 k in omega arith

pub nonzero_div-whole : goal.nonzero_div-whole
nonzero_div-whole g c = subst (λ (n : ℕ). 0 < n) (sym c.pow-one.ensures) (tens _)

pub nonzero_rem-part : goal.nonzero_rem-part
nonzero_rem-part g c = subst (λ (n : ℕ). 0 < n) (sym c.pow-one.ensures) (tens _)
