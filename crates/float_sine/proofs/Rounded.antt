-- Rounding takes the sign along. Assumes nothing.
use Rattle.std.proofs.Common.{◌≡◌, ℕ, zero, suc, ◌+◌, ◌*◌, ◌^◌, Bool, true, false, cond, ltb, sym, refl, ap, ◌∙◌}
use lib.Ieee.{inf, Format, prec, emax, low, odd, units, round}
use lib.Ieee.Fits.{round_is}
use lib.Ieee.Order.{drop, kept}
use Rattle.float_order.specs.Values.{abs}

-- ---- without its sign, a rounded fraction is the fraction rounded without it
abs_odd : (d : ℕ) (s : Bool) (q k l : ℕ) → abs (odd d s q k l) ≡ odd d false q k l
unfolding odd abs
abs_odd d s zero k l = refl
abs_odd d s (suc q) k l = refl

abs_units : (f : Format) (s : Bool) (q k : ℕ) → abs (units f s q k) ≡ units f false q k
unfolding units abs
abs_units f s q k = go (ltb (q * 2 ^ k) (2 ^ (low f + suc (emax f))))
  where
    go : (b : Bool) → abs (cond b (odd (suc (prec f)) s q k (low f)) (inf s)) ≡ cond b (odd (suc (prec f)) false q k (low f)) (inf false)
    go true = abs_odd (suc (prec f)) s q k (low f)
    go false = refl

pub abs_round : (f : Format) (s : Bool) (num den : ℕ) → abs (round f s num den) ≡ round f false num den
abs_round f s num den =
    let n = num * 2 ^ low f in
    let k = drop (prec f) n den in
    ap abs (round_is f s num den) ∙ abs_units f s (kept (prec f) n den) k ∙ sym (round_is f false num den)
