-- The pattern of q * 2 ^ k smallest values, at weights that are equal to the format's. Assumes nothing.
use Rattle.std.proofs.Common.{◌≡◌, ℕ, ◌+◌, ◌-◌, ◌*◌, ◌^◌, ◌<◌, ◌≤◌, Bool, true, false, T, not, cond, sym, ap, ◌∙◌, arith, le_of_eq, le_trans}
use Rattle.std.proofs.Math.Nat.{mul-le-mul_right}
use lib.Ieee.{Format, binary32, binary64, inf, prec, emax, hid, ones, units, of_bits, nan_bits}
use lib.Ieee.Fits.{two, two-le_pos}
use Rattle.float_order.specs.Width.{Weights}
use Rattle.float_order.proofs.Laws.{double, of_pattern, pattern_no_nan, too_large}
use Rattle.float_order.proofs.Weights.{at_weights, bounds}

room : (S H O q k : ℕ) → S ≡ (O + 1) * H → 0 < H → k < O - 1 → q ≤ 2 * H → k * H + q < S
room S H O q k e p h l = let m : (k + 2) * H ≤ O * H = mul-le-mul_right H (omega arith) in omega arith

signed : (S n : ℕ) (s : Bool) → n < S → cond s S 0 + n < 2 * S
signed S n true h = omega arith
signed S n false h = omega arith

module _ {f : Format} {S H O : ℕ} (w : Weights f S H O) (s : Bool) (q k : ℕ) (hi : q ≤ 2 ^ prec f) (lo : 0 < k → hid f ≤ q) (h : k < O - 1) where
  pub units_pattern : of_bits f (cond s S 0 + (k * H + q)) ≡ units f s q k
  units_pattern =
      at_weights w (λ (s' h' o' : ℕ). k < o' - 1 → of_bits f (cond s s' 0 + (k * h' + q)) ≡ units f s q k)
      (λ (l : k < ones f - 1). of_pattern f s q k hi lo (omega arith)) h

  pub units_number : T (not (nan_bits f (cond s S 0 + (k * H + q))))
  units_number =
      at_weights w (λ (s' h' o' : ℕ). k < o' - 1 → T (not (nan_bits f (cond s s' 0 + (k * h' + q)))))
      (λ (l : k < ones f - 1). pattern_no_nan f s q k hi lo (omega arith)) h

  pub units_room : cond s S 0 + (k * H + q) < 2 * S
  units_room =
      let b = bounds w in
      let d : 2 ^ prec f ≡ 2 * H = double (prec f) (two-le_pos (prec f) (two f)) ∙ ap (λ (n : ℕ). 2 * n) (sym w.field_is) in
      signed S (k * H + q) s (room S H O q k b.fields b.field_some h (le_trans hi (le_of_eq d)))

emax_some : (f : Format) → 0 < emax f
emax_some binary32 = omega arith
emax_some binary64 = omega arith

pub units_infinite : {f : Format} {S H O : ℕ} (w : Weights f S H O) (s : Bool) (q k : ℕ) → (0 < k → hid f ≤ q) → O - 1 ≤ k → units f s q k ≡ inf s
units_infinite {f} {S} {H} {O} w s q k lo =
    at_weights w (λ (s' h' o' : ℕ). o' - 1 ≤ k → units f s q k ≡ inf s)
    (λ (l : ones f - 1 ≤ k). let e = emax_some f in too_large f s q k (lo (omega arith)) (omega arith))
