-- The meaning of `nearest_whole` and of `mod4`: k is the one whole number with k − ½ ≤ q < k + ½, and k mod 4 is what k leaves over a multiple of 4. Assumes nothing.
use Rattle.std.proofs.Common.{◌≡◌, ℕ, zero, suc, ◌+◌, ◌-◌, ◌*◌, ◌/◌, ◌<◌, ◌≤◌, true, false, pos, negsuc, neg_ℤ, ap, zero-lt-suc, lt_of_mul-lt-mul_right, mul-pos, div-mul-le_self, arith}
use native.Mathlib.Nat.{lt-div-mul-add}
use lib.Ieee.{nan, inf, fin, up, down}
use lib.Ieee.Fits.{down_pos}
use Rattle.float_order.specs.Values.{is_finite}
use Rattle.float_sine.specs.Sine.{nearest_whole, above, below, Nearest, mod4}
use Rattle.float_sine.specs.Meaning.{NearestWholeNearest, NearestWholeOnly, Mod4Pos, Mod4Negsuc}

-- ---- k − ½ ≤ q < k + ½
pub nearest_whole_nearest : NearestWholeNearest
unfolding is_finite nearest_whole Nearest
nearest_whole_nearest nan h = absurd h
nearest_whole_nearest (inf s) h = absurd h
nearest_whole_nearest (fin false m e) h =
    let n = 2 * (m * up e) + down e in
    go (m * up e) (down e) (n / (2 * down e)) (div-mul-le_self n (2 * down e)) (lt-div-mul-add (mul-pos (zero-lt-suc 1) (down_pos e)))
  where
    go : (a d k : ℕ) → k * (2 * d) ≤ 2 * a + d → 2 * a + d < k * (2 * d) + 2 * d → (2 * k * d + 2 * 0 ≤ 2 * a + d) × (2 * a < 2 * k * d + d + 2 * 0)
    go a d k h l = (omega arith, omega arith)
nearest_whole_nearest (fin true m e) h =
    let n = 2 * (m * up e) + down e - 1 in
    go (n / (2 * down e)) (div-mul-le_self n (2 * down e)) (lt-div-mul-add (mul-pos (zero-lt-suc 1) (down_pos e)))
  where
    none : (a d : ℕ) → 0 < d → 2 * a + d - 1 < 0 * (2 * d) + 2 * d → (2 * 0 * d + 2 * a ≤ 2 * 0 + d) × (2 * 0 < 2 * 0 * d + d + 2 * a)
    none a d p l = (omega arith, omega arith)

    some : (a d k : ℕ) → 0 < d → suc k * (2 * d) ≤ 2 * a + d - 1 → 2 * a + d - 1 < suc k * (2 * d) + 2 * d → (2 * a ≤ 2 * 0 + 2 * suc k * d + d) × (2 * 0 + 2 * suc k * d < d + 2 * a)
    some a d k p h l = let x : 2 * d ≤ suc k * (2 * d) = grow k (2 * d) in (omega arith, omega arith)
      where
        grow : (k n : ℕ) → n ≤ suc k * n
        grow k n = omega arith

    go : (k : ℕ) → k * (2 * down e) ≤ 2 * (m * up e) + down e - 1 → 2 * (m * up e) + down e - 1 < k * (2 * down e) + 2 * down e → Nearest (neg_ℤ (pos k)) (fin true m e)
    go zero h l = none (m * up e) (down e) (down_pos e) l
    go (suc k) h l = some (m * up e) (down e) k (down_pos e) h l

-- ---- no other whole number has it
at_most : (j k d a b : ℕ) → 2 * j * d + 2 * b ≤ 2 * a + d → 2 * a < 2 * k * d + d + 2 * b → j ≤ k
at_most j k d a b h l = let x : j < suc k = lt_of_mul-lt-mul_right (2 * d) (go j k d a b h l) in omega arith
  where
    go : (j k d a b : ℕ) → 2 * j * d + 2 * b ≤ 2 * a + d → 2 * a < 2 * k * d + d + 2 * b → j * (2 * d) < suc k * (2 * d)
    go j k d a b h l = omega arith

apart : (j k d a b : ℕ) → 2 * j * d + 2 * b ≤ 2 * a + d → 2 * a + 2 * suc k * d < d + 2 * b → ⊥
apart j k d a b h l = omega arith

equal : (j k : ℕ) → j ≤ k → k ≤ j → j ≡ k
equal j k h l = omega arith

pub nearest_whole_only : NearestWholeOnly
unfolding Nearest
nearest_whole_only nan j k h l = absurd h
nearest_whole_only (inf s) j k h l = absurd h
nearest_whole_only (fin s m e) (pos j) (pos k) h l =
    let a = above s (m * up e) in
    let b = below s (m * up e) in
    ap pos (equal j k (at_most j k (down e) a b h.0 l.1) (at_most k j (down e) a b l.0 h.1))
nearest_whole_only (fin s m e) (pos j) (negsuc k) h l = absurd (apart j k (down e) (above s (m * up e)) (below s (m * up e)) h.0 l.1)
nearest_whole_only (fin s m e) (negsuc j) (pos k) h l = absurd (apart k j (down e) (above s (m * up e)) (below s (m * up e)) l.0 h.1)
nearest_whole_only (fin s m e) (negsuc j) (negsuc k) h l =
    let a = above s (m * up e) in
    let b = below s (m * up e) in
    ap negsuc (equal j k (other k j (down e) a b l.0 h.1) (other j k (down e) a b h.0 l.1))
  where
    other : (j k d a b : ℕ) → 2 * b ≤ 2 * a + 2 * suc j * d + d → 2 * a + 2 * suc k * d < d + 2 * b → k ≤ j
    other j k d a b h l = let x : suc k < suc (suc j) = lt_of_mul-lt-mul_right (2 * d) (go j k d a b h l) in omega arith
      where
        go : (j k d a b : ℕ) → 2 * b ≤ 2 * a + 2 * suc j * d + d → 2 * a + 2 * suc k * d < d + 2 * b → suc k * (2 * d) < suc (suc j) * (2 * d)
        go j k d a b h l = omega arith

-- ---- k less its k mod 4 is a multiple of 4, and k mod 4 is below 4
pub mod4_pos : Mod4Pos
unfolding mod4
mod4_pos n = (omega arith, omega arith)

-- of k = −(n + 1): (n + 1) + (k mod 4) is a multiple of 4
pub mod4_negsuc : Mod4Negsuc
unfolding mod4
mod4_negsuc n = (omega arith, omega arith)
