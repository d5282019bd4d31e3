-- Whole numbers up to 2 ^ prec are values of the format, so the sum of two of them is the exact sum, rounded once. Assumes nothing.
use Prim.Native.Nat.{ℕ, ◌+◌, ◌*◌, ◌^◌, ◌≤◌}
use mathlib.Core.Path.{◌≡◌, refl, sym, ap, ◌∙◌}
use mathlib.Core.Bool.{Bool, false}
use mathlib.Core.List.{List, [], ◌∷◌, map}
use native.Mathlib.Nat.{mul-one, mul_assoc, mul_comm, mul-pos, add-mul}
use native.Mathlib.Omega.{arith}
use lib.IntN.{ℤ, pos}
use lib.Dec.{lit≤, lit<}
use lib.ListN.{get_or}
use lib.Ieee.{Float, nan, inf, fin, Format, binary32, prec, up, down, round, sum, add, of_int, of_bits}
use lib.Ieee.Fits.{down_pos}
use lib.Ieee.Exact.{HasValue}
use lib.Ieee.Back.{round_whole}
use lib.Ieee.Scale.{round_same}
use Rattle.lists.specs.Lists.{range, from}
use Rattle.mix_eights.specs.Inner.Eights.{8·0}
use Rattle.lists.proofs.Ranges.{get_d_map_range, same_places}
use Rattle.float_order.specs.Values.{count32}

cross : (X Y E D a b : ℕ) → X * 1 ≡ a * E → Y * 1 ≡ b * D → (X * D + Y * E) * 1 ≡ (a + b) * (E * D)
cross X Y E D a b p q =
    let x : X ≡ a * E = sym (mul-one X) ∙ p in
    let y : Y ≡ b * D = sym (mul-one Y) ∙ q in
    rw (mul-one, x, y, add-mul, mul_assoc a E D, mul_assoc b D E, mul_comm D E)

module _ (f : Format) where
  same_sign : (u r : Bool) (m n : ℕ) (e d : ℤ) → u ≡ false → r ≡ false
      → add f (fin u m e) (fin r n d) ≡ round f false (m * up e * down d + n * up d * down e) (down e * down d)
  unfolding add sum
  same_sign u r m n e d p q = rw (p, q)

  sum_of_values : (x y : Float) (a b : ℕ) → HasValue x false a 1 → HasValue y false b 1 → add f x y ≡ round f false (a + b) 1
  sum_of_values nan y a b v w = absurd v
  sum_of_values (inf s) y a b v w = absurd v
  sum_of_values (fin u m e) nan a b v w = absurd w
  sum_of_values (fin u m e) (inf s) a b v w = absurd w
  sum_of_values (fin u m e) (fin r n d) a b v w =
      same_sign u r m n e d v.0 w.0
      ∙ round_same f false (m * up e * down d + n * up d * down e) (down e * down d) (a + b) 1 (mul-pos (down_pos e) (down_pos d)) (lit< tt)
      (cross (m * up e) (n * up d) (down e) (down d) a b v.1 w.1)

  pub whole_add : (a b : ℕ) → a ≤ 2 ^ prec f → b ≤ 2 ^ prec f → add f (of_int f (pos a)) (of_int f (pos b)) ≡ of_int f (pos (a + b))
  unfolding of_int
  whole_add a b h g = sum_of_values (round f false a 1) (round f false b 1) a b (round_whole f false a h) (round_whole f false b g)

-- ---- the counts of eight samples

eight : count32 8 ≡ 8·0
unfolding of_int of_bits
eight = refl

-- of the eight from i on
abbrev pub counts_from : ℕ → List Float
counts_from i = map (λ k. count32 (i + k + 1)) (range 8)

pub first_counts : map (of_bits binary32) (0x3f80_0000 ∷ 0x4000_0000 ∷ 0x4040_0000 ∷ 0x4080_0000 ∷ 0x40a0_0000 ∷ 0x40c0_0000 ∷ 0x40e0_0000 ∷ 0x4100_0000 ∷ []) ≡ counts_from 0
unfolding of_int of_bits range from
first_counts = refl

-- the next eight counts are those plus 8
pub counts_onward : (i : ℕ) {c : List Float} → i + 8 ≤ 2 ^ 24 → c ≡ counts_from i → map (λ k. add binary32 (get_or c k nan) 8·0) (range 8) ≡ counts_from (i + 8)
counts_onward i {c} h ec =
    same_places (λ k. add binary32 (get_or c k nan) 8·0) (λ k. count32 (i + 8 + k + 1)) 8
    (λ k b.
    let e : i + k + 1 + 8 ≡ i + 8 + k + 1 = omega arith in
    ap (λ (l : List Float). add binary32 (get_or l k nan) 8·0) ec
    ∙ ap (λ (x : Float). add binary32 x 8·0) (get_d_map_range (λ j. count32 (i + j + 1)) 8 k nan b)
    ∙ ap (λ (x : Float). add binary32 (count32 (i + k + 1)) x) (sym eight)
    ∙ whole_add binary32 (i + k + 1) 8 (omega arith) (lit≤ tt)
    ∙ ap count32 e)
