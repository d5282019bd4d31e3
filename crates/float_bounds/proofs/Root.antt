-- Bounds of a square root: no value of the format is nearer to the exact root (`sqrt_nearest`), so a bound that the format holds passes unchanged. Assumes nothing.
use mathlib.Core.Path.{◌∙◌, subst}
use mathlib.Core.Logic.{inl, inr}
use Prim.Native.Nat.{ℕ, zero, suc, ◌+◌, ◌*◌, ◌^◌, ◌≤◌, ◌<◌}
use native.Mathlib.Nat.{lt_irrefl, mul-le-mul, mul-pos, zero-mul, zero-lt-suc}
use native.Mathlib.Omega.{arith}
use mathlib.Core.Bool.{Bool, false}
use lib.Dec.{T}
use lib.Pow.{pow_pos}
use lib.Ieee.{Float, nan, inf, fin, Format, low, down, fits, round}
use lib.Ieee.Fits.{up_pos, round-fits}
use lib.Ieee.Scale.{overflow}
use Rattle.float_root.specs.Root.{sqrt_of}
use Rattle.float_widths.proofs.Grid.{le_or_lt}
use Rattle.float_root.proofs.Meaning.{sqrt_nearest}
use Rattle.float_bounds.proofs.Units.{Val}
use Rattle.float_bounds.proofs.Held.{Held, held_val}

-- the root of x, which is X smallest values: R smallest values
pub record RootOf (f : Format) (x : Float) (X : ℕ) : Type 0 where
  pub R : ℕ
  pub val : Val f (sqrt_of f x) false R
  pub most : (C : ℕ) → Held f C → C < overflow f → X * 2 ^ low f ≤ C * C → R ≤ C
  pub least : (C : ℕ) → Held f C → C < overflow f → C * C ≤ X * 2 ^ low f → C ≤ R

pub sqrt_val : {f : Format} {x : Float} {X : ℕ} → T (fits f x) → Val f x false X → 0 < X → RootOf f x X
sqrt_val {f} {x} {X} h v p =
    let r = sqrt_nearest f x X h v.has p in
    let R = r.found.0 in record {
      R = R;
      val = record { has = r.found.1 };
      most = λ C c l b. elim (le_or_lt R C) [
        | inl g ↦ g
        | inr g ↦ absurd (above R C (X * 2 ^ low f) g ((r.near R C (round f false C (2 ^ low f)) r.found.1 (round-fits f false C (2 ^ low f)) (held_val f C c l).has).1 g) b)
      ];
      least = λ C c l b. elim (le_or_lt C R) [
        | inl g ↦ g
        | inr g ↦ absurd (below R C (X * 2 ^ low f) g ((r.near R C (round f false C (2 ^ low f)) r.found.1 (round-fits f false C (2 ^ low f)) (held_val f C c l).has).0 g) b)
      ];
    }
  where
    above : (R C n : ℕ) → C < R → (R + C) * (R + C) ≤ n * 4 → n ≤ C * C → ⊥
    above R C n l h b =
        let g : suc (2 * C) ≤ R + C = omega arith in
        let x : suc (2 * C) * suc (2 * C) ≤ (R + C) * (R + C) = mul-le-mul g g in
        omega arith

    below : (R C n : ℕ) → R < C → n * 4 ≤ (R + C) * (R + C) → C * C ≤ n → ⊥
    below R C n l h b =
        let g : suc (R + C) ≤ 2 * C = omega arith in
        let x : suc (R + C) * suc (R + C) ≤ 2 * C * (2 * C) = mul-le-mul g g in
        omega arith

sqrt_zero_of : (f : Format) (x : Float) {s : Bool} → Val f x s 0 → Val f (sqrt_of f x) s 0
unfolding sqrt_of
sqrt_zero_of f nan v = absurd v.has
sqrt_zero_of f (inf t) v = absurd v.has
sqrt_zero_of f (fin t zero e) v = v
sqrt_zero_of f (fin t (suc m) e) v =
    absurd (lt_irrefl 0 (subst (λ (x : ℕ). 0 < x) (v.has.1 ∙ zero-mul (down e)) (mul-pos (mul-pos (zero-lt-suc m) (up_pos e)) (pow_pos (low f)))))

-- a zero is its own root
pub sqrt_zero : {f : Format} {x : Float} {s : Bool} → Val f x s 0 → Val f (sqrt_of f x) s 0
sqrt_zero {f} {x} v = sqrt_zero_of f x v
