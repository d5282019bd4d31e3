-- What `decimal_of` means, over exact whole numbers. The statement is proved in proofs/Meaning.antt by `decimal_nearest`. Assumes nothing.
use Rattle.std.specs.Prelude.{◌≡◌, Bool, ℕ, ◌*◌, ◌%◌, ◌^◌, ◌≤◌, ℤ}
use Rattle.std.specs.Float.{fin}
use Rattle.std.specs.Float.Ieee.{up, down}
use Rattle.float_widths.specs.Meaning.{apart}
use Rattle.demo_decimal.specs.declared.Size.TheVariants.{Steps}
use Rattle.demo_decimal.specs.Decimal.{decimal_of}

-- ---- n is the whole number nearest to a / b; where another, k, is as near, n is even. Distances are taken times b, so that all is whole.
pub record Nearest (a b n : ℕ) : Type 0 where
  pub near : (k : ℕ) → apart a (n * b) ≤ apart a (k * b)
  pub even : (k : ℕ) → (n ≡ k → ⊥) → apart a (n * b) ≡ apart a (k * b) → n % 2 ≡ 0

-- fin s m e is m * up e / down e in size: so many steps of 10 ^ -d are m * up e * 10 ^ d / down e
abbrev pub DecimalNearest : Type 0
DecimalNearest = (d n : ℕ) (s : Bool) (m : ℕ) (e : ℤ) → decimal_of d (fin s m e) ≡ Steps n → Nearest (m * up e * 10 ^ d) (down e) n
