-- A part of an array that is copied into another: crates/boundary_records/src/copies.rt. Assumes nothing.
use Rattle.std.specs.Prelude.{ℕ, ◌+◌, ◌≡◌, List, ◌++◌, take, drop}

-- l with the n places from place b on taken from the first n of s
unfoldable pub pasted : {A : Type 0} → List A → ℕ → List A → ℕ → List A
pasted l b s n = take b l ++ take n s ++ drop (b + n) l

-- r is l so changed
pub record Pasted {A : Type 0} (l : List A) (b : ℕ) (s : List A) (n : ℕ) (r : List A) : Type 0 where
  pub is : r ≡ pasted l b s n
