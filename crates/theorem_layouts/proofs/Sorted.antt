-- A sorted list has the same spots (`sorted_meaning`), so what each has remains, and numbers that each stand once. Assumes nothing.
use Rattle.std.proofs.Common.{ℕ, List, map}
use mathlib.Core.List.Permᴰ
use Rattle.lists.specs.Lists.{Each, Once}
use Rattle.lists.proofs.Once.{each_perm, once_perm}
use Rattle.angle_sort.specs.declared.Spot.{Spot}
use Rattle.angle_sort.specs.Order.{sorted_of}
use Rattle.angle_sort.proofs.Meaning.{sorted_meaning}

abbrev pub numbers_of : List Spot → List ℕ
numbers_of l = map (λ s. s.number) l

pub each_sorted : (P : Spot → Type 0) (l : List Spot) → Each P l → Each P (sorted_of l)
each_sorted P l h = each_perm P (sorted_meaning l).same h

pub sorted_once : (l : List Spot) → Once (numbers_of l) → Once (numbers_of (sorted_of l))
sorted_once l h = once_perm (Permᴰ.map (λ (s : Spot). s.number) (sorted_meaning l).same) h
