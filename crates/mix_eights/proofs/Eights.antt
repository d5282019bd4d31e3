-- The answers of a closure at the elements of an array are the map of what it answers. Assumes nothing.
use Prim.Native.Nat.{ℕ}
use mathlib.Core.Path.{◌≡◌, sym}
use mathlib.Core.List.{List, map}
use native.Mathlib.Omega.{arith}
use lib.ListN.{length, get_or}
use lib.Ieee.{Float, nan}
use denote.Param.Members.{Mut}
use Rattle.std.specs.Array.{IsMapOf}
use Rattle.std.specs.Fn.{Called}
use Rattle.lists.specs.Lists.{range}
use Rattle.lists.proofs.Ranges.{by_places}

-- a closure that answers h of the element, called at each element
module _ {F : Type 0} (g : Mut F (Float × Unit {0}) Float) (h : Float → Float) where
  pub map_made : {f : F} {xs ys : List Float} {n : ℕ} → IsMapOf g f xs ys n → ((p : F) (x : Float) (r : Float) (q : F) → Called g p (x, tt) r q → r ≡ h x) → ys ≡ map (λ k. h (get_or xs k nan)) (range n)
  map_made {f} {xs} {ys} {n} made w =
      sym (rw (← made.long) (by_places ys nan (λ k. h (get_or xs k nan)) (λ i b. let p = made.at i nan nan (let e : length ys ≡ n = made.long in omega arith) in sym (w p.0 _ _ p.1 p.2))))
