-- An array that a closure makes, of its places or of the elements of another array, is the list of the closure's answers. Assumes nothing.
use Prim.Native.Nat.{ℕ, zero, suc, ◌+◌, ◌≤◌, ◌<◌}
use mathlib.Core.Logic.{inl, inr}
use mathlib.Core.Path.{◌≡◌, refl, sym, subst, ◌∙◌}
use mathlib.Core.List.{List, [], ◌∷◌, map}
use native.Mathlib.Omega.{arith}
use lib.ListN.{length, get_or}
use denote.Param.Members.{Mut}
use Rattle.std.specs.Array.{IsFromFnResult, IsFromFnResultFrom, IsMapOf}
use Rattle.std.specs.Fn.{Called}
use Rattle.std.proofs.lemmas.Bool.{cases_eq}
use Rattle.lists.specs.Lists.{range}
use Rattle.lists.proofs.Ranges.{range_none, by_places}

-- the closure answers h of the place and stays as it is
module _ {A F : Type 0} (g : Mut F (ℕ × Unit {0}) A) (h : ℕ → A) where
  made_from : (d : A) (n : ℕ) {f : F} (ys : List A) (i k : ℕ) → i + k ≡ n → ((j : ℕ) (r : A) (q : F) → j < n → Called g f (j, tt) r q → (q ≡ f) × (r ≡ h j))
      → IsFromFnResultFrom g f ys i k → (j : ℕ) → i ≤ j → j < n → get_or ys j d ≡ h j
  made_from d n ys i zero e w each j lo hi = absurd (omega arith)
  made_from d n {f} ys i (suc k) e w (q, y, at, called, more) j lo hi =
      let same = w i y q (omega arith) called in
      let rest = subst (λ (p : F). IsFromFnResultFrom g p ys (i + 1) k) same.0 more in
      elim (cases_eq j i) [
        | inl t ↦ rw t (at.1 d ∙ same.1)
        | inr ne ↦ made_from d n ys (i + 1) k (omega arith) w rest j (omega arith) hi
      ]

  pub from_fn_made : {f : F} {ys : List A} {n : ℕ} → IsFromFnResult g f ys n → ((j : ℕ) (r : A) (q : F) → j < n → Called g f (j, tt) r q → (q ≡ f) × (r ≡ h j)) → ys ≡ map h (range n)
  from_fn_made {ys = ys} {n = zero} made w = none ys made.long
    where
      none : (l : List A) → length l ≡ 0 → l ≡ map h (range 0)
      none [] e = rw range_none refl
      none (x ∷ l) e = absurd (omega arith)
  from_fn_made {ys = ys} {n = suc n} made w =
      let long : length ys ≡ suc n = made.long in
      let d = made.each.1 in
      sym (rw (← long) (by_places ys d h (λ i b. sym (made_from d (suc n) ys 0 (suc n) (omega arith) w made.each i (omega arith) (omega arith)))))

-- an array that a closure makes of the elements, of each of which it answers h
module _ {A B F : Type 0} (g : Mut F (A × Unit {0}) B) (h : A → B) where
  by_elements : (xs : List A) (ys : List B) → length ys ≡ length xs → ((i : ℕ) (d : A) (e : B) → i < length xs → get_or ys i e ≡ h (get_or xs i d)) → ys ≡ map h xs
  by_elements [] [] e w = refl
  by_elements [] (y ∷ ys) e w = absurd (omega arith)
  by_elements (x ∷ xs) [] e w = absurd (omega arith)
  by_elements (x ∷ xs) (y ∷ ys) e w = rw (w 0 x y (omega arith), by_elements xs ys (omega arith) (λ i d b l. w (suc i) d b (omega arith))) refl

  pub map_made : {f : F} {xs : List A} {ys : List B} {n : ℕ} → length xs ≡ n → IsMapOf g f xs ys n → ((p : F) (x : A) (r : B) (q : F) → Called g p (x, tt) r q → r ≡ h x) → ys ≡ map h xs
  map_made {xs = xs} {ys = ys} {n = n} long made w =
      by_elements xs ys (made.long ∙ sym long)
      (λ i d e l. let at = made.at i d e (omega (arith, long)) in w at.0 (get_or xs i d) (get_or ys i e) at.1 at.2)
