-- The greatest number of a list: one number after the other, of two parts, and in eight lanes. What is not above one of two numbers is not above the greater. Assumes nothing.
use Prim.Native.Nat.{ℕ, ◌+◌, ◌-◌, ◌%◌, ◌≤◌, ◌<◌}
use mathlib.Core.Path.{◌≡◌, refl, sym, subst, ◌∙◌}
use mathlib.Core.Bool.{Bool, true, false}
use mathlib.Core.List.{List}
use mathlib.Core.Logic.{inl, inr, ⊎_elim}
use native.Mathlib.Nat.{not-suc-le-zero}
use native.Mathlib.Omega.{arith}
use borrow.Author.Count.{below_more}
use borrow.Author.Tests.{ltb-true, ltb-false, eqb-true, eqb-false}
use lib.Dec.{ltb, eqb}
use lib.ListN.{length, get_or, set, drop, replicate, get_or-replicate, length-set}
use Rattle.std.proofs.lemmas.List.{get_or-drop, length-drop}
use lib.Seq.{get_or-set_same, get_or-set_other}
use lib.Ieee.{Float, nan, inf, is_nan, lt}
use Rattle.angle_sort.proofs.Angles.{float_lt_self}
use Rattle.row_greatest.specs.Inner.Steps.{greater_of, Held, Top, Lanes}
use Rattle.angle_sort.proofs.FloatOrder.{not_above, not_over, above_low, high_number}

-- ---- the greater of two

module _ (a b : Float) where
  pub greater_yes : lt a b ≡ true → b ≡ greater_of a b
  unfolding greater_of
  greater_yes e = rw e refl

  pub greater_no : lt a b ≡ false → a ≡ greater_of a b
  unfolding greater_of
  greater_no e = rw e refl

  -- by which of the two it is
  pub greater_by : (P : Float → Type 0) → (lt a b ≡ true → P b) → (lt a b ≡ false → P a) → P (greater_of a b)
  greater_by P f g = by (lt a b) refl
    where
      by : (q : Bool) → lt a b ≡ q → P (greater_of a b)
      by true e = subst P (greater_yes e) (f e)
      by false e = subst P (greater_no e) (g e)

  pub greater_keeps : (y : Float) → lt a y ≡ false → lt (greater_of a b) y ≡ false
  greater_keeps y h = greater_by (λ x. lt x y ≡ false) (λ e. not_above a y b h e) (λ e. h)

  pub greater_takes : lt (greater_of a b) b ≡ false
  greater_takes = greater_by (λ x. lt x b ≡ false) (λ e. float_lt_self b) (λ e. e)

-- ---- numbers that stand in a list

module _ (l : List Float) where
  pub held_wider : (a b a' b' : ℕ) (x : Float) → a' ≤ a → b ≤ b' → Held l a b x → Held l a' b' x
  held_wider a b a' b' x h k = ⊎_elim (λ e. inl e) (λ s. inr (record { place = s.place; from = omega (arith, s.from); to = omega (arith, s.to); is = s.is; high = s.high }))

  pub held_number : (a b : ℕ) (x : Float) → Held l a b x → is_nan x ≡ false
  unfolding is_nan
  held_number a b x = ⊎_elim (λ e. rw e refl) (λ s. high_number x s.high)

  -- with the number at place i
  pub held_more : (a i : ℕ) (g : Float) → a ≤ i → Held l a i g → Held l a (i + 1) (greater_of g (get_or l i nan))
  held_more a i g h k =
      let x = get_or l i nan in
      greater_by g x (Held l a (i + 1)) (λ e. inr (record { place = i; from = h; to = omega arith; is = refl; high = above_low g x e })) (λ e. held_wider a i a (i + 1) g (omega arith) (omega arith) k)

  -- ---- one number after the other

  pub top_none : (a : ℕ) → Top l a a (inf true)
  top_none a = record { none_above = λ j h k. absurd (omega arith); held = inl refl }

  pub top_more : (a i : ℕ) (g : Float) → a ≤ i → Top l a i g → Top l a (i + 1) (greater_of g (get_or l i nan))
  top_more a i g h t =
      let x = get_or l i nan in
      record {
        none_above = λ j p q. below_more (λ j. a ≤ j → lt (greater_of g x) (get_or l j nan) ≡ false) i (λ j q p. greater_keeps g x (get_or l j nan) (t.none_above j p q)) (λ p. greater_takes g x) j q p;
        held = held_more a i g h t.held;
      }

  -- of the numbers behind the first n
  pub top_drop : (n : ℕ) (g : Float) → n ≤ length l → Top (drop n l) 0 (length (drop n l)) g → Top l n (length l) g
  top_drop n g h t =
      let long : length (drop n l) ≡ length l - n = length-drop n l in
      record {
        none_above = λ j p q.
            let e : n + (j - n) ≡ j = omega arith in
            rw (get_or-drop n l (j - n) nan, e) at (t.none_above (j - n) (omega arith) (omega arith));
        held = ⊎_elim (λ e. inl e) (λ s. inr (record { place = n + s.place; from = omega arith; to = omega (arith, s.to); is = sym (get_or-drop n l s.place nan) ∙ s.is; high = s.high })) t.held;
      }

  -- of two parts, one behind the other
  pub top_join : (a b c : ℕ) (g h : Float) → a ≤ b → b ≤ c → Top l a b g → Top l b c h → Top l a c (greater_of g h)
  top_join a b c g h ab bc t u =
      greater_by g h (Top l a c)
      (λ e. record { none_above = λ j p q. near h j p q (λ y k. not_above g y h k e) (λ y k. k); held = held_wider b c a c h ab (omega arith) u.held })
      (λ e. record { none_above = λ j p q. near g j p q (λ y k. k) (λ y k. not_over g h y (held_number b c h u.held) e k); held = held_wider a b a c g (omega arith) bc t.held })
    where
      near : (r : Float) (j : ℕ) → a ≤ j → j < c → ((y : Float) → lt g y ≡ false → lt r y ≡ false) → ((y : Float) → lt h y ≡ false → lt r y ≡ false) → lt r (get_or l j nan) ≡ false
      near r j p q f k = by (ltb j b) refl
        where
          by : (d : Bool) → ltb j b ≡ d → lt r (get_or l j nan) ≡ false
          by true e = f (get_or l j nan) (t.none_above j p (ltb-true j b e))
          by false e = k (get_or l j nan) (u.none_above j (ltb-false j b e) q)

-- ---- in eight lanes

-- at the place of a store, and at another
set_by : (P : Float → Type 0) (b : List Float) (k j : ℕ) (x : Float) → k < length b → (j ≡ k → P x) → P (get_or b j nan) → P (get_or (set b k x) j nan)
set_by P b k j x h here there = by (eqb j k) refl
  where
    by : (q : Bool) → eqb j k ≡ q → P (get_or (set b k x) j nan)
    by true e = let i : j ≡ k = eqb-true j k e in subst (λ (i : ℕ). P (get_or (set b k x) i nan)) (sym i) (subst P (sym (get_or-set_same b k x nan h)) (here i))
    by false e = subst P (sym (get_or-set_other b k j x nan (eqb-false j k e))) there

module _ (l : List Float) where
  pub lanes_none : Lanes l 0 (replicate 8 (inf true))
  lanes_none = record { long = refl; none_above = λ j h. absurd (not-suc-le-zero h); held = λ k h. inl (get_or-replicate 8 k (inf true) nan h) }

  -- place i goes to lane k
  pub lanes_more : (i j k : ℕ) (b : List Float) (m : Float) → j ≡ i + 1 → i % 8 ≡ k → m ≡ greater_of (get_or b k nan) (get_or l i nan) → Lanes l i b → Lanes l j (set b k m)
  lanes_more i j k b m next lane is a =
      let x = get_or l i nan in
      let h : k < 8 = omega arith in
      let w : k < length b = omega (arith, a.long) in
      rw (next, is) (record {
        long = length-set b k (greater_of (get_or b k nan) x) ∙ a.long;
        none_above =
            below_more (λ j. lt (get_or (set b k (greater_of (get_or b k nan) x)) (j % 8) nan) (get_or l j nan) ≡ false) i
            (λ j q. set_by (λ v. lt v (get_or l j nan) ≡ false) b k (j % 8) (greater_of (get_or b k nan) x) w (λ e. greater_keeps (get_or b k nan) x (get_or l j nan) (rw e at (a.none_above j q))) (a.none_above j q))
            (rw (lane, get_or-set_same b k (greater_of (get_or b k nan) x) nan w) (greater_takes (get_or b k nan) x));
        held = λ j q. set_by (Held l 0 (i + 1)) b k j (greater_of (get_or b k nan) x) w (λ e. held_more l 0 i (get_or b k nan) (omega arith) (a.held k h)) (held_wider l 0 i 0 (i + 1) (get_or b j nan) (omega arith) (omega arith) (a.held j q));
      })

  -- the greatest of the lanes
  pub lanes_top : (n : ℕ) (b : List Float) (g : Float) → Lanes l n b → Top b 0 (length b) g → Top l 0 n g
  lanes_top n b g a u =
      let t = rw a.long at u in
      record {
        none_above = λ j p q.
            let h : j % 8 < 8 = omega arith in
            not_over g (get_or b (j % 8) nan) (get_or l j nan) (held_number l 0 n (get_or b (j % 8) nan) (a.held (j % 8) h)) (t.none_above (j % 8) (omega arith) h) (a.none_above j q);
        held = ⊎_elim (λ e. inl e) (λ s. subst (Held l 0 n) s.is (a.held s.place s.to)) t.held;
      }
