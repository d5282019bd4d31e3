-- The branches of the row's definitions, from what each test says. Assumes nothing.
use Rattle.std.proofs.Common.{◌≡◌, ℕ, zero, suc, ◌-◌, ◌<◌, ◌≤◌, Bool, true, false, cond, eqb, Option, None, Some, List, length, get_or, set, replicate, sym, refl, ap, ◌∙◌, arith}
use Rattle.std.specs.List.{slice_get}
use Rattle.std.proofs.lemmas.List.{get_or_default}
use Rattle.std.proofs.lemmas.Option.{slice_get_past, slice_get-get_or}
use borrow.Author.Tests.{ne_eqb}
use lib.Ieee.{Float, binary32, add, mul, div, lt}
use Rattle.lists.specs.Lists.{is_empty}
use Rattle.float_order.specs.Values.{+0}
use Rattle.float_order.specs.Order.{square_of}
use Rattle.float_root.specs.Root.{sqrt_of}
use Rattle.layout_planar.specs.declared.PlanarPair.{PlanarPair}
use Rattle.layout_planar.specs.Planar.{no_pair}
use Rattle.row_places.specs.Places.{add_at}
use Rattle.row_planar.specs.PlanarRow.{least_pair_norm, Two, contains, chosen, by_law, planar_spread, spread, pair_row, planar_row}
use Rattle.row_planar.specs.Meaning.{pair_at}
use Rattle.row_planar.proofs.Meaning.{chosen_first, chosen_last}
use Rattle.lists.proofs.Tests.{cond_yes, cond_no, empty_length}

-- ---- the chosen pair

-- no pair before place i contains the azimuth
abbrev pub NoneBefore : Float → List PlanarPair → ℕ → Type 0
NoneBefore az pairs i = (k : ℕ) → k < i → contains az (pair_at pairs k) ≡ false

module _ (az : Float) (pairs : List PlanarPair) where
  abbrev answer : Option PlanarPair
  answer = cond (is_empty pairs) None (Some (chosen az pairs))

  some_pair : 0 < length pairs → answer ≡ Some (chosen az pairs)
  some_pair h = cond_no None (Some (chosen az pairs)) (empty_length pairs ∙ ne_eqb (length pairs) 0 (λ e. omega arith))

  module _ (i : ℕ) (d : PlanarPair) (h : i < length pairs) (b : NoneBefore az pairs i) where
    same : get_or pairs i d ≡ pair_at pairs i
    same = get_or_default pairs i d no_pair h

    pub found_here : contains az (get_or pairs i d) ≡ true → Some (get_or pairs i d) ≡ answer
    found_here e = ap Some (same ∙ sym (chosen_first az pairs i h (rw same at e) b)) ∙ sym (some_pair (omega arith))

  pub found_last : (i : ℕ) → length pairs ≤ i → NoneBefore az pairs i → slice_get pairs (length pairs - 1) ≡ answer
  found_last i h b = by (length pairs) refl
    where
      by : (n : ℕ) → length pairs ≡ n → slice_get pairs (length pairs - 1) ≡ answer
      by zero e = slice_get_past pairs (length pairs - 1) (omega arith) ∙ sym (cond_yes None (Some (chosen az pairs)) (empty_length pairs ∙ ap (λ (k : ℕ). eqb k 0) e))
      by (suc n) e =
          slice_get-get_or pairs (length pairs - 1) no_pair (omega arith) ∙ ap Some (sym (chosen_last az pairs (omega arith) (λ j k. b j (omega arith)))) ∙ sym (some_pair (omega arith))

-- ---- the row of a pair

module _ (n : ℕ) (el : Float) (p : PlanarPair) (g : Two) (slots : List ℕ) where
  abbrev silent : List Float
  silent = replicate n +0

  -- the row before the norm is tested
  abbrev sounding : Float → List Float
  sounding norm = spread (planar_spread el) slots (add_at (set silent p.a (div binary32 g.ga norm)) p.b (div binary32 g.gb norm))

  module _ {norm : Float} (is : norm ≡ sqrt_of binary32 (add binary32 (mul binary32 g.ga g.ga) (mul binary32 g.gb g.gb))) where
    row_is : cond (lt least_pair_norm norm) (sounding norm) silent ≡ pair_row n el p g slots
    unfolding pair_row square_of
    row_is = ap (λ (x : Float). cond (lt least_pair_norm x) (sounding x) silent) is

    pub row_silent : lt least_pair_norm norm ≡ false → silent ≡ pair_row n el p g slots
    row_silent h = sym (cond_no (sounding norm) silent h) ∙ row_is

    pub row_sounds : lt least_pair_norm norm ≡ true → sounding norm ≡ pair_row n el p g slots
    row_sounds h = sym (cond_yes (sounding norm) silent h) ∙ row_is

  -- what the code makes, store after store
  pub row_made : (norm : Float) {w : Float} {zeros one two all : List Float}
      → zeros ≡ silent → one ≡ set zeros p.a (div binary32 g.ga norm) → two ≡ add_at one p.b (div binary32 g.gb norm)
      → w ≡ planar_spread el → all ≡ spread w slots two → all ≡ sounding norm
  row_made norm e0 e1 e2 ew e3 = rw (e3, ew, e2, e1, e0)

-- ---- the row of a layout

module _ (n : ℕ) (az el : Float) (pairs : List PlanarPair) (slots : List ℕ) where
  pub planar_silent : None ≡ cond (is_empty pairs) None (Some (chosen az pairs)) → replicate n +0 ≡ planar_row n az el pairs slots
  unfolding planar_row
  planar_silent = by (is_empty pairs) refl
    where
      by : (e : Bool) → is_empty pairs ≡ e → None ≡ cond e None (Some (chosen az pairs)) → replicate n +0 ≡ planar_row n az el pairs slots
      by true e h = rw e
      by false e h = cc

  pub planar_sounds : {p : PlanarPair} → Some p ≡ cond (is_empty pairs) None (Some (chosen az pairs)) → pair_row n el p (by_law az p p.law) slots ≡ planar_row n az el pairs slots
  unfolding planar_row
  planar_sounds {p} = by (is_empty pairs) refl
    where
      by : (e : Bool) → is_empty pairs ≡ e → Some p ≡ cond e None (Some (chosen az pairs)) → pair_row n el p (by_law az p p.law) slots ≡ planar_row n az el pairs slots
      by true e h = cc
      by false e h = let k : p ≡ chosen az pairs = cc in rw (e, k)
