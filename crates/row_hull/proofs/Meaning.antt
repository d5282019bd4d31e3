-- The meaning of the choice of a triplet, by that of the greatest number. Assumes nothing.
use Prim.Native.Nat.{ℕ, zero, suc, ◌<◌}
use mathlib.Core.Path.{◌≡◌, refl, sym, ap, ◌∙◌, subst}
use mathlib.Core.Bool.{true, ◌||◌, not}
use mathlib.Core.List.{List, [], ◌∷◌, ◌++◌, map}
use mathlib.Core.Logic.{⊎_elim}
use mathlib.Core.Option.{none, some}
use native.Mathlib.Nat.{not-suc-le-zero, le_of_suc-le-suc}
use native.Mathlib.Omega.{arith}
use lib.ListN.{length, get_or, take, length-map, get_or-eq_default}
use lib.Ieee.{Float, nan, inf, is_nan, lt}
use Rattle.lists.specs.Lists.{every}
use Rattle.lists.proofs.Tests.{every_map}
use Rattle.vector.specs.Vector.{Vector}
use Rattle.layout_hull.specs.Triplets.{Triplet}
use Rattle.row_greatest.specs.Greatest.{first_greatest}
use Rattle.row_greatest.specs.Meaning as greatest
use Rattle.row_greatest.proofs.Meaning.{first_greatest_chosen}
use Rattle.row_hull.specs.HullRow.{Aimed, aimed, least_gain, best_of}
use Rattle.row_hull.specs.Meaning.{Chosen, BestChosen, NoneChosen, GainsAreProducts}

-- ---- the chosen triplet

module _ (s : Vector) where
  -- what stands around the triplet at a place
  record Around (tris : List Triplet) (i : ℕ) (b : Aimed) : Type 0 where
    pub before : List Triplet
    pub here : Triplet
    pub after : List Triplet
    pub stands : tris ≡ before ++ here ∷ after
    pub is : b ≡ aimed s here
    pub number : get_or (map (least_gain s) tris) i nan ≡ b.least
    pub ahead : take i (map (least_gain s) tris) ≡ map (least_gain s) before

  around : (tris : List Triplet) (i : ℕ) (b : Aimed) → get_or (map (λ t. some (aimed s t)) tris) i none ≡ some b → Around tris i b
  around [] i b e = let z : ◌≡◌ {A = ℕ} 0 1 = cc in absurd (omega arith)
  around (t ∷ l) zero b e = let k : aimed s t ≡ b = cc in record { before = []; here = t; after = l; stands = refl; is = sym k; number = ap (λ (a : Aimed). a.least) k; ahead = refl }
  around (t ∷ l) (suc i) b e =
      let r = around l i b e in
      record {
        before = t ∷ r.before;
        here = r.here;
        after = r.after;
        stands = ap (λ (k : List Triplet). t ∷ k) r.stands;
        is = r.is;
        number = r.number;
        ahead = ap (λ (k : List Float). least_gain s t ∷ k) r.ahead;
      }

  module _ (tris : List Triplet) where
    abbrev leasts : List Float
    leasts = map (least_gain s) tris

    abbrev place : ℕ
    place = first_greatest (length tris) leasts

    from_chosen : (b : Aimed) → Around tris place b → greatest.Chosen leasts place → Chosen s tris b
    from_chosen b r c =
        record {
          earlier = r.before;
          triplet = r.here;
          later = r.after;
          stands = r.stands;
          is = r.is;
          none_above =
              sym (every_map (λ x. not (lt b.least x)) (least_gain s) tris)
              ∙ subst (λ (y : Float). every (λ x. not (lt y x)) leasts ≡ true) r.number c.none_above;
          above_earlier =
              sym (every_map (λ x. is_nan x || lt x b.least) (least_gain s) r.before)
              ∙ ap (every (λ x. is_nan x || lt x b.least)) (sym r.ahead)
              ∙ subst (λ (y : Float). every (λ x. is_nan x || lt x y) (take place leasts) ≡ true) r.number c.above_earlier;
        }

    -- none is chosen: the place is past the triplets
    past : (k : ℕ) → k ≡ length tris → get_or (map (λ t. some (aimed s t)) tris) k none ≡ none
    past k e = get_or-eq_default (map (λ t. some (aimed s t)) tris) none {n = k} (omega (arith, length-map tris (λ t. some (aimed s t))))

    within : (k : ℕ) → k < length tris → get_or (map (λ t. some (aimed s t)) tris) k none ≡ none → ⊥
    within k h e = inside tris k h e
      where
        inside : (l : List Triplet) (k : ℕ) → k < length l → get_or (map (λ t. some (aimed s t)) l) k none ≡ none → ⊥
        inside [] k h e = not-suc-le-zero h
        inside (t ∷ l) zero h e = let z : ◌≡◌ {A = ℕ} 0 1 = cc in omega arith
        inside (t ∷ l) (suc k) h e = inside l k (le_of_suc-le-suc h) e

pub best_chosen_is_greatest : BestChosen
unfolding best_of
best_chosen_is_greatest s tris b e =
    ⊎_elim (λ c. from_chosen s tris b (around s tris (place s tris) b e) c)
    (λ n. let f = past s tris (place s tris) n.is in let z : ◌≡◌ {A = ℕ} 0 1 = cc in absurd (omega arith))
    (first_greatest_chosen (length tris) (leasts s tris))

pub none_chosen_none_above : NoneChosen
unfolding best_of
none_chosen_none_above s tris e =
    ⊎_elim (λ c. absurd (within s tris (place s tris) (omega (arith, c.within, length-map tris (least_gain s))) e))
    (λ n. sym (every_map (λ x. not (lt (inf true) x)) (least_gain s) tris) ∙ n.none_high)
    (first_greatest_chosen (length tris) (leasts s tris))

pub gains_are_products : GainsAreProducts
unfolding aimed
gains_are_products s t zero h = refl
gains_are_products s t (suc zero) h = refl
gains_are_products s t (suc (suc zero)) h = refl
gains_are_products s t (suc (suc (suc r))) h = absurd (not-suc-le-zero (le_of_suc-le-suc (le_of_suc-le-suc (le_of_suc-le-suc h))))
