-- What a history leaves, laid into a record of any depth: what is read of it, what a change at one source makes of it, and that it says the whole history. Assumes nothing.
use Prim.Native.Nat.{ℕ, zero, suc, ◌+◌, ◌-◌, ◌*◌, ◌≤◌, ◌<◌}
use mathlib.Core.Path.{◌≡◌, refl, sym, ap, ◌∙◌}
use mathlib.Core.Bool.{false}
use mathlib.Core.List.{List, [], ◌∷◌, ◌++◌, map, flat_map}
use native.Mathlib.Nat.{add_assoc, mul-le-mul_right, suc-mul}
use native.Mathlib.Omega.{arith}
use borrow.Author.Tests.{le-ltb}
use lib.Dec.{ltb}
use lib.ListN.{length, get_or, set, take, drop, replicate, length-append, length-replicate, length-set, length-map, get_or-map, drop_of_length-le}
use lib.Seq.{sets, drop-cons, map-set}
use lib.Ieee.{Float, nan}
use Rattle.lists.specs.Lists.{Each, any, but_last, filled, part}
use Rattle.lists.proofs.Each.{each_imply, each_set, each_get_d, each_replicate, each_filled, each_map, length_rows}
use Rattle.lists.proofs.Filled.{length_filled}
use Rattle.lists.proofs.Parts.{take_two}
use Rattle.float_order.specs.Values.{+0}
use Rattle.layout_record.specs.declared.VbapPanner.{VbapPanner}
use Rattle.layout_record.specs.Shape.{Layout}
use Rattle.layout_record.specs.Panner.{layout_in}
use Rattle.layout_record.specs.Malformed.{malformed_of}
use Rattle.mix_block.specs.Limits.{most_sources, row_places}
use Rattle.session_history.specs.History.{Direction, Past, beginning, stand, relisted, only_last}
use Rattle.session_calls.specs.declared.Session.{Session}
use Rattle.session_calls.specs.Session.{stood, start_row}
use Rattle.theorem_take_back.specs.Demand3.{Alike}
use Rattle.theorem_take_back.specs.Laid.{places_of, start_of, laid_at}
use Rattle.theorem_take_back.proofs.Fields.{stood_same}
use Rattle.lists.proofs.Rows.{Wide, get_d_filled_any, sets_filled, filled_replicate, rows_in_part, rows_in_get_d, rows_in_rest, rows_in_sets, rows_in_replicate}
use Rattle.theorem_take_back.proofs.Places.{but_last_length, places, places_length, places_none, places_push, places_pop, places_at, places_same, places_settle, start_same}

-- what open's acceptance says of its record, its layout and its count of sources
pub record Setting (v : VbapPanner) (l : Layout) (n : ℕ) : Type 0 where
  pub formed : malformed_of v ≡ false
  pub read : layout_in v ≡ l
  pub outputs : v.num_outputs ≡ l.outputs
  pub narrow : l.outputs ≤ row_places
  pub least : 1 ≤ n
  pub most : n ≤ most_sources

-- what every step of the history keeps
pub record Good (deep : ℕ) (l : Layout) (n : ℕ) (ps : List Past) : Type 0 where
  pub many : length ps ≡ n
  pub few : Each (λ p. length p.standing ≤ deep) ps
  pub even : Each (λ p. length p.row ≡ l.outputs) ps

abbrev pub count : Past → ℕ
count p = length p.standing

-- ---- the last direction alone

pub only_last_none : (ds : List Direction) → length ds ≡ 0 → only_last ds ≡ ds
unfolding only_last
only_last_none [] h = refl
only_last_none (d ∷ ds) h = absurd (omega arith)

only_last_some : (ds : List Direction) (z : Direction) → 1 ≤ length ds → only_last ds ≡ get_or ds (length ds - 1) z ∷ []
unfolding only_last
only_last_some ds z h =
    drop-cons ds (length ds - 1) z (omega arith)
    ∙ ap (λ (r : List Direction). get_or ds (length ds - 1) z ∷ r) (drop_of_length-le ds {i = suc (length ds - 1)} (omega arith))

-- ---- counts

map_replicate : {A B : Type 0} (f : A → B) (n : ℕ) (a : A) → map f (replicate n a) ≡ replicate n (f a)
map_replicate f zero a = refl
map_replicate {A} {B} f (suc n) a = ap (λ (l : List B). f a ∷ l) (map_replicate f n a)

none_over : (deep : ℕ) (l : List ℕ) → Each (λ n. n ≤ deep) l → any (λ n. ltb deep n) l ≡ false
unfolding any
none_over deep [] e = refl
none_over deep (n ∷ l) e = rw (le-ltb deep n e.0) (none_over deep l e.1)

-- a direction that no list holds
abbrev pub nowhere : Direction
nowhere = record { azimuth = nan; elevation = nan }

module _ (deep : ℕ) (v : VbapPanner) (l : Layout) (n : ℕ) (s : Setting v l n) where
  -- ---- fresh

  abbrev u : Past
  u = beginning l

  pub good_fresh : Good deep l n (replicate n (beginning l))
  good_fresh =
      record {
        many = length-replicate n u;
        few = each_replicate (λ p. count p ≤ deep) n u (omega arith);
        even = each_replicate (λ p. length p.row ≡ l.outputs) n u (length-replicate l.outputs +0);
      }

  pub fresh_counts : replicate most_sources 0 ≡ filled most_sources 0 (map count (replicate n (beginning l)))
  fresh_counts = sym (ap (filled most_sources 0) (map_replicate count n u) ∙ filled_replicate most_sources n 0 s.most)

  pub fresh_standing : replicate (most_sources * (deep * 2)) +0 ≡ filled (most_sources * (deep * 2)) +0 (flat_map (places_of deep) (replicate n (beginning l)))
  unfolding places_of
  fresh_standing = sym (rows_in_replicate (deep * 2) (places_of deep) (most_sources * (deep * 2)) +0 n u (places_none deep) (mul-le-mul_right (deep * 2) s.most))

  pub fresh_starts : replicate (most_sources * row_places) +0 ≡ filled (most_sources * row_places) +0 (flat_map start_of (replicate n (beginning l)))
  unfolding start_of
  fresh_starts =
      let m = s.most in
      sym (rows_in_replicate row_places start_of (most_sources * row_places) +0 n u (filled_replicate row_places l.outputs +0 s.narrow) (omega arith))

  -- ---- what the record says of a history

  module _ (ps : List Past) (g : Good deep l n ps) where
    abbrev t : Session
    t = laid_at deep v ps

    wide : Each (Wide (deep * 2) (places_of deep)) ps
    unfolding places_of
    wide = each_imply (λ p. count p ≤ deep) (Wide (deep * 2) (places_of deep)) (λ p h. places_length deep p.standing h) ps g.few

    wide_starts : Each (Wide row_places start_of) ps
    unfolding start_of
    wide_starts =
        let h = s.narrow in
        each_imply (λ p. length p.row ≡ l.outputs) (Wide row_places start_of) (λ p e. length_filled row_places +0 p.row (omega arith)) ps g.even

    pub counts_low : any (λ k. ltb deep k) (laid_at deep v ps).counts ≡ false
    unfolding laid_at
    counts_low =
        none_over deep (filled most_sources 0 (map count ps))
        (each_filled (λ k. k ≤ deep) most_sources 0 (map count ps) (omega arith) (each_map (λ k. k ≤ deep) count ps g.few))

    pub count_at : (i : ℕ) → get_or (laid_at deep v ps).counts i 0 ≡ count (get_or ps i (beginning l))
    unfolding laid_at
    count_at i = get_d_filled_any most_sources 0 (map count ps) i ∙ get_or-map count ps i u

    pub stand_at : (i : ℕ) → stand ps i ≡ count (get_or ps i (beginning l))
    stand_at i = ap length (get_or-map (λ p. p.standing) ps i u)

    pub few_at : (i : ℕ) → i < n → count (get_or ps i (beginning l)) ≤ deep
    few_at i b = each_get_d (λ p. count p ≤ deep) ps i u (omega (arith, g.many)) g.few

    pub even_at : (i : ℕ) → i < n → length (get_or ps i (beginning l)).row ≡ l.outputs
    even_at i b = each_get_d (λ p. length p.row ≡ l.outputs) ps i u (omega (arith, g.many)) g.even

    -- direction k of source i
    pub stands_at : (i : ℕ) → i < n → (k : ℕ) → k < count (get_or ps i (beginning l))
        → (get_or (laid_at deep v ps).standing (i * (deep * 2) + k * 2) nan ≡ (get_or (get_or ps i (beginning l)).standing k nowhere).azimuth)
        × (get_or (laid_at deep v ps).standing (i * (deep * 2) + k * 2 + 1) nan ≡ (get_or (get_or ps i (beginning l)).standing k nowhere).elevation)
    unfolding laid_at places_of
    stands_at i b k h =
        let few = few_at i b in
        let i' : i < length ps = omega (arith, g.many) in
        let r = places_at deep (get_or ps i u).standing nowhere k h in (
          rows_in_get_d (deep * 2) (places_of deep) (most_sources * (deep * 2)) +0 ps u i (k * 2) nan wide i' (omega arith) ∙ r.0,
          rw add_assoc (rows_in_get_d (deep * 2) (places_of deep) (most_sources * (deep * 2)) +0 ps u i (k * 2 + 1) nan wide i' (omega arith) ∙ r.1),
        )

    standing_length : length (laid_at deep v ps).standing ≡ most_sources * (deep * 2)
    unfolding laid_at
    standing_length =
        let many : length ps ≤ most_sources = omega (arith, g.many, s.most) in
        let few : length ps * (deep * 2) ≤ most_sources * (deep * 2) = mul-le-mul_right (deep * 2) many in
        length_filled (most_sources * (deep * 2)) +0 (flat_map (places_of deep) ps) (omega (arith, length_rows (deep * 2) (places_of deep) ps wide))

    -- its last direction's numbers
    last_two : (i : ℕ) → i < n → 1 ≤ count (get_or ps i (beginning l))
        → let ds = (get_or ps i (beginning l)).standing in
        take 2 (drop (i * (deep * 2) + (length ds - 1) * 2) (laid_at deep v ps).standing) ≡ (get_or ds (length ds - 1) nowhere).azimuth ∷ (get_or ds (length ds - 1) nowhere).elevation ∷ []
    last_two i b k =
        let ds = (get_or ps i u).standing in
        let few = few_at i b in
        let i' : suc i ≤ most_sources = omega (arith, s.most) in
        let room : suc i * (deep * 2) ≤ most_sources * (deep * 2) = mul-le-mul_right (deep * 2) i' in
        let here : suc i * (deep * 2) ≡ i * (deep * 2) + deep * 2 = suc-mul i (deep * 2) in
        let r = stands_at i b (length ds - 1) (omega arith) in
        take_two (laid_at deep v ps).standing (i * (deep * 2) + (length ds - 1) * 2) nan (omega (arith, standing_length)) ∙ rw (r.0, r.1)

    -- the start row of source i: its row, or that of a source that is not used
    pub start_at : (i : ℕ) → i < n → start_row (laid_at deep v ps) i ≡ start_of (get_or ps i (beginning l))
    unfolding laid_at start_row
    start_at i b = rows_in_part row_places start_of (most_sources * row_places) +0 ps u i wide_starts (omega (arith, g.many))

    pub start_unused : (i : ℕ) → n ≤ i → i < most_sources → start_row (laid_at deep v ps) i ≡ replicate row_places +0
    unfolding laid_at start_row
    start_unused i b h = rows_in_rest row_places start_of (most_sources * row_places) +0 ps i wide_starts (omega (arith, g.many)) (omega arith)

    -- ---- a change at one source

    pub good_set : (i : ℕ) (p : Past) → count p ≤ deep → length p.row ≡ l.outputs → Good deep l n (set ps i p)
    good_set i p c r =
        record {
          many = length-set ps i p ∙ g.many;
          few = each_set (λ q. count q ≤ deep) ps i p g.few (λ _. c);
          even = each_set (λ q. length q.row ≡ l.outputs) ps i p g.even (λ _. r);
        }

    module _ (i : ℕ) (b : i < n) where
      abbrev here : Past
      here = get_or ps i u

      -- another list for source i, with the numbers that it changes
      relisted_laid : (f : List Direction → List Direction) (c j : ℕ) (vs : List Float) → length (f here.standing) ≡ c → j * 2 + length vs ≤ deep * 2
          → sets (places deep here.standing) (j * 2) vs ≡ places deep (f here.standing)
          → stood t i c (sets t.standing (i * (deep * 2) + j * 2) vs) ≡ laid_at deep v (set ps i (relisted f here))
      unfolding laid_at places_of start_of
      relisted_laid f c j vs e m h =
          let p : Past = relisted f here in
          let i' : i < length ps = omega (arith, g.many) in
          stood_same t (laid_at deep v (set ps i p)) (record { panner = refl; sources = sym (length-set ps i p) }) i c (sets t.standing (i * (deep * 2) + j * 2) vs)
          (sets_filled most_sources 0 (map count ps) i (c ∷ []) (omega (arith, length-map ps count)) ∙ ap (filled most_sources 0) (rw (← e) (sym (map-set count ps i p))))
          (rows_in_sets (deep * 2) (places_of deep) (most_sources * (deep * 2)) +0 ps u i (j * 2) p vs wide i' m h)
          (rows_in_sets row_places start_of (most_sources * row_places) +0 ps u i 0 p [] wide_starts i' (omega arith) refl)

      pub pushed_laid : (d : Direction) → count here < deep
          → let q : Past = relisted (λ ds. ds ++ d ∷ []) here in
          Good deep l n (set ps i q)
          × (stood t i (count here + 1) (sets t.standing (i * (deep * 2) + count here * 2) (d.azimuth ∷ d.elevation ∷ [])) ≡ laid_at deep v (set ps i q))
      pushed_laid d k =
          let ds = here.standing in
          let long : length (ds ++ d ∷ []) ≡ length ds + 1 = length-append ds (d ∷ []) in (
            good_set i (relisted (λ ds. ds ++ d ∷ []) here) (omega arith) (even_at i b),
            relisted_laid (λ ds. ds ++ d ∷ []) (length ds + 1) (length ds) (d.azimuth ∷ d.elevation ∷ []) long (omega arith) (places_push deep ds d k),
          )

      pub popped_laid : 1 ≤ count here
          → Good deep l n (set ps i (relisted but_last here))
          × (stood t i (count here - 1) (sets t.standing (i * (deep * 2) + (count here - 1) * 2) (+0 ∷ +0 ∷ [])) ≡ laid_at deep v (set ps i (relisted but_last here)))
      popped_laid k =
          let ds = here.standing in
          let few = few_at i b in
          let long : length (but_last ds) ≡ length ds - 1 = but_last_length ds in (
            good_set i (relisted but_last here) (omega arith) (even_at i b),
            relisted_laid but_last (length ds - 1) (length ds - 1) (+0 ∷ +0 ∷ []) long (omega arith) (places_pop deep ds k few),
          )

      pub settled_laid : 1 ≤ count here
          → Good deep l n (set ps i (relisted only_last here))
          × (stood t i 1 (sets t.standing (i * (deep * 2) + 0 * 2) (take 2 (drop (i * (deep * 2) + (count here - 1) * 2) t.standing) ++ replicate (deep * 2 - 2) +0))
          ≡ laid_at deep v (set ps i (relisted only_last here)))
      settled_laid k =
          let ds = here.standing in
          let few = few_at i b in
          let d = get_or ds (length ds - 1) nowhere in
          let alone : only_last ds ≡ d ∷ [] = only_last_some ds nowhere k in
          let long : length (only_last ds) ≡ 1 = ap length alone in (
            good_set i (relisted only_last here) (omega arith) (even_at i b),
            rw (last_two i b k)
                (relisted_laid only_last 1 0 (d.azimuth ∷ d.elevation ∷ replicate (deep * 2 - 2) +0) long (omega (arith, length-replicate (deep * 2 - 2) +0))
                (places_settle deep ds d k few ∙ ap (places deep) (sym alone))),
          )

  -- ---- equal records have equal histories

  pub laid_same : (ps qs : List Past) → Good deep l n ps → Good deep l n qs → laid_at deep v ps ≡ laid_at deep v qs → (i : ℕ) → i < n
      → Alike (get_or ps i (beginning l)) (get_or qs i (beginning l))
  unfolding laid_at places_of start_of
  laid_same ps qs a b e i m =
      let long : count (get_or ps i u) ≡ count (get_or qs i u) = sym (count_at ps a i) ∙ ap (λ (x : Session). get_or x.counts i 0) e ∙ count_at qs b i in
      let ds = sym (rows_in_part (deep * 2) (places_of deep) (most_sources * (deep * 2)) +0 ps u i (wide ps a) (omega (arith, a.many)))
      ∙ ap (λ (x : Session). part (deep * 2) x.standing i) e
      ∙ rows_in_part (deep * 2) (places_of deep) (most_sources * (deep * 2)) +0 qs u i (wide qs b) (omega (arith, b.many)) in
      let ss = sym (start_at ps a i m) ∙ ap (λ (x : Session). start_row x i) e ∙ start_at qs b i m in
      record {
        directions = places_same deep _ _ long ds;
        gains = start_same _ _ (even_at ps a i m ∙ sym (even_at qs b i m)) ss;
      }
