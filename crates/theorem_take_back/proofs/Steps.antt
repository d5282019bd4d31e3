-- Each call makes of a laid history what its next history is, laid: both make the same tests, and the same change at one source. Assumes nothing.
use Prim.Native.Nat.{ℕ, suc, ◌-◌, ◌*◌, ◌≤◌, ◌<◌}
use mathlib.Core.Path.{◌≡◌, refl, sym, ap, ◌∙◌}
use mathlib.Core.Bool.{Bool, true, false, cond}
use mathlib.Core.List.{List, [], ◌∷◌, ◌++◌, map, flat_map}
use native.Mathlib.Nat.{not-suc-le-zero}
use native.Mathlib.Omega.{arith}
use borrow.Author.Tests.{le-ltb, lt-ltb, leb-false, eqb-true, eqb-false}
use lib.Dec.{eqb, leb}
use lib.ListN.{length, get_or, set, replicate, length-replicate, length-map, get_or-map}
use lib.Seq.{set-get_or}
use lib.Ieee.{Float}
use Rattle.lists.specs.Lists.{range, but_last, filled}
use Rattle.lists.proofs.Each.{each_all, each_map}
use Rattle.lists.proofs.Collect.{flat_map_map}
use Rattle.lists.proofs.Ends.{change_set}
use Rattle.lists.proofs.Filled.{length_filled}
use Rattle.float_order.specs.Values.{+0}
use Rattle.layout_record.specs.declared.VbapPanner.{VbapPanner}
use Rattle.layout_record.specs.Shape.{Layout}
use Rattle.row_gains.specs.Gains.{finite_or0, row_of}
use Rattle.mix_block.specs.Limits.{most_sources, row_places}
use Rattle.session_history.specs.Calls.{Call, place, take_back, settle, render}
use Rattle.session_history.specs.History.{Direction, Past, quiet, beginning, depth, stand, refusal, relisted, only_last, last_row, rerowed, made, step}
use Rattle.session_calls.specs.declared.Session.{Session}
use Rattle.session_calls.proofs.Refusals.{formed_is}
use Rattle.session_open.specs.Open.{fresh}
use Rattle.session_calls.specs.Session.{malformed_session, standing_count, on_source, number_of, restood, placed, taken_back, settled, target_row, target, new_start, rendered, accepted, after}
use Rattle.theorem_rows.proofs.Silent.{row_length}
use Rattle.theorem_take_back.specs.Laid.{places_of, start_of, laid_at}
use Rattle.theorem_take_back.proofs.Fields.{same_session, starts_same}
use Rattle.lists.proofs.Rows.{Wide, range_rows}
use Rattle.theorem_take_back.proofs.Places.{start_store}
use Rattle.theorem_take_back.proofs.Laying.{Setting, Good, count, only_last_none, nowhere, fresh_counts, fresh_standing, fresh_starts, counts_low, count_at, stand_at, even_at, stands_at, start_at, start_unused, pushed_laid, popped_laid, settled_laid}

-- ---- the row of the last direction

pub last_row_length : (l : Layout) (ds : List Direction) → length (last_row l ds) ≡ l.outputs
unfolding last_row
last_row_length l [] = length-replicate l.outputs +0
last_row_length l (d ∷ []) = row_length l l.outputs d.azimuth d.elevation
last_row_length l (d ∷ (e ∷ ds)) = last_row_length l (e ∷ ds)

last_row_none : (l : Layout) (ds : List Direction) → length ds ≡ 0 → last_row l ds ≡ quiet l
unfolding last_row
last_row_none l [] h = refl
last_row_none l (d ∷ ds) h = absurd (omega arith)

last_row_last : (l : Layout) (ds : List Direction) (z : Direction) → 1 ≤ length ds
    → last_row l ds ≡ row_of l l.outputs (get_or ds (length ds - 1) z).azimuth (get_or ds (length ds - 1) z).elevation
unfolding last_row
last_row_last l [] z h = absurd (not-suc-le-zero h)
last_row_last l (d ∷ []) z h = refl
last_row_last l (d ∷ (e ∷ ds)) z h =
    let q : suc (suc (length ds)) - 1 ≡ suc (suc (length ds) - 1) = omega arith in
    rw q (last_row_last l (e ∷ ds) z (omega arith))

-- ---- what a refusal of 0 says of the tests

passed_one : (a : Bool) → ◌≡◌ {A = ℕ} (cond a 5 0) 0 → a ≡ false
passed_one true e = absurd (omega arith)
passed_one false e = refl

passed_two : (a b : Bool) (k : ℕ) → ◌≡◌ {A = ℕ} (cond a 5 (cond b (suc k) 0)) 0 → (a ≡ false) × (b ≡ false)
passed_two true b k e = absurd (omega arith)
passed_two false true k e = absurd (omega arith)
passed_two false false k e = (refl, refl)

map_rerowed : {A : Type 0} (f : Past → A) (l : Layout) → ((p : Past) → f (rerowed l p) ≡ f p) → (ps : List Past) → map f (map (rerowed l) ps) ≡ map f ps
map_rerowed f l h [] = refl
map_rerowed f l h (p ∷ ps) = rw (h p, map_rerowed f l h ps)

module _ (v : VbapPanner) (l : Layout) (n : ℕ) (s : Setting v l n) where
  pub laid_fresh : fresh v n ≡ laid_at depth v (replicate n (beginning l))
  unfolding fresh laid_at
  laid_fresh =
      same_session (fresh v n) (laid_at depth v (replicate n (beginning l)))
      (record {
        panner = refl;
        sources = sym (length-replicate n (beginning l));
        counts = fresh_counts depth v l n s;
        standing = fresh_standing depth v l n s;
        starts = fresh_starts depth v l n s;
      })

  module _ (ps : List Past) (g : Good depth l n ps) where
    abbrev t : Session
    t = laid_at depth v ps

    -- ---- the numbers agree, and 11 never comes

    pub well : malformed_session (laid_at depth v ps) ≡ false
    unfolding laid_at
    well =
        formed_is t (record {
          panner = s.formed;
          some = omega (arith, g.many, s.least);
          few = omega (arith, g.many, s.most);
          counts = counts_low depth v l n s ps g;
        })

    pub numbers_same : (c : Call) → number_of (laid_at depth v ps) c ≡ refusal l ps c
    unfolding number_of on_source refusal laid_at
    numbers_same (place i az el) = rw (well, count_at depth v l n s ps g i, stand_at depth v l n s ps g i)
    numbers_same (take_back i) = rw (well, count_at depth v l n s ps g i, stand_at depth v l n s ps g i)
    numbers_same (settle i) = rw well
    numbers_same (render L samples outputs) = rw (well, s.outputs)

    -- ---- one source

    module _ (i : ℕ) (b : i < n) where
      abbrev p : Past
      p = get_or ps i (beginning l)

      here : standing_count t i ≡ count p
      here = count_at depth v l n s ps g i

      place_step : (az el : Float) → count p < depth
          → let q : Past = relisted (λ ds. ds ++ record { azimuth = finite_or0 az; elevation = finite_or0 el } ∷ []) p in
          Good depth l n (set ps i q) × (placed t i az el ≡ laid_at depth v (set ps i q))
      unfolding placed restood
      place_step az el k = rw here (pushed_laid depth v l n s ps g i b (record { azimuth = finite_or0 az; elevation = finite_or0 el }) k)

      take_back_step : 1 ≤ count p → Good depth l n (set ps i (relisted but_last p)) × (taken_back t i ≡ laid_at depth v (set ps i (relisted but_last p)))
      unfolding taken_back restood
      take_back_step k = rw here (popped_laid depth v l n s ps g i b k)

      settle_step : (e : Bool) → eqb (count p) 0 ≡ e → Good depth l n (set ps i (relisted only_last p)) × (settled t i ≡ laid_at depth v (set ps i (relisted only_last p)))
      unfolding settled restood
      settle_step true e = rw (here, e, only_last_none p.standing (eqb-true _ _ e), set-get_or ps i (beginning l)) (g, refl)
      settle_step false e = rw (here, e) (settled_laid depth v l n s ps g i b (omega (arith, eqb-false (count p) 0 e)))

      -- the row that a render gives a source, as the session and as the history have it
      target_at : (e : Bool) → eqb (count p) 0 ≡ e → target t i ≡ last_row l p.standing
      unfolding target target_row laid_at
      target_at true e = rw (here, e, s.outputs) (sym (last_row_none l p.standing (eqb-true _ _ e)))
      target_at false e =
          let ds = p.standing in
          let k : 1 ≤ length ds = omega (arith, eqb-false (length ds) 0 e) in
          let r = stands_at depth v l n s ps g i b (length ds - 1) (omega arith) in
          rw (here, e, r.0, r.1)
          (ap (λ (m : Layout). row_of m v.num_outputs (get_or ds (length ds - 1) nowhere).azimuth (get_or ds (length ds - 1) nowhere).elevation) s.read
          ∙ rw s.outputs (sym (last_row_last l ds nowhere k)))

      new_start_lem : new_start t i ≡ start_of (rerowed l p)
      unfolding new_start laid_at start_of
      new_start_lem =
          let i' : i < length ps = omega (arith, g.many) in
          rw (lt-ltb i (length ps) i', target_at (eqb (count p) 0) refl, start_at depth v l n s ps g i b, s.outputs)
          (start_store l.outputs p.row (last_row l p.standing) (even_at depth v l n s ps g i b) (last_row_length l p.standing))

    -- ---- every source

    good_rerowed : Good depth l n (map (rerowed l) ps)
    good_rerowed =
        record {
          many = length-map ps (rerowed l) ∙ g.many;
          few = each_map (λ p. count p ≤ depth) (rerowed l) ps g.few;
          even = each_map (λ p. length p.row ≡ l.outputs) (rerowed l) ps (each_all (λ p. length (rerowed l p).row ≡ l.outputs) (λ p. last_row_length l p.standing) ps);
        }

    unused_start : (i : ℕ) → n ≤ i → i < most_sources → new_start t i ≡ replicate row_places +0
    unfolding new_start laid_at
    unused_start i b h =
        let i' : length ps ≤ i = omega (arith, g.many) in
        rw (le-ltb i (length ps) i', start_unused depth v l n s ps g i b h)

    new_starts : flat_map (new_start t) (range most_sources) ≡ filled (most_sources * row_places) +0 (flat_map start_of (map (rerowed l) ps))
    unfolding start_of last_row
    new_starts =
        let qs = map (rerowed l) ps in
        let many : length qs ≡ n = length-map ps (rerowed l) ∙ g.many in
        let narrow = s.narrow in
        range_rows row_places start_of (new_start t) +0 qs (beginning l) most_sources
        (each_map (Wide row_places start_of) (rerowed l) ps (each_all (λ p. Wide row_places start_of (rerowed l p)) (λ p. length_filled row_places +0 (last_row l p.standing) (omega (arith, last_row_length l p.standing))) ps))
        (omega (arith, s.most))
        (λ i h. new_start_lem i (omega arith) ∙ ap start_of (sym (rerowed_at i)))
        (λ i h b. unused_start i (omega arith) b)
      where
        rerowed_at : (i : ℕ) → get_or (map (rerowed l) ps) i (beginning l) ≡ rerowed l (get_or ps i (beginning l))
        rerowed_at i = get_or-map (rerowed l) ps i (beginning l)

    render_step : Good depth l n (map (rerowed l) ps) × (rendered t ≡ laid_at depth v (map (rerowed l) ps))
    unfolding rendered laid_at places_of
    render_step = (
      good_rerowed,
      starts_same t (laid_at depth v (map (rerowed l) ps)) (record { panner = refl; sources = sym (length-map ps (rerowed l)) }) (flat_map (new_start t) (range most_sources))
          (ap (filled most_sources 0) (sym (map_rerowed count l (λ p. refl) ps)))
          (ap (filled (most_sources * (depth * 2)) +0) (sym (flat_map_map (places_of depth) (rerowed l) ps)))
          new_starts,
    )

    -- ---- any call

    accepted_step : (c : Call) → refusal l ps c ≡ 0 → Good depth l n (made l ps c) × (accepted (laid_at depth v ps) c ≡ laid_at depth v (made l ps c))
    unfolding refusal made accepted
    accepted_step (place i az el) e =
        let r = passed_two (leb (length ps) i) (leb depth (stand ps i)) 5 e in
        let b : i < length ps = leb-false (length ps) i r.0 in
        let k : count (get_or ps i (beginning l)) < depth = omega (arith, leb-false depth (stand ps i) r.1, stand_at depth v l n s ps g i) in
        rw (change_set i _ ps (beginning l) b) (place_step i (omega (arith, g.many)) az el k)
    accepted_step (take_back i) e =
        let r = passed_two (leb (length ps) i) (eqb (stand ps i) 0) 6 e in
        let b : i < length ps = leb-false (length ps) i r.0 in
        let k : 1 ≤ count (get_or ps i (beginning l)) = omega (arith, eqb-false (stand ps i) 0 r.1, stand_at depth v l n s ps g i) in
        rw (change_set i _ ps (beginning l) b) (take_back_step i (omega (arith, g.many)) k)
    accepted_step (settle i) e =
        let b : i < length ps = leb-false (length ps) i (passed_one (leb (length ps) i) e) in
        rw (change_set i _ ps (beginning l) b) (settle_step i (omega (arith, g.many)) (eqb (count (get_or ps i (beginning l))) 0) refl)
    accepted_step (render L samples outputs) e = render_step

    by_refusal : (c : Call) (b : Bool) → eqb (refusal l ps c) 0 ≡ b
        → let qs : List Past = cond b (made l ps c) ps in
        Good depth l n qs × (cond b (accepted (laid_at depth v ps) c) (laid_at depth v ps) ≡ laid_at depth v qs)
    by_refusal c true e = accepted_step c (eqb-true (refusal l ps c) 0 e)
    by_refusal c false e = (g, refl)

    pub one_step : (c : Call) → Good depth l n (step l ps c) × (after (laid_at depth v ps) c ≡ laid_at depth v (step l ps c))
    unfolding step after
    one_step c = rw (numbers_same c) (by_refusal c (eqb (refusal l ps c) 0) refl)
