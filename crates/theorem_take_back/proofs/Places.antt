-- The places of one source, at any depth: a direction more, the last one removed, one in place of all, and what is read; another row. Assumes nothing.
use Prim.Native.Nat.{ℕ, suc, ◌+◌, ◌-◌, ◌*◌, ◌≤◌, ◌<◌}
use mathlib.Core.Path.{◌≡◌, refl, sym, ap, ◌∙◌}
use mathlib.Core.List.{List, [], ◌∷◌, ◌++◌, append_assoc, flat_map}
use native.Mathlib.Nat.{add-zero, not-suc-le-zero}
use native.Mathlib.Omega.{arith}
use lib.ListN.{length, get_or, take, drop, replicate, length-append, length-replicate, get_or-eq_default}
use lib.Seq.{sets, ext_get_or, drop_at}
use lib.Ieee.{Float, nan}
use Rattle.lists.specs.Lists.{Each, but_last, filled}
use Rattle.lists.proofs.Each.{each_all, length_rows}
use Rattle.lists.proofs.Collect.{flat_map_snoc}
use Rattle.lists.proofs.Filled.{filled_none, length_filled, set_filled_at, take_filled}
use Rattle.float_order.specs.Values.{+0}
use Rattle.mix_block.specs.Limits.{row_places}
use Rattle.session_history.specs.History.{Direction}
use Rattle.theorem_take_back.specs.Laid.{numbers_of, numbers_in}
use Rattle.lists.proofs.Rows.{Wide, sets_all, sets_back, get_d_filled_any, rows_in_get_d}

-- ---- the last direction removed

pub but_last_length : {A : Type 0} (l : List A) → length (but_last l) ≡ length l - 1
unfolding but_last
but_last_length [] = refl
but_last_length (x ∷ []) = refl
but_last_length (x ∷ (y ∷ l)) = omega (arith, but_last_length (y ∷ l))

but_last_last : {A : Type 0} (l : List A) (d : A) → 1 ≤ length l → l ≡ but_last l ++ get_or l (length l - 1) d ∷ []
unfolding but_last
but_last_last [] d h = absurd (not-suc-le-zero h)
but_last_last (x ∷ []) d h = refl
but_last_last {A} (x ∷ (y ∷ l)) d h =
    let e : suc (suc (length l)) - 1 ≡ suc (suc (length l) - 1) = omega arith in
    rw e (ap (λ (r : List A). x ∷ r) (but_last_last (y ∷ l) d (omega arith)))

-- ---- numbers of directions, two each

two_wide : (ds : List Direction) → Each (Wide 2 numbers_of) ds
two_wide ds = each_all (Wide 2 numbers_of) (λ d. refl) ds

pub numbers_length : (ds : List Direction) → length (numbers_in ds) ≡ length ds * 2
unfolding numbers_in
numbers_length ds = length_rows 2 numbers_of ds (two_wide ds)

numbers_snoc : (ds : List Direction) (d : Direction) → numbers_in (ds ++ d ∷ []) ≡ numbers_in ds ++ numbers_of d
unfolding numbers_in
numbers_snoc ds d = flat_map_snoc numbers_of ds d

module _ (deep : ℕ) where
  abbrev pub places : List Direction → List Float
  places ds = filled (deep * 2) +0 (numbers_in ds)

  pub places_length : (ds : List Direction) → length ds ≤ deep → length (places ds) ≡ deep * 2
  places_length ds h = length_filled (deep * 2) +0 (numbers_in ds) (omega (arith, numbers_length ds))

  pub places_none : places [] ≡ replicate (deep * 2) +0
  unfolding numbers_in flat_map
  places_none = filled_none (deep * 2) +0

  -- one direction more
  pub places_push : (ds : List Direction) (d : Direction) → length ds < deep → sets (places ds) (length ds * 2) (d.azimuth ∷ d.elevation ∷ []) ≡ places (ds ++ d ∷ [])
  places_push ds d h =
      let l = numbers_in ds in
      let n = numbers_length ds in
      let one : length (l ++ d.azimuth ∷ []) ≡ suc (length ds * 2) = length-append l (d.azimuth ∷ []) ∙ omega arith in
      rw (set_filled_at (deep * 2) +0 l d.azimuth (omega arith) refl (sym n))
      (set_filled_at (deep * 2) +0 (l ++ d.azimuth ∷ []) d.elevation (omega arith) refl (sym one)
      ∙ ap (filled (deep * 2) +0) (append_assoc l (d.azimuth ∷ []) (d.elevation ∷ []) ∙ sym (numbers_snoc ds d)))

  -- the last one removed: its two places held +0 before it came
  pub places_pop : (ds : List Direction) → 1 ≤ length ds → length ds ≤ deep → sets (places ds) ((length ds - 1) * 2) (+0 ∷ +0 ∷ []) ≡ places (but_last ds)
  places_pop ds h g =
      let z : Direction = record { azimuth = +0; elevation = +0 } in
      let es = but_last ds in
      let d = get_or ds (length ds - 1) z in
      let k = length es * 2 in
      let few : length es ≡ length ds - 1 = but_last_length ds in
      let before : places ds ≡ sets (places es) k (d.azimuth ∷ d.elevation ∷ []) =
      ap places (but_last_last ds z h) ∙ sym (places_push es d (omega arith)) in
      let free : (j : ℕ) → k ≤ j → get_or (places es) j +0 ≡ +0 =
      λ j m. get_d_filled_any (deep * 2) +0 (numbers_in es) j ∙ get_or-eq_default (numbers_in es) +0 (omega (arith, numbers_length es)) in
      let back = rw (free k (omega arith), free (suc k) (omega arith)) at (sets_back (places es) k d.azimuth d.elevation +0) in
      ap (λ (j : ℕ). sets (places ds) (j * 2) (+0 ∷ +0 ∷ [])) (sym few) ∙ ap (λ (l : List Float). sets l k (+0 ∷ +0 ∷ [])) before ∙ back

  -- what is read of direction k
  pub places_at : (ds : List Direction) (z : Direction) (k : ℕ) → k < length ds
      → (get_or (places ds) (k * 2) nan ≡ (get_or ds k z).azimuth) × (get_or (places ds) (k * 2 + 1) nan ≡ (get_or ds k z).elevation)
  unfolding numbers_in
  places_at ds z k h =
      (rw (add-zero (k * 2)) at (rows_in_get_d 2 numbers_of (deep * 2) +0 ds z k 0 nan (two_wide ds) h (omega arith)), rows_in_get_d 2 numbers_of (deep * 2) +0 ds z k 1 nan (two_wide ds) h (omega arith))

  -- as many directions in equal places are equal
  pub places_same : (ds es : List Direction) → length ds ≡ length es → places ds ≡ places es → ds ≡ es
  places_same ds es e p =
      let z : Direction = record { azimuth = nan; elevation = nan } in
      ext_get_or z ds es e (λ i h.
      let a = places_at ds z i h in
      let b = places_at es z i (omega arith) in
      let az : (get_or ds i z).azimuth ≡ (get_or es i z).azimuth = sym a.0 ∙ ap (λ (l : List Float). get_or l (i * 2) nan) p ∙ b.0 in
      let el : (get_or ds i z).elevation ≡ (get_or es i z).elevation = sym a.1 ∙ ap (λ (l : List Float). get_or l (i * 2 + 1) nan) p ∙ b.1 in
      λ j. record { azimuth = az j; elevation = el j })

  -- one direction in place of all
  pub places_settle : (ds : List Direction) (d : Direction) → 1 ≤ length ds → length ds ≤ deep
      → sets (places ds) 0 (d.azimuth ∷ d.elevation ∷ replicate (deep * 2 - 2) +0) ≡ places (d ∷ [])
  unfolding numbers_in flat_map filled
  places_settle ds d h g =
      sets_all (places ds) (d.azimuth ∷ d.elevation ∷ replicate (deep * 2 - 2) +0)
      (omega (arith, places_length ds g, length-replicate (deep * 2 - 2) +0))

-- ---- a row

-- as many gains in equal places are equal
pub start_same : (r t : List Float) → length r ≡ length t → filled row_places +0 r ≡ filled row_places +0 t → r ≡ t
start_same r t e p = sym (take_filled row_places +0 r) ∙ ap (λ (l : List Float). take (length r) l) p ∙ ap (λ (k : ℕ). take k (filled row_places +0 t)) e ∙ take_filled row_places +0 t

-- another row in front of the unused places
pub start_store : (m : ℕ) (r t : List Float) → length r ≡ m → length t ≡ m → t ++ drop m (filled row_places +0 r) ≡ filled row_places +0 t
unfolding filled
start_store m r t e f = rw (drop_at r (replicate (row_places - length r) +0) m e, e, f)
