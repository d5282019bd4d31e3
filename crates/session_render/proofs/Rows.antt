-- The target of a source by whether a direction stands, and the start rows after a render: row after row, each its target with the old places after it. Assumes nothing.
use Prim.Native.Nat.{ℕ, zero, suc, ◌+◌, ◌-◌, ◌*◌, ◌≤◌, ◌<◌, min}
use mathlib.Core.Path.{◌≡◌, refl, sym, ap, subst, ◌∙◌}
use mathlib.Core.Bool.{Bool, true, false, cond}
use mathlib.Core.List.{List, [], ◌∷◌, ◌++◌, flat_map, append_assoc, append-nil}
use native.Mathlib.Nat.{suc-mul, zero-mul, add-zero}
use native.Mathlib.Numerals.{add-one}
use native.Mathlib.Omega.{arith}
use borrow.Author.Tests.{lt-ltb, le-ltb, eq-eqb, ne_eqb, ltb-true, ltb-false}
use borrow.Rule.Slice.PartMut.{put_mid, mid_of}
use lib.Dec.{eqb, ltb}
use lib.ListN.{length, get_or, take, drop, replicate, length-append, length-drop, take-append-drop, drop_of_length-le, get_or-append}
use lib.Seq.{take_at, drop_at, drop-drop, drop-append-le, length-take-le}
use lib.Ieee.{Float, nan}
use Rattle.lists.specs.Lists.{range, part, every}
use Rattle.lists.proofs.Collect.{flat_map_snoc}
use Rattle.lists.proofs.Parts.{length_part, get_d_row}
use Rattle.lists.proofs.Ranges.{range_none, range_snoc, length_range, get_d_range}
use Rattle.lists.proofs.Tests.{every_snoc}
use Rattle.float_order.specs.Values.{+0}
use Rattle.layout_record.specs.declared.VbapPanner.{VbapPanner}
use Rattle.layout_record.specs.Panner.{layout_in}
use Rattle.layout_record.specs.Malformed.{malformed_of}
use Rattle.row_gains.specs.Gains.{row_of, gains_of, gains_buffer}
use Rattle.mix_block.specs.Limits.{most_sources, row_places}
use Rattle.session_calls.specs.Session.{standing_count, at, start_row, target_row, target, new_start}
use Rattle.session_calls.specs.declared.Session.{Session}

-- ---- the target of a source

-- `gains` on as many places as there are outputs leaves the row and nothing else
pub whole_row : (v : VbapPanner) (az el : Float) (buffer : List Float) → malformed_of v ≡ false → length buffer ≡ v.num_outputs
    → gains_buffer v az el buffer ≡ row_of (layout_in v) v.num_outputs az el
unfolding gains_buffer gains_of layout_in
whole_row v az el buffer m h =
    let n : min v.num_outputs (length buffer) ≡ v.num_outputs = omega arith in
    let e : drop v.num_outputs buffer ≡ [] = drop_of_length-le buffer {i = v.num_outputs} (omega arith) in
    ap (λ (b : Bool). cond b buffer (gains_of (layout_in v) az el buffer)) m
    ∙ ap (λ (k : ℕ). row_of (layout_in v) k az el ++ drop k buffer) n
    ∙ ap (λ (r : List Float). row_of (layout_in v) v.num_outputs az el ++ r) e
    ∙ append-nil _

-- by whether a direction stands
pub row_none : (v : VbapPanner) (n : ℕ) (az el : Float) → n ≡ 0 → replicate v.num_outputs +0 ≡ target_row v n az el
unfolding target_row
row_none v n az el h = rw (eq-eqb n 0 h)

pub row_some : (v : VbapPanner) (n : ℕ) (az el : Float) → (n ≡ 0 → ⊥) → row_of (layout_in v) v.num_outputs az el ≡ target_row v n az el
unfolding target_row
row_some v n az el h = rw (ne_eqb n 0 h)

module _ (s : Session) (i : ℕ) where
  pub target_at : (k : ℕ) → k ≡ standing_count s i - 1
      → target_row s.panner (standing_count s i) (get_or s.standing (at i k) nan) (get_or s.standing (at i k + 1) nan) ≡ target s i
  unfolding target
  target_at k e = ap (λ (k : ℕ). target_row s.panner (standing_count s i) (get_or s.standing (at i k) nan) (get_or s.standing (at i k + 1) nan)) e

  pub target_none : standing_count s i ≡ 0 → replicate s.panner.num_outputs +0 ≡ target s i
  unfolding target
  target_none h = row_none s.panner (standing_count s i) _ _ h

  pub target_last : (k : ℕ) → k + 1 ≡ standing_count s i
      → row_of (layout_in s.panner) s.panner.num_outputs (get_or s.standing (at i k) nan) (get_or s.standing (at i k + 1) nan) ≡ target s i
  unfolding target
  target_last k e =
      row_some s.panner (standing_count s i) _ _ (λ z. absurd (not-zero k (e ∙ z))) ∙ target_at k (omega arith)
    where
      not-zero : (k : ℕ) → k + 1 ≡ 0 → ⊥
      not-zero k e = omega arith

  start_new : i < s.sources → new_start s i ≡ target s i ++ drop s.panner.num_outputs (start_row s i)
  unfolding new_start
  start_new h = rw (lt-ltb i s.sources h)

  start_old : s.sources ≤ i → new_start s i ≡ start_row s i
  unfolding new_start
  start_old h = rw (le-ltb i s.sources h)

-- ---- rows of one width, made anew one after the other

-- the first i rows by f, the others as they lie in l
pub record Renewed {A : Type 0} (w : ℕ) (l : List A) (f : ℕ → List A) (i : ℕ) (m : List A) : Type 0 where
  pub holds : m ≡ flat_map f (range i) ++ drop (i * w) l
  pub long : length (flat_map f (range i)) ≡ i * w

module _ {A : Type 0} (w : ℕ) (l : List A) (f : ℕ → List A) where
  pub renewed_none : Renewed w l f 0 l
  unfolding flat_map
  renewed_none =
      let e : flat_map f (range 0) ≡ [] = ap (flat_map f) range_none in
      record { holds = rw (e, zero-mul w) (drop_0 l); long = rw (e, zero-mul w) }
    where
      drop_0 : (l : List A) → l ≡ drop 0 l
      drop_0 [] = refl
      drop_0 (a ∷ l) = refl

  -- a row behind those that are made: its own places, then the rows after it
  rest : (i : ℕ) → drop (i * w) l ≡ part w l i ++ drop ((i + 1) * w) l
  unfolding part
  rest i =
      let e : (i + 1) * w ≡ i * w + w = ap (λ (k : ℕ). k * w) (add-one i) ∙ suc-mul i w in
      sym (take-append-drop w (drop (i * w) l)) ∙ ap (λ (r : List A). part w l i ++ r) (drop-drop w (i * w) l ∙ ap (λ (k : ℕ). drop k l) (sym e))

  -- a part v in front of row i
  renewed_more : (i n : ℕ) (v : List A) {m : List A} → f i ≡ v ++ drop n (part w l i) → length v ≡ n → n ≤ w → i * w + w ≤ length l
      → Renewed w l f i m → Renewed w l f (i + 1) (put_mid (i * w) n m v)
  renewed_more i n v {m} e g h k r =
      let before : List A = flat_map f (range i) in
      let after : List A = drop ((i + 1) * w) l in
      let wide : length (part w l i) ≡ w = length_part w l i k in
      let next : flat_map f (range (i + 1)) ≡ before ++ (v ++ drop n (part w l i)) = ap (flat_map f) (range_snoc i) ∙ flat_map_snoc f (range i) i ∙ ap (λ (x : List A). before ++ x) e in
      let front : take (i * w) m ≡ before = ap (take (i * w)) r.holds ∙ take_at before (drop (i * w) l) (i * w) r.long in
      let back : drop (i * w) m ≡ part w l i ++ after = ap (drop (i * w)) r.holds ∙ drop_at before (drop (i * w) l) (i * w) r.long ∙ rest i in
      let over : drop n (drop (i * w) m) ≡ drop n (part w l i) ++ after = ap (drop n) back ∙ drop-append-le n (part w l i) after (omega arith) in
      let size : (i + 1) * w ≡ i * w + w = ap (λ (k : ℕ). k * w) (add-one i) ∙ suc-mul i w in
      record {
        holds =
            rw (front, over, next)
            (ap (λ (x : List A). before ++ x) (sym (append_assoc v (drop n (part w l i)) after)) ∙ sym (append_assoc before (v ++ drop n (part w l i)) after));
        long =
            ap length next
            ∙ omega
            (arith, length-append before (v ++ drop n (part w l i)), length-append v (drop n (part w l i)), length-drop n (part w l i), r.long);
      }

  -- a row that stays
  renewed_same : (i : ℕ) {m : List A} → f i ≡ part w l i → i * w + w ≤ length l → Renewed w l f i m → Renewed w l f (i + 1) m
  renewed_same i {m} e k r =
      let before : List A = flat_map f (range i) in
      let next : flat_map f (range (i + 1)) ≡ before ++ part w l i = ap (flat_map f) (range_snoc i) ∙ flat_map_snoc f (range i) i ∙ ap (λ (x : List A). before ++ x) e in
      let size : (i + 1) * w ≡ i * w + w = ap (λ (k : ℕ). k * w) (add-one i) ∙ suc-mul i w in
      record {
        holds = r.holds ∙ ap (λ (x : List A). before ++ x) (rest i) ∙ sym (ap (λ (x : List A). x ++ drop ((i + 1) * w) l) next ∙ append_assoc before (part w l i) (drop ((i + 1) * w) l));
        long = ap length next ∙ omega (arith, length-append before (part w l i), length_part w l i k, r.long);
      }

  renewed_rest : (k i : ℕ) {m : List A} → ((j : ℕ) → i ≤ j → f j ≡ part w l j) → (i + k) * w ≤ length l → Renewed w l f i m → Renewed w l f (i + k) m
  renewed_rest zero i e h r = rw (add-zero i) r
  renewed_rest (suc k) i {m} e h r =
      let g : i + suc k ≡ suc (i + k) = omega arith in
      let size : (i + suc k) * w ≡ (i + k) * w + w = ap (λ (k : ℕ). k * w) g ∙ suc-mul (i + k) w in
      subst (λ (n : ℕ). Renewed w l f n m) (sym (g ∙ sym (add-one (i + k)))) (renewed_same (i + k) (e (i + k) (omega arith)) (omega arith) (renewed_rest k i e (omega arith) r))

  renewed_all : (n : ℕ) {m : List A} → length l ≡ n * w → Renewed w l f n m → m ≡ flat_map f (range n)
  renewed_all n e r =
      let none : drop (n * w) l ≡ [] = drop_of_length-le l {i = n * w} (omega arith) in
      r.holds ∙ ap (λ (x : List A). flat_map f (range n) ++ x) none ∙ append-nil _

-- the part from a on, of k elements
pub part_long : {A : Type 0} (m : List A) (a k : ℕ) → a + k ≤ length m → length (mid_of a (a + k - a) m) ≡ k
part_long m a k h =
    let e : a + k - a ≡ k = omega arith in
    rw e (length-take-le k (drop a m) (omega (arith, length-drop a m)))

-- ---- the start rows, renewed

module _ (s : Session) (all : length s.starts ≡ most_sources * row_places) where
  -- the target of source i, written in front of its row
  pub row_made : (i : ℕ) (v : List Float) {m : List Float} → s.panner.num_outputs ≤ row_places → i < most_sources → i < s.sources → v ≡ target s i → length v ≡ s.panner.num_outputs
      → Renewed row_places s.starts (new_start s) i m
      → Renewed row_places s.starts (new_start s) (i + 1) (put_mid (i * row_places) (i * row_places + s.panner.num_outputs - i * row_places) m v)
  unfolding start_row
  row_made i v few g h e k r =
      let size : i * row_places + s.panner.num_outputs - i * row_places ≡ s.panner.num_outputs = omega arith in
      let made : new_start s i ≡ v ++ drop s.panner.num_outputs (part row_places s.starts i) = rw e (start_new s i h) in
      rw size (renewed_more row_places s.starts (new_start s) i s.panner.num_outputs v made k few (omega arith) r)

  -- the rows of no source stay
  pub rows_made : (i : ℕ) {m : List Float} → s.sources ≤ i → i ≤ most_sources → Renewed row_places s.starts (new_start s) i m → m ≡ flat_map (new_start s) (range most_sources)
  unfolding start_row
  rows_made i {m} h g r =
      let e : i + (most_sources - i) ≡ most_sources = omega arith in
      let stay : (j : ℕ) → i ≤ j → new_start s j ≡ part row_places s.starts j = λ j k. start_old s j (omega arith) in
      renewed_all row_places s.starts (new_start s) most_sources all
      (subst (λ (n : ℕ). Renewed row_places s.starts (new_start s) n m) e (renewed_rest row_places s.starts (new_start s) (most_sources - i) i stay (omega arith) r))

-- ---- a gain of a new start row

every_range : (f : ℕ → Bool) (n : ℕ) → ((j : ℕ) → j < n → f j ≡ true) → every f (range n) ≡ true
unfolding every
every_range f zero h = ap (every f) range_none
every_range f (suc n) h =
    ap (λ (k : ℕ). every f (range k)) (sym (add-one n)) ∙ ap (every f) (range_snoc n) ∙ every_snoc f (range n) n
    ∙ rw (every_range f n (λ j g. h j (omega arith)), h n (omega arith))

get_d_rows : {A : Type 0} (w : ℕ) (f : ℕ → List A) (n i o : ℕ) (d : A) → ((j : ℕ) → j < n → length (f j) ≡ w) → i < n → o < w
    → get_or (flat_map f (range n)) (i * w + o) d ≡ get_or (f i) o d
get_d_rows {A} w f n i o d e h g =
    let all : every (λ j. eqb (length (f j)) w) (range n) ≡ true = every_range (λ j. eqb (length (f j)) w) n (λ j k. eq-eqb (length (f j)) w (e j k)) in
    let long : i < length (range n) = omega (arith, length_range n) in
    ap (λ (x : List A). get_or x (i * w + o) d) (sym (append-nil (flat_map f (range n))))
    ∙ get_d_row w f (range n) [] i o 0 d all long g
    ∙ ap (λ (k : ℕ). get_or (f k) o d) (get_d_range n i 0 h)

-- what holds of each below i, and of i
pub below_more : {P : ℕ → Type 0} (i : ℕ) → ((j : ℕ) → j < i → P j) → P i → (j : ℕ) → j < i + 1 → P j
below_more {P} i h p j g = by (ltb j i) refl
  where
    by : (b : Bool) → ltb j i ≡ b → P j
    by true e = h j (ltb-true j i e)
    by false e =
        let k : i ≤ j = ltb-false j i e in
        let same : i ≡ j = omega arith in
        subst P same p

module _ (s : Session) (few : s.panner.num_outputs ≤ row_places) (all : length s.starts ≡ most_sources * row_places) where
  new_start_long : ((j : ℕ) → j < s.sources → length (target s j) ≡ s.panner.num_outputs) → (j : ℕ) → j < most_sources → length (new_start s j) ≡ row_places
  unfolding start_row
  new_start_long long j h = by (ltb j s.sources) refl
    where
      row : length (start_row s j) ≡ row_places
      row = length_part row_places s.starts j (omega arith)

      by : (b : Bool) → ltb j s.sources ≡ b → length (new_start s j) ≡ row_places
      by true e =
          ap length (start_new s j (ltb-true _ _ e))
          ∙ omega (arith, length-append (target s j) (drop s.panner.num_outputs (start_row s j)), length-drop s.panner.num_outputs (start_row s j), long j (ltb-true _ _ e), row)
      by false e = ap length (start_old s j (ltb-false _ _ e)) ∙ row

  pub get_d_new : ((j : ℕ) → j < s.sources → length (target s j) ≡ s.panner.num_outputs) → (i o : ℕ) → i < most_sources → i < s.sources → o < s.panner.num_outputs
      → get_or (flat_map (new_start s) (range most_sources)) (i * row_places + o) nan ≡ get_or (target s i) o nan
  get_d_new long i o g h k =
      get_d_rows row_places (new_start s) most_sources i o nan (new_start_long long) g (omega arith)
      ∙ ap (λ (x : List Float). get_or x o nan) (start_new s i h)
      ∙ get_or-append (target s i) _ nan o (omega (arith, long i h))
