-- A record's parts, one laid behind another, are its bytes and floats, in front of what stood behind them. Assumes nothing.
use Prim.Native.Nat.{ℕ, ◌+◌}
use native.Mathlib.Omega.{arith}
use mathlib.Core.Path.{◌≡◌, refl, sym, ap, ◌∙◌}
use mathlib.Core.List.{List, [], ◌++◌, append-nil, append_assoc}
use lib.Ieee.{Float}
use lib.ListN.{length, take, drop, take-append-drop, drop_of_length-le}
use lib.Seq.{length-take-le, take_at}
use Rattle.layout_record.specs.declared.VbapPanner.{VbapPanner}
use Rattle.boundary_records.specs.Inner.Pasted.{pasted, Pasted}
use Rattle.boundary_records.specs.Places.{most_outputs, most_imaginary, head_places, pair_byte_places, slots_at, out_at, idx_at, idx_places, counts_of_nbrs_at, nbrs_at, nbr_places, record_byte_places, pair_float_places, dir_places, inv_at, inv_places, record_float_places}
use Rattle.boundary_records.specs.Records.{head_of, pair_bytes, pair_numbers, record_bytes, record_floats}
use Rattle.boundary_records.proofs.Pasted.{laid_behind, length_two, put_is, two_pasted}

-- the next part
next : {A : Type 0} (xs ys to : List A) {r : List A} (b n m : ℕ) → r ≡ xs ++ drop b to → length xs ≡ b → length ys ≡ n → b + n ≡ m
    → pasted r b ys n ≡ xs ++ ys ++ drop m to
next xs ys to b n m e h g k = ap (λ (l : List _). pasted l b ys n) e ∙ laid_behind xs ys to b n m h g k

module _ (p : VbapPanner) (to : List ℕ)
    (h : length (head_of p) ≡ head_places) (b : length (pair_bytes p.num_pairs p.pairs) ≡ pair_byte_places) (s : length p.slots ≡ most_outputs)
    (o : length p.pt_out ≡ most_outputs) (x : length p.idx ≡ idx_places) (c : length p.num_nbrs ≡ most_imaginary) (n : length p.imag_nbrs ≡ nbr_places)
  where
    l1 : List ℕ
    l1 = head_of p ++ pair_bytes p.num_pairs p.pairs

    long1 : length l1 ≡ slots_at
    unfolding l1
    long1 = length_two (head_of p) _ head_places pair_byte_places slots_at h b refl

    long2 : length (l1 ++ p.slots) ≡ out_at
    long2 = length_two l1 _ slots_at most_outputs out_at long1 s refl

    long3 : length (l1 ++ p.slots ++ p.pt_out) ≡ idx_at
    long3 = length_two (l1 ++ p.slots) _ out_at most_outputs idx_at long2 o refl

    long4 : length (l1 ++ p.slots ++ p.pt_out ++ p.idx) ≡ counts_of_nbrs_at
    long4 = length_two (l1 ++ p.slots ++ p.pt_out) _ idx_at idx_places counts_of_nbrs_at long3 x refl

    long5 : length (l1 ++ p.slots ++ p.pt_out ++ p.idx ++ p.num_nbrs) ≡ nbrs_at
    long5 = length_two (l1 ++ p.slots ++ p.pt_out ++ p.idx) _ counts_of_nbrs_at most_imaginary nbrs_at long4 c refl

    pub length_bytes : length (record_bytes p) ≡ record_byte_places
    unfolding record_bytes l1
    length_bytes = length_two (l1 ++ p.slots ++ p.pt_out ++ p.idx ++ p.num_nbrs) _ nbrs_at nbr_places record_byte_places long5 n refl

    pub laid_bytes : pasted (pasted (pasted (pasted (pasted (pasted (pasted to 0 (head_of p) head_places) head_places (pair_bytes p.num_pairs p.pairs) pair_byte_places) slots_at p.slots most_outputs) out_at p.pt_out most_outputs) idx_at p.idx idx_places) counts_of_nbrs_at p.num_nbrs most_imaginary) nbrs_at p.imag_nbrs nbr_places
        ≡ record_bytes p ++ drop record_byte_places to
    unfolding record_bytes l1
    laid_bytes =
        next (l1 ++ p.slots ++ p.pt_out ++ p.idx ++ p.num_nbrs) _ to nbrs_at nbr_places record_byte_places
        (next (l1 ++ p.slots ++ p.pt_out ++ p.idx) _ to counts_of_nbrs_at most_imaginary nbrs_at
        (next (l1 ++ p.slots ++ p.pt_out) _ to idx_at idx_places counts_of_nbrs_at
        (next (l1 ++ p.slots) _ to out_at most_outputs idx_at
        (next l1 _ to slots_at most_outputs out_at
        (next (head_of p) _ to head_places pair_byte_places slots_at (next [] (head_of p) to 0 head_places head_places refl refl h refl) h b refl) long1 s refl)
        long2 o refl)
        long3 x refl)
        long4 c refl)
        long5 n refl

module _ (p : VbapPanner) (to : List Float)
    (b : length (pair_numbers p.num_pairs p.pairs) ≡ pair_float_places) (d : length p.pt_dir ≡ dir_places) (v : length p.inv ≡ inv_places)
  where
    long6 : length (pair_numbers p.num_pairs p.pairs ++ p.pt_dir) ≡ inv_at
    long6 = length_two (pair_numbers p.num_pairs p.pairs) _ pair_float_places dir_places inv_at b d refl

    pub length_floats : length (record_floats p) ≡ record_float_places
    unfolding record_floats
    length_floats = length_two (pair_numbers p.num_pairs p.pairs ++ p.pt_dir) _ inv_at inv_places record_float_places long6 v refl

    pub laid_floats : pasted (pasted (pasted to 0 (pair_numbers p.num_pairs p.pairs) pair_float_places) pair_float_places p.pt_dir dir_places) inv_at p.inv inv_places ≡ record_floats p ++ drop record_float_places to
    unfolding record_floats
    laid_floats =
        next (pair_numbers p.num_pairs p.pairs ++ p.pt_dir) _ to inv_at inv_places record_float_places
        (next (pair_numbers p.num_pairs p.pairs) _ to pair_float_places dir_places inv_at (next [] _ to 0 pair_float_places pair_float_places refl refl b refl) b d refl)
        long6 v refl

-- ---- what the copies leave

pub out_bytes : (p : VbapPanner) (to : List ℕ) {head pb b1 b2 : List ℕ} → head ≡ head_of p → pb ≡ pair_bytes p.num_pairs p.pairs
    → (length head ≡ head_places) × (length pb ≡ pair_byte_places) × (length p.slots ≡ most_outputs)
    → (length p.pt_out ≡ most_outputs) × (length p.idx ≡ idx_places) × (length p.num_nbrs ≡ most_imaginary) × (length p.imag_nbrs ≡ nbr_places)
    → b1 ≡ pasted (pasted (pasted to 0 head head_places) head_places pb pair_byte_places) slots_at p.slots most_outputs
    → b2 ≡ pasted (pasted (pasted (pasted b1 out_at p.pt_out most_outputs) idx_at p.idx idx_places) counts_of_nbrs_at p.num_nbrs most_imaginary) nbrs_at p.imag_nbrs nbr_places
    → (b2 ≡ record_bytes p ++ drop record_byte_places to) × (length (record_bytes p) ≡ record_byte_places)
out_bytes p to {head} {pb} {b1} {b2} e f l m g1 g2 =
    let h : length (head_of p) ≡ head_places = ap length (sym e) ∙ l.0 in
    let k : length (pair_bytes p.num_pairs p.pairs) ≡ pair_byte_places = ap length (sym f) ∙ l.1 in (
      g2
          ∙ ap (λ (x : List ℕ). pasted (pasted (pasted (pasted x out_at p.pt_out most_outputs) idx_at p.idx idx_places) counts_of_nbrs_at p.num_nbrs most_imaginary) nbrs_at p.imag_nbrs nbr_places)
          (g1
          ∙ ap (λ (x : List ℕ). pasted (pasted (pasted to 0 x head_places) head_places pb pair_byte_places) slots_at p.slots most_outputs) e
          ∙ ap (λ (x : List ℕ). pasted (pasted (pasted to 0 (head_of p) head_places) head_places x pair_byte_places) slots_at p.slots most_outputs) f)
          ∙ laid_bytes p to h k l.2 m.0 m.1 m.2 m.3,
      length_bytes p to h k l.2 m.0 m.1 m.2 m.3,
    )

pub out_floats : (p : VbapPanner) (to : List Float) {pn f1 : List Float} → pn ≡ pair_numbers p.num_pairs p.pairs
    → (length pn ≡ pair_float_places) × (length p.pt_dir ≡ dir_places) × (length p.inv ≡ inv_places)
    → f1 ≡ pasted (pasted (pasted to 0 pn pair_float_places) pair_float_places p.pt_dir dir_places) inv_at p.inv inv_places
    → (f1 ≡ record_floats p ++ drop record_float_places to) × (length (record_floats p) ≡ record_float_places)
out_floats p to {pn} {f1} e l g =
    let h : length (pair_numbers p.num_pairs p.pairs) ≡ pair_float_places = ap length (sym e) ∙ l.0 in (
      g
          ∙ ap (λ (x : List Float). pasted (pasted (pasted to 0 x pair_float_places) pair_float_places p.pt_dir dir_places) inv_at p.inv inv_places) e
          ∙ laid_floats p to h l.1 l.2,
      length_floats p to h l.1 l.2,
    )

-- ---- the session's own, behind the record's

module _ {A : Type 0} (to xs ys : List A) (b n m : ℕ) (hx : length xs ≡ n) (hy : length ys ≡ m) (hk : length to ≡ b + n + m) where
  pub laid_own : {r1 r2 : List A} → Pasted to b xs (length xs) r1 → Pasted r1 (b + n) ys (length ys) r2 → r2 ≡ take b to ++ (xs ++ ys)
  laid_own e1 e2 =
      let front : length (take b to) ≡ b = length-take-le b to (omega arith) in
      two_pasted (put_is e1 hx) (put_is e2 hy)
      ∙ next (take b to ++ xs) ys to (b + n) m (b + n + m) (next (take b to) xs to b n (b + n) (sym (take-append-drop b to)) front hx refl)
      (length_two (take b to) xs b n (b + n) front hx refl) hy refl
      ∙ ap (λ (l : List A). take b to ++ xs ++ ys ++ l) (drop_of_length-le to {i = b + n + m} (omega arith))
      ∙ append-nil (take b to ++ xs ++ ys)
      ∙ append_assoc (take b to) xs ys

-- the places in front are the record's
pub whole_of : {A : Type 0} (xs ys to : List A) {r1 r2 : List A} (b : ℕ) → length xs ≡ b → r1 ≡ xs ++ drop b to → r2 ≡ take b r1 ++ ys → r2 ≡ xs ++ ys
whole_of {A} xs ys to b h e g = g ∙ ap (λ (l : List A). take b l ++ ys) e ∙ ap (λ (l : List A). l ++ ys) (take_at xs (drop b to) b h)

-- nothing stands behind them
pub laid_all : {A : Type 0} (xs to : List A) {r : List A} (b : ℕ) → length to ≡ b → r ≡ xs ++ drop b to → r ≡ xs
laid_all {A} xs to b h e = e ∙ ap (λ (l : List A). xs ++ l) (drop_of_length-le to {i = b} (omega arith)) ∙ append-nil xs
