-- Laws of a loop that stores at each place what it makes of the sample there: one turn more, turns after turns, eight turns at once, and what all turns make. Each goes by the count of turns. Assumes nothing.
use Prim.Native.Nat.{ℕ, zero, suc, ◌+◌, ◌-◌, ◌≤◌, ◌<◌, min, max}
use mathlib.Core.Path.{◌≡◌, refl, sym, ap, ◌∙◌}
use mathlib.Core.Bool.{true, false}
use mathlib.Core.List.{List, [], ◌∷◌, ◌++◌, map, foldl, foldl-append, append-nil}
use native.Mathlib.Nat.{add-zero}
use native.Mathlib.Numerals.{add-one}
use native.Mathlib.Omega.{arith}
use lib.ListN.{length, get_or, set, take, drop}
use Rattle.std.proofs.lemmas.List.{length-take, length-take-le, get_or-take, drop-take}
use lib.Seq.{drop-cons, set_at, get_or_at, append_snoc, get_or-set_other}
use lib.Ieee.{Float, nan, binary32, add, sub, mul, div, eq}
use Rattle.lists.specs.Lists.{from, range, between}
use Rattle.mix_ramp.specs.Ramp.{ramp_gain, ramp_add_of}
use Rattle.mix_eights.specs.Inner.Eights.{sample_of}
use Rattle.mix_ramp.specs.Inner.Turns.{steady_turn, ramp_turn}
use Rattle.lists.proofs.Ranges.{range_none, range_snoc, between_none, between_snoc, between_append, range_between, map_range_snoc, length_map_range, get_d_map_range, same_places}
use Rattle.lists.proofs.Collect.{foldl_snoc}
use Rattle.float_order.specs.Values.{count32}
use Rattle.mix_ramp.proofs.Counts.{counts_from}

-- ---- any turn

module _ (t : List Float → ℕ → List Float) (l : List Float) where
  pub turns_none : foldl t l (range 0) ≡ l
  turns_none = rw range_none

  pub turns_more : (i : ℕ) {m : List Float} → m ≡ foldl t l (range i) → t m i ≡ foldl t l (range (i + 1))
  turns_more i e = rw (range_snoc i, foldl_snoc t l (range i) i, e)

  pub turns_more_from : (a i : ℕ) {m : List Float} → a ≤ i → m ≡ foldl t l (between a i) → t m i ≡ foldl t l (between a (i + 1))
  turns_more_from a i h e = rw (between_snoc a i h, foldl_snoc t l (between a i) i, e)

  pub turns_after : (a b : ℕ) {m : List Float} → a ≤ b → m ≡ foldl t l (range a) → foldl t m (between a b) ≡ foldl t l (range b)
  turns_after a b h e =
      rw (e, range_between a, range_between b, between_append 0 a b (omega arith) h)
      (sym (foldl-append t l (between 0 a) (between a b)))

-- ---- a turn that stores f of the place and of the sample there

abbrev turn_by : (ℕ → Float → Float) → List Float → ℕ → List Float
turn_by f l i = set l i (f i (get_or l i nan))

module _ (f : ℕ → Float → Float) where
  later_from : (l : List Float) (a n j : ℕ) → a + n ≤ j → get_or (foldl (turn_by f) l (from a n)) j nan ≡ get_or l j nan
  unfolding from
  later_from l a zero j h = refl
  later_from l a (suc n) j h =
      later_from (turn_by f l a) (suc a) n j (omega arith) ∙ get_or-set_other l a j (f a (get_or l a nan)) nan (λ e. omega arith)

  later : (l : List Float) (a b j : ℕ) → a ≤ b → b ≤ j → get_or (foldl (turn_by f) l (between a b)) j nan ≡ get_or l j nan
  unfolding between
  later l a b j g h = later_from l a (b - a) j (omega arith)

  -- n places from i on, read before any of them is stored
  pub turns_at_once : (l v : List Float) (i n : ℕ) → ((k : ℕ) → k < n → get_or v k nan ≡ f (i + k) (get_or l (i + k) nan))
      → foldl (λ m k. set m (i + k) (get_or v k nan)) l (range n) ≡ foldl (turn_by f) l (between i (i + n))
  turns_at_once l v i zero same = rw (range_none, between_none i (i + 0) (omega arith))
  turns_at_once l v i (suc n) same =
      let stores : List Float → ℕ → List Float = λ m k. set m (i + k) (get_or v k nan) in
      let e : i + suc n ≡ i + n + 1 = omega arith in
      rw (← add-one n, range_snoc n, foldl_snoc stores l (range n) n, turns_at_once l v i n (λ k h. same k (omega arith)))
      (rw (add-one n, e, between_snoc i (i + n) (omega arith), foldl_snoc (turn_by f) l (between i (i + n)) (i + n), later l i (i + n) (i + n) (omega arith) (omega arith), same n (omega arith)) refl)

  -- all turns: what f makes of each sample, then the samples that no turn reached
  pub turns_all : (l : List Float) (n : ℕ) → n ≤ length l → foldl (turn_by f) l (range n) ≡ map (λ i. f i (get_or l i nan)) (range n) ++ drop n l
  turns_all l zero h = rw range_none
  turns_all l (suc n) h =
      let made : List Float = map (λ i. f i (get_or l i nan)) (range n) in
      let long : length made ≡ n = length_map_range (λ i. f i (get_or l i nan)) n in
      let before : foldl (turn_by f) l (range n) ≡ made ++ get_or l n nan ∷ drop (suc n) l
      = turns_all l n (omega arith) ∙ ap (λ (r : List Float). made ++ r) (drop-cons l n nan (omega arith)) in
      rw (← add-one n)
      (sym (turns_more (turn_by f) l n refl)
      ∙ ap (λ (m : List Float). turn_by f m n) before
      ∙ rw (get_or_at made (get_or l n nan) (drop (suc n) l) nan n long, set_at made (get_or l n nan) (drop (suc n) l) (f n (get_or l n nan)) n long)
      (rw (map_range_snoc (λ i. f i (get_or l i nan)) n, add-one n) (sym (append_snoc made (f n (get_or l n nan)) (drop (suc n) l)))))

-- ---- the turns of the ramp

module _ (src dst : List Float) (g0 : Float) where
  -- eight samples, loaded, mixed at their counts and stored, are eight turns
  pub eight_turns : (step : Float) (i : ℕ) {s d c v : List Float}
      → s ≡ map (λ k. get_or src (i + k) nan) (range 8) → d ≡ map (λ k. get_or dst (i + k) nan) (range 8) → c ≡ counts_from i
      → v ≡ map (λ k. sample_of (get_or d k nan) (get_or s k nan) g0 step (get_or c k nan)) (range 8)
      → foldl (λ m k. set m (i + k) (get_or v k nan)) dst (range 8) ≡ foldl (ramp_turn src g0 step) dst (between i (i + 8))
  unfolding ramp_turn
  eight_turns step i {s} {d} {c} {v} es ed ec ev =
      turns_at_once (λ j x. sample_of x (get_or src j nan) g0 step (count32 (j + 1))) dst v i 8
      (λ k h.
      ap (λ (l : List Float). get_or l k nan) ev
      ∙ get_d_map_range (λ j. sample_of (get_or d j nan) (get_or s j nan) g0 step (get_or c j nan)) 8 k nan h
      ∙ rw (es, ed, ec)
      (rw (
        get_d_map_range (λ j. get_or src (i + j) nan) 8 k nan h,
        get_d_map_range (λ j. get_or dst (i + j) nan) 8 k nan h,
        get_d_map_range (λ j. count32 (i + j + 1)) 8 k nan h,
      ) refl))

  module _ (g1 : Float) (n : ℕ) (few : n ≡ min (length dst) (length src)) where
    pub steady_all : eq g0 g1 ≡ true → foldl (steady_turn src g1) dst (range n) ≡ ramp_add_of dst src g0 g1
    unfolding steady_turn ramp_add_of ramp_gain
    steady_all e =
        rw (← few, e)
        (turns_all (λ i x. add binary32 x (mul binary32 (get_or src i nan) g1)) dst n (omega arith))

    pub ramp_all : {count : Float} → count ≡ count32 (max n 1) → eq g0 g1 ≡ false
        → foldl (ramp_turn src g0 (div binary32 (sub binary32 g1 g0) count)) dst (range n) ≡ ramp_add_of dst src g0 g1
    unfolding ramp_turn sample_of ramp_add_of ramp_gain
    ramp_all {count} w e =
        let step : Float = div binary32 (sub binary32 g1 g0) count in
        rw (← few, e, ← w)
        (turns_all (λ i x. add binary32 x (mul binary32 (get_or src i nan) (add binary32 g0 (mul binary32 step (count32 (i + 1)))))) dst n (omega arith))

-- ---- the ramp of the first n samples of both, and the rest of dst

module _ (src dst : List Float) (g0 g1 : Float) (n : ℕ) (few : n ≡ min (length dst) (length src)) where
  long : length (take n dst) ≡ n
  long = length-take-le n dst (omega arith)

  few_taken : n ≡ min (length (take n dst)) (length (take n src))
  few_taken = simp length-take (omega arith)

  taken_same : ramp_add_of (take n dst) (take n src) g0 g1 ++ drop n dst ≡ ramp_add_of dst src g0 g1
  unfolding ramp_add_of
  taken_same =
      let none : drop n (take n dst) ≡ [] = rw add-zero at (drop-take n 0 dst) in
      rw (← few_taken, ← few, none, append-nil)
      (ap (λ (l : List Float). l ++ drop n dst)
      (same_places
      (λ i. add binary32 (get_or (take n dst) i nan) (mul binary32 (get_or (take n src) i nan) (ramp_gain n g0 g1 i)))
      (λ i. add binary32 (get_or dst i nan) (mul binary32 (get_or src i nan) (ramp_gain n g0 g1 i)))
      n (λ i h. rw (get_or-take n dst i nan h, get_or-take n src i nan h))))

  pub steady_taken : eq g0 g1 ≡ true → foldl (steady_turn (take n src) g1) (take n dst) (range (length (take n dst))) ++ drop n dst ≡ ramp_add_of dst src g0 g1
  steady_taken e =
      ap (λ (k : ℕ). foldl (steady_turn (take n src) g1) (take n dst) (range k) ++ drop n dst) long
      ∙ ap (λ (l : List Float). l ++ drop n dst) (steady_all (take n src) (take n dst) g0 g1 n few_taken e)
      ∙ taken_same

  pub ramp_taken : {count : Float} → count ≡ count32 (max n 1) → eq g0 g1 ≡ false
      → foldl (ramp_turn (take n src) g0 (div binary32 (sub binary32 g1 g0) count)) (take n dst) (range (length (take n dst))) ++ drop n dst ≡ ramp_add_of dst src g0 g1
  ramp_taken {count} w e =
      ap (λ (k : ℕ). foldl (ramp_turn (take n src) g0 (div binary32 (sub binary32 g1 g0) count)) (take n dst) (range k) ++ drop n dst) long
      ∙ ap (λ (l : List Float). l ++ drop n dst) (ramp_all (take n src) (take n dst) g0 g1 n few_taken w e)
      ∙ taken_same
