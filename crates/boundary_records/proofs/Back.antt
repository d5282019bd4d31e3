-- A record and a session that were handed out are taken in as they were. Assumes nothing.
use Prim.Native.Nat.{ℕ, zero, suc, ◌+◌, ◌*◌, ◌≤◌, ◌<◌, min}
use mathlib.Core.Path.{◌≡◌, refl, sym, ap, ◌∙◌}
use mathlib.Core.Bool.{Bool, true, false, cond}
use mathlib.Core.List.{List, [], ◌∷◌, ◌++◌, append_assoc, map, flat_map}
use native.Mathlib.Nat.{not-suc-le-zero}
use native.Mathlib.Omega.{arith}
use borrow.Author.Tests.{eq-eqb, eqb-true, leb-true}
use lib.Dec.{eqb, leb}
use lib.Ieee.{Float, nan}
use lib.ListN.{length, get_or, take, drop, length-take, take-append-drop, get_or-append, length-map}
use lib.Seq.{length-take-le, get_or-append-add, get_or_at, append_snoc, ext_get_or}
use Rattle.lists.specs.Lists.{range, every, filled}
use Rattle.lists.proofs.Each.{each_all, each_every, each_imply, length_rows}
use Rattle.layout_neighbours.proofs.Laid.{rows_long}
use Rattle.lists.proofs.Filled.{length_filled, take_filled}
use Rattle.lists.proofs.Ranges.{length_range, length_map_range, get_d_map_range}
use Rattle.float_order.specs.Values.{+0}
use Rattle.layout_planar.specs.declared.Law.{Law}
use Rattle.layout_planar.specs.declared.Law.TheVariants.{Inverse, Crossfade}
use Rattle.layout_planar.specs.declared.PlanarPair.{PlanarPair}
use Rattle.layout_planar.specs.Planar.{no_pair}
use Rattle.layout_record.specs.declared.Kind.{Kind}
use Rattle.layout_record.specs.declared.Kind.TheVariants.{Silent, Mono, Planar, Hull}
use Rattle.layout_record.specs.declared.VbapPanner.{VbapPanner}
use Rattle.layout_hull.specs.Triplets.{Triplet}
use Rattle.layout_record.specs.Shape.{numbers, Shape, silent, mono, planar, hull, Layout, imaginary_in}
use Rattle.layout_record.specs.Panner.{pairs_in, slots_in, hull_in, laid, no_panner}
use Rattle.layout_record.specs.Meaning.{HullFits, ShapeFits}
use Rattle.layout_new.specs.Layout.{NewAnswer, layout_of, new_refusal, panner_of, new_of}
use Rattle.layout_new.proofs.Answers.{accepted_fits}
use Rattle.mix_block.specs.Limits.{most_sources}
use Rattle.boundary_records.specs.Places.{most_outputs, most_triplets, most_imaginary, head_places, pair_byte_places, slots_at, out_at, idx_at, idx_places, counts_of_nbrs_at, nbrs_at, nbr_places, record_byte_places, pair_float_places, dir_places, inv_at, inv_places, record_float_places, counts_at, start_places, standing_at, standing_places}
use Rattle.boundary_records.specs.Records.{kind_number, head_of, law_numbers, law_number, numbers_of, bytes_of, pair_numbers, pair_bytes, kind_from, law_from, pair_from, known, section, record_bytes, record_floats, record_from}
use Rattle.boundary_records.specs.Sessions.{own_bytes, own_floats, session_bytes, session_floats, session_from, bytes_left, floats_left}
use Rattle.session_calls.specs.declared.Session.{Session}
use Rattle.boundary_records.specs.Meaning.{Whole, HandedBack, SessionHandedBack, LeftTakenIn, NewWhole}
use Rattle.boundary_records.proofs.Known.{kind_known, laws_known}
use Rattle.boundary_records.proofs.Laid.{length_bytes, length_floats}
use Rattle.boundary_records.proofs.Pairs.{length_flat, flat_filled, six, three}
use Rattle.boundary_records.proofs.Pasted.{length_two, section_front, section_last}
use Rattle.boundary_records.proofs.Records.{record_made, session_made}

-- what stands behind a first part
behind : {A : Type 0} (x y : List A) (w k m : ℕ) (d : A) → length x ≡ w → k ≡ w + m → get_or (x ++ y) k d ≡ get_or y m d
behind x y w k m d e f = ap (λ (j : ℕ). get_or (x ++ y) j d) (f ∙ ap (λ (j : ℕ). j + m) (sym e)) ∙ get_or-append-add x y m d

-- ---- a pair

first_pair : (p : PlanarPair) (ns : List Float) (bs : List ℕ) → pair_from (numbers_of p ++ ns) (bytes_of p ++ bs) 0 ≡ p
unfolding pair_from numbers_of bytes_of law_from
first_pair p ns bs = by p.law
  where
    by : (l : Law)
        → ◌≡◌ {A = PlanarPair} (pair_from ((p.start ∷ p.gap ∷ law_numbers l) ++ ns) ((p.a ∷ p.b ∷ law_number l ∷ []) ++ bs) 0)
        (record { start = p.start; gap = p.gap; a = p.a; b = p.b; law = l })
    by (Inverse a b c d) = refl
    by Crossfade = refl

next_pair : (x ns : List Float) (y bs : List ℕ) (i : ℕ) → length x ≡ 6 → length y ≡ 3 → pair_from (x ++ ns) (y ++ bs) (suc i) ≡ pair_from ns bs i
unfolding pair_from
next_pair x ns y bs i e f =
    rw (
      behind x ns 6 (suc i * 6) (i * 6) nan e (omega arith),
      behind x ns 6 (suc i * 6 + 1) (i * 6 + 1) nan e (omega arith),
      behind x ns 6 (suc i * 6 + 2) (i * 6 + 2) nan e (omega arith),
      behind x ns 6 (suc i * 6 + 3) (i * 6 + 3) nan e (omega arith),
      behind x ns 6 (suc i * 6 + 4) (i * 6 + 4) nan e (omega arith),
      behind x ns 6 (suc i * 6 + 5) (i * 6 + 5) nan e (omega arith),
      behind y bs 3 (suc i * 3) (i * 3) 0 f (omega arith),
      behind y bs 3 (suc i * 3 + 1) (i * 3 + 1) 0 f (omega arith),
      behind y bs 3 (suc i * 3 + 2) (i * 3 + 2) 0 f (omega arith),
    )

pair_at_lem : (l : List PlanarPair) (i : ℕ) (d : PlanarPair) → i < length l → pair_from (flat_map numbers_of l) (flat_map bytes_of l) i ≡ get_or l i d
unfolding flat_map
pair_at_lem [] i d h = absurd (not-suc-le-zero h)
pair_at_lem (p ∷ l) zero d h = first_pair p (flat_map numbers_of l) (flat_map bytes_of l)
pair_at_lem (p ∷ l) (suc i) d h = next_pair (numbers_of p) (flat_map numbers_of l) (bytes_of p) (flat_map bytes_of l) i (six p) (three p) ∙ pair_at_lem l i d (omega arith)

-- ---- a kind and a law are known again

kind_back : (k : Kind) → kind_from (kind_number k) ≡ k
unfolding kind_from
kind_back Silent = refl
kind_back Mono = refl
kind_back Planar = refl
kind_back Hull = refl

kind_small : (k : Kind) → kind_number k ≤ 3
kind_small Silent = omega arith
kind_small Mono = omega arith
kind_small Planar = omega arith
kind_small Hull = omega arith

law_small : (l : List PlanarPair) (i : ℕ) → get_or (flat_map bytes_of l) (i * 3 + 2) 0 < 2
unfolding flat_map bytes_of
law_small [] i = omega arith
law_small (p ∷ l) zero = by p.law
  where
    by : (w : Law) → law_number w < 2
    by (Inverse a b c d) = omega arith
    by Crossfade = omega arith
law_small (p ∷ l) (suc i) = rw (behind (bytes_of p) (flat_map bytes_of l) 3 (suc i * 3 + 2) (i * 3 + 2) 0 refl (omega arith)) (law_small l i)

all_known : (k : Kind) (l : List PlanarPair) → known (kind_number k) (flat_map bytes_of l) ≡ true
all_known k l = kind_known (kind_number k) (flat_map bytes_of l) (kind_small k) ∙ laws_known (flat_map bytes_of l) (law_small l)

-- ---- the record

module _ (v : VbapPanner) (w : Whole v) where
  used : List PlanarPair
  used = take (min v.num_pairs most_outputs) v.pairs

  few : length used ≤ most_outputs
  unfolding used
  few = omega (arith, length-take (min v.num_pairs most_outputs) v.pairs)

  pairs_long : length v.pairs ≡ most_outputs
  unfolding used
  pairs_long = ap length w.pairs ∙ length_filled most_outputs no_pair used few

  all_numbers : pair_numbers v.num_pairs v.pairs ≡ flat_map numbers_of v.pairs
  unfolding used pair_numbers numbers_of
  all_numbers = flat_filled 6 numbers_of no_pair +0 most_outputs pair_float_places used six refl (omega (arith, few)) ∙ ap (flat_map numbers_of) (sym w.pairs)

  all_bytes : pair_bytes v.num_pairs v.pairs ≡ flat_map bytes_of v.pairs
  unfolding used pair_bytes bytes_of
  all_bytes = flat_filled 3 bytes_of no_pair 0 most_outputs pair_byte_places used three refl (omega (arith, few)) ∙ ap (flat_map bytes_of) (sym w.pairs)

  pairs_back : v.pairs ≡ map (pair_from (flat_map numbers_of v.pairs) (flat_map bytes_of v.pairs)) (range most_outputs)
  pairs_back =
      let f = pair_from (flat_map numbers_of v.pairs) (flat_map bytes_of v.pairs) in
      ext_get_or no_pair v.pairs (map f (range most_outputs)) (pairs_long ∙ sym (length_map_range f most_outputs))
      (λ i h. sym (get_d_map_range f most_outputs i no_pair (omega (arith, pairs_long)) ∙ pair_at_lem v.pairs i no_pair h))

  long_numbers : length (pair_numbers v.num_pairs v.pairs) ≡ pair_float_places
  long_numbers = ap length all_numbers ∙ length_flat 6 numbers_of no_pair +0 six v.pairs ∙ ap (λ (n : ℕ). n * 6) pairs_long

  long_bytes : length (pair_bytes v.num_pairs v.pairs) ≡ pair_byte_places
  long_bytes = ap length all_bytes ∙ length_flat 3 bytes_of no_pair 0 three v.pairs ∙ ap (λ (n : ℕ). n * 3) pairs_long

  head_long : length (head_of v) ≡ head_places
  unfolding head_of
  head_long = refl

  pub bytes_long : length (record_bytes v) ≡ record_byte_places
  bytes_long = length_bytes v [] head_long long_bytes w.slots w.out w.idx w.counts w.nbrs

  pub floats_long : length (record_floats v) ≡ record_float_places
  floats_long = length_floats v [] long_numbers w.dir w.inv

  abbrev f2 : List ℕ
  f2 = head_of v ++ pair_bytes v.num_pairs v.pairs

  abbrev f3 : List ℕ
  f3 = f2 ++ v.slots

  abbrev f4 : List ℕ
  f4 = f3 ++ v.pt_out

  abbrev f5 : List ℕ
  f5 = f4 ++ v.idx

  abbrev f6 : List ℕ
  f6 = f5 ++ v.num_nbrs

  l2 : length f2 ≡ slots_at
  l2 = length_two (head_of v) (pair_bytes v.num_pairs v.pairs) head_places pair_byte_places slots_at head_long long_bytes refl

  l3 : length f3 ≡ out_at
  l3 = length_two f2 v.slots slots_at most_outputs out_at l2 w.slots refl

  l4 : length f4 ≡ idx_at
  l4 = length_two f3 v.pt_out out_at most_outputs idx_at l3 w.out refl

  l5 : length f5 ≡ counts_of_nbrs_at
  l5 = length_two f4 v.idx idx_at idx_places counts_of_nbrs_at l4 w.idx refl

  l6 : length f6 ≡ nbrs_at
  l6 = length_two f5 v.num_nbrs counts_of_nbrs_at most_imaginary nbrs_at l5 w.counts refl

  second_part : section head_places pair_byte_places (record_bytes v) ≡ pair_bytes v.num_pairs v.pairs
  unfolding record_bytes
  second_part =
      section_front f6 v.imag_nbrs head_places pair_byte_places nbrs_at l6 (omega arith)
      ∙ section_front f5 v.num_nbrs head_places pair_byte_places counts_of_nbrs_at l5 (omega arith)
      ∙ section_front f4 v.idx head_places pair_byte_places idx_at l4 (omega arith)
      ∙ section_front f3 v.pt_out head_places pair_byte_places out_at l3 (omega arith)
      ∙ section_front f2 v.slots head_places pair_byte_places slots_at l2 (omega arith)
      ∙ section_last (head_of v) (pair_bytes v.num_pairs v.pairs) head_places pair_byte_places head_long long_bytes

  third_part : section slots_at most_outputs (record_bytes v) ≡ v.slots
  unfolding record_bytes
  third_part =
      section_front f6 v.imag_nbrs slots_at most_outputs nbrs_at l6 (omega arith)
      ∙ section_front f5 v.num_nbrs slots_at most_outputs counts_of_nbrs_at l5 (omega arith)
      ∙ section_front f4 v.idx slots_at most_outputs idx_at l4 (omega arith)
      ∙ section_front f3 v.pt_out slots_at most_outputs out_at l3 (omega arith)
      ∙ section_last f2 v.slots slots_at most_outputs l2 w.slots

  fourth_part : section out_at most_outputs (record_bytes v) ≡ v.pt_out
  unfolding record_bytes
  fourth_part =
      section_front f6 v.imag_nbrs out_at most_outputs nbrs_at l6 (omega arith)
      ∙ section_front f5 v.num_nbrs out_at most_outputs counts_of_nbrs_at l5 (omega arith)
      ∙ section_front f4 v.idx out_at most_outputs idx_at l4 (omega arith)
      ∙ section_last f3 v.pt_out out_at most_outputs l3 w.out

  fifth_part : section idx_at idx_places (record_bytes v) ≡ v.idx
  unfolding record_bytes
  fifth_part =
      section_front f6 v.imag_nbrs idx_at idx_places nbrs_at l6 (omega arith)
      ∙ section_front f5 v.num_nbrs idx_at idx_places counts_of_nbrs_at l5 (omega arith)
      ∙ section_last f4 v.idx idx_at idx_places l4 w.idx

  sixth_part : section counts_of_nbrs_at most_imaginary (record_bytes v) ≡ v.num_nbrs
  unfolding record_bytes
  sixth_part =
      section_front f6 v.imag_nbrs counts_of_nbrs_at most_imaginary nbrs_at l6 (omega arith)
      ∙ section_last f5 v.num_nbrs counts_of_nbrs_at most_imaginary l5 w.counts

  last_part : section nbrs_at nbr_places (record_bytes v) ≡ v.imag_nbrs
  unfolding record_bytes
  last_part =
      section_last f6 v.imag_nbrs nbrs_at nbr_places l6 w.nbrs

  long_two : length (pair_numbers v.num_pairs v.pairs ++ v.pt_dir) ≡ inv_at
  long_two = length_two (pair_numbers v.num_pairs v.pairs) _ pair_float_places dir_places inv_at long_numbers w.dir refl

  numbers_part : section 0 pair_float_places (record_floats v) ≡ pair_numbers v.num_pairs v.pairs
  unfolding record_floats
  numbers_part =
      section_front (pair_numbers v.num_pairs v.pairs ++ v.pt_dir) _ 0 pair_float_places inv_at long_two (omega arith)
      ∙ section_front (pair_numbers v.num_pairs v.pairs) _ 0 pair_float_places pair_float_places long_numbers (omega arith)
      ∙ section_last [] (pair_numbers v.num_pairs v.pairs) 0 pair_float_places refl long_numbers

  dir_part : section pair_float_places dir_places (record_floats v) ≡ v.pt_dir
  unfolding record_floats
  dir_part =
      section_front (pair_numbers v.num_pairs v.pairs ++ v.pt_dir) _ pair_float_places dir_places inv_at long_two (omega arith)
      ∙ section_last (pair_numbers v.num_pairs v.pairs) _ pair_float_places dir_places long_numbers w.dir

  inv_part : section inv_at inv_places (record_floats v) ≡ v.inv
  unfolding record_floats
  inv_part = section_last (pair_numbers v.num_pairs v.pairs ++ v.pt_dir) _ inv_at inv_places long_two w.inv

  pub record_back : record_from (record_bytes v) (record_floats v) ≡ v
  unfolding record_bytes head_of
  record_back =
      sym
      (record_made (record_bytes v) (record_floats v)
      (sym (second_part ∙ all_bytes))
      (sym (numbers_part ∙ all_numbers))
      (sym (all_known v.kind v.pairs))
      refl
      (sym (kind_back v.kind))
      pairs_back
      (sym third_part)
      (sym fourth_part)
      (sym dir_part)
      (sym fifth_part)
      (sym inv_part)
      (sym sixth_part)
      (sym last_part))

pub handed_back : HandedBack
handed_back v w = record_back v w

-- ---- the session

-- what stands behind the record's places is not read
record_front : (b x : List ℕ) (f y : List Float) → length b ≡ record_byte_places → length f ≡ record_float_places → record_from (b ++ x) (f ++ y) ≡ record_from b f
unfolding record_from
record_front b x f y h k =
    let at : (i : ℕ) → i < head_places → get_or (b ++ x) i 0 ≡ get_or b i 0 = λ i g. get_or-append b x 0 i (omega (arith, g, h)) in
    rw (
      at 0 (omega arith),
      at 1 (omega arith),
      at 2 (omega arith),
      at 3 (omega arith),
      at 4 (omega arith),
      at 5 (omega arith),
      at 6 (omega arith),
      at 7 (omega arith),
      section_front b x head_places pair_byte_places record_byte_places h (omega arith),
      section_front b x slots_at most_outputs record_byte_places h (omega arith),
      section_front b x out_at most_outputs record_byte_places h (omega arith),
      section_front b x idx_at idx_places record_byte_places h (omega arith),
      section_front b x counts_of_nbrs_at most_imaginary record_byte_places h (omega arith),
      section_front b x nbrs_at nbr_places record_byte_places h (omega arith),
      section_front f y 0 pair_float_places record_float_places k (omega arith),
      section_front f y pair_float_places dir_places record_float_places k (omega arith),
      section_front f y inv_at inv_places record_float_places k (omega arith),
    )

-- a session's own part behind the places of its record
own_back : (b : List ℕ) (f : List Float) (s : Session) → length b ≡ record_byte_places → length f ≡ record_float_places → length s.counts ≡ most_sources → length s.starts ≡ start_places → length s.standing ≡ standing_places
    → s.panner ≡ record_from b f → s ≡ session_from (b ++ own_bytes s) (f ++ own_floats s)
unfolding own_bytes own_floats
own_back b f s lb lf lc ls lt e =
    let one : length (b ++ s.sources ∷ []) ≡ counts_at = length_two b (s.sources ∷ []) record_byte_places 1 counts_at lb refl refl in
    let two : length (f ++ s.starts) ≡ standing_at = length_two f s.starts record_float_places start_places standing_at lf ls refl in
    let counts : section counts_at most_sources (b ++ s.sources ∷ s.counts) ≡ s.counts =
    ap (section counts_at most_sources) (sym (append_snoc b s.sources s.counts)) ∙ section_last (b ++ s.sources ∷ []) s.counts counts_at most_sources one lc in
    let starts : section record_float_places start_places (f ++ (s.starts ++ s.standing)) ≡ s.starts =
    ap (section record_float_places start_places) (sym (append_assoc f s.starts s.standing))
    ∙ section_front (f ++ s.starts) s.standing record_float_places start_places standing_at two (omega arith)
    ∙ section_last f s.starts record_float_places start_places lf ls in
    let standing : section standing_at standing_places (f ++ (s.starts ++ s.standing)) ≡ s.standing =
    ap (section standing_at standing_places) (sym (append_assoc f s.starts s.standing)) ∙ section_last (f ++ s.starts) s.standing standing_at standing_places two lt in
    let sources : get_or (b ++ s.sources ∷ s.counts) record_byte_places 0 ≡ s.sources = get_or_at b s.sources s.counts 0 record_byte_places lb in
    ap (λ (n : ℕ). record { panner = s.panner; sources = n; counts = s.counts; standing = s.standing; starts = s.starts }) (sym sources)
    ∙ session_made (b ++ s.sources ∷ s.counts) (f ++ (s.starts ++ s.standing))
    (e ∙ sym (record_front b (s.sources ∷ s.counts) f (s.starts ++ s.standing) lb lf)) (sym counts) (sym starts) (sym standing)

pub session_handed_back : SessionHandedBack
unfolding session_bytes session_floats
session_handed_back s w =
    let p = s.panner in
    sym
    (own_back (record_bytes p) (record_floats p) s (bytes_long p w.panner) (floats_long p w.panner) w.counts w.starts w.standing
    (sym (record_back p w.panner)))

pub left_taken_in : LeftTakenIn
unfolding bytes_left floats_left
left_taken_in b f a hb hf z e lc ls lt =
    let lb : length (take record_byte_places b) ≡ record_byte_places = length-take-le record_byte_places b (omega arith) in
    let lf : length (take record_float_places f) ≡ record_float_places = length-take-le record_float_places f (omega arith) in
    let same : record_from b f ≡ record_from (take record_byte_places b) (take record_float_places f) =
    ap (λ (x : List ℕ). record_from x f) (sym (take-append-drop record_byte_places b))
    ∙ ap (record_from (take record_byte_places b ++ drop record_byte_places b)) (sym (take-append-drop record_float_places f))
    ∙ record_front (take record_byte_places b) (drop record_byte_places b) (take record_float_places f) (drop record_float_places f) lb lf in
    rw (eq-eqb a.number 0 z) (sym (own_back (take record_byte_places b) (take record_float_places f) a.session lb lf lc ls lt (e ∙ same)))

-- ---- every record of `new`

few_pairs : (s : Shape) → ShapeFits s → length (pairs_in s) ≤ most_outputs
unfolding pairs_in
few_pairs silent f = omega arith
few_pairs (mono i) f = omega arith
few_pairs (planar ps ss) f = f.0
few_pairs (hull h) f = omega arith

few_slots : (s : Shape) → ShapeFits s → length (slots_in s) ≤ most_outputs
unfolding slots_in
few_slots silent f = omega arith
few_slots (mono i) f = omega arith
few_slots (planar ps ss) f = f.1
few_slots (hull h) f = omega arith

no_hull_fits : HullFits (record { out = []; dirs = []; tris = []; imag = [] })
unfolding every
no_hull_fits = record { out = omega arith; dirs = refl; three = refl; tris = omega arith; nine = refl; imag = omega arith; nbrs = refl }

hull_fits : (s : Shape) → ShapeFits s → HullFits (hull_in s)
unfolding hull_in
hull_fits silent f = no_hull_fits
hull_fits (mono i) f = no_hull_fits
hull_fits (planar ps ss) f = no_hull_fits
hull_fits (hull h) f = f

laid_whole : (l : Layout) → ShapeFits l.shape → Whole (laid l)
unfolding laid
laid_whole l f =
    let ps = pairs_in l.shape in
    let h = hull_in l.shape in
    let g = hull_fits l.shape f in
    let e : min (length ps) most_outputs ≡ length ps = omega (arith, few_pairs l.shape f) in
    let three : length (flat_map (λ d. d) h.dirs) ≡ length h.dirs * 3 =
    length_rows 3 (λ d. d) h.dirs (each_imply (λ d. eqb (length d) 3 ≡ true) (λ d. length d ≡ 3) (λ d k. eqb-true (length d) 3 k) h.dirs (each_every (λ d. eqb (length d) 3) h.dirs g.three)) in
    let numbers_long : length (flat_map numbers h.tris) ≡ length h.tris * 3 = length_rows 3 numbers h.tris (each_all (λ t. length (numbers t) ≡ 3) (λ t. refl) h.tris) in
    let inverse : ℕ → List Float = λ e. filled most_triplets +0 (map (λ (t : Triplet). get_or t.inv e nan) h.tris) in
    let row : (e : ℕ) → length (inverse e) ≡ most_triplets = λ e. length_filled most_triplets +0 (map (λ (t : Triplet). get_or t.inv e nan) h.tris) (omega (arith, g.tris, length-map h.tris (λ (t : Triplet). get_or t.inv e nan))) in
    record {
      pairs = sym (ap (λ (k : ℕ). filled most_outputs no_pair (take k (filled most_outputs no_pair ps))) e ∙ ap (filled most_outputs no_pair) (take_filled most_outputs no_pair ps));
      slots = length_filled most_outputs 0 (slots_in l.shape) (few_slots l.shape f);
      out = length_filled most_outputs 0 h.out g.out;
      dir = length_filled dir_places +0 (flat_map (λ d. d) h.dirs) (omega (arith, three, g.dirs, g.out));
      idx = length_filled idx_places 0 (flat_map numbers h.tris) (omega (arith, numbers_long, g.tris));
      inv = length_rows most_triplets inverse (range 9) (each_all (λ e. length (inverse e) ≡ most_triplets) row (range 9)) ∙ ap (λ (n : ℕ). n * most_triplets) (length_range 9);
      counts = length_filled most_imaginary 0 (map length h.imag) (omega (arith, g.imag, length-map h.imag length));
      nbrs =
          rows_long most_outputs 0 most_imaginary h.imag
          (each_imply (λ ns. leb (length ns) most_outputs ≡ true) (λ ns. length ns ≤ most_outputs) (λ ns k. leb-true (length ns) most_outputs k) h.imag (each_every (λ ns. leb (length ns) most_outputs) h.imag g.nbrs))
          g.imag;
    }

pub new_whole : NewWhole
unfolding new_of panner_of no_panner
new_whole positions lfe = by (eqb (new_refusal positions lfe) 0) refl
  where
    by : (b : Bool) → eqb (new_refusal positions lfe) 0 ≡ b
        → Whole
        (cond {A = NewAnswer} b (record { number = 0; panner = panner_of positions lfe; imaginary = imaginary_in (layout_of positions lfe).shape })
        (record { number = new_refusal positions lfe; panner = no_panner; imaginary = 0 })
        ).panner
    by true e =
        let z : (new_of positions lfe).number ≡ 0 = rw e in
        laid_whole (layout_of positions lfe) (accepted_fits positions lfe z).shape
    by false e = laid_whole (record { outputs = 0; shape = silent }) tt
