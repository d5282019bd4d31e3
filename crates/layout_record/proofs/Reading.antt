-- What is laid is read back: an array filled from a list gives the list on its used places, and rows of one width lie where they are read. Assumes nothing.
use Prim.Native.Nat.{ℕ, ◌+◌, ◌-◌, ◌*◌, ◌≤◌, ◌<◌}
use mathlib.Core.Path.{◌≡◌, refl, sym, ap, ap₂, ◌∙◌}
use mathlib.Core.Bool.{true}
use mathlib.Core.List.{List, [], ◌∷◌, map, flat_map, append-nil}
use native.Mathlib.Nat.{add-zero}
use native.Mathlib.Omega.{arith}
use borrow.Author.Tests.{leb-true, eq-eqb, eqb-true}
use lib.Dec.{eqb, leb}
use lib.Ieee.{Float, nan}
use lib.ListN.{length, get_or, take, replicate, length-map}
use Rattle.lists.specs.Lists.{range, filled, part, every}
use Rattle.lists.proofs.Collect.{flat_map_append}
use Rattle.lists.proofs.Filled.{take_filled, get_d_filled, length_filled}
use Rattle.lists.proofs.Ranges.{length_range, get_d_range, by_places, get_d_map}
use Rattle.float_order.specs.Values.{+0}
use Rattle.layout_planar.specs.Planar.{no_pair}
use Rattle.layout_hull.specs.Triplets.{Triplet}
use Rattle.vector.specs.Vector.{Points}
use Rattle.layout_record.specs.Shape.{HullShape, numbers, Shape, silent, mono, planar, hull, Layout}
use Rattle.layout_record.specs.Panner.{laid, layout_in, shape_in, triplet_at, neighbours_at, kind_in, mono_in, pairs_in, slots_in, hull_in}
use Rattle.layout_record.specs.Meaning.{HullFits, ShapeFits, ReadBack}
use Rattle.lists.proofs.Parts.{part_row, get_d_row}
use Rattle.lists.proofs.Tests.{every_more, every_get_d, every_always}

-- ---- directions

pub dirs_back : (n : ℕ) (z : Float) (dirs : Points) → every (λ d. eqb (length d) 3) dirs ≡ true
    → map (part 3 (filled n z (flat_map (λ d. d) dirs))) (range (length dirs)) ≡ dirs
unfolding filled
dirs_back n z dirs e =
    by_places dirs [] (part 3 (filled n z (flat_map (λ d. d) dirs)))
    (λ i h. part_row 3 (λ d. d) dirs (replicate (n - length (flat_map (λ d. d) dirs)) z) i [] e h)

-- ---- triplets

abbrev none : Triplet
none = record { i = 0; j = 0; k = 0; inv = nan ∷ nan ∷ nan ∷ nan ∷ nan ∷ nan ∷ nan ∷ nan ∷ nan ∷ [] }

-- entry e of the inverses, in 80 places
abbrev entries : List Triplet → ℕ → List Float
entries ts e = filled 80 +0 (map (λ t. get_or t.inv e nan) ts)

module _ (ts : List Triplet) (t : ℕ) (h : t < length ts) where
  number_back : (n m : ℕ) → m < 3 → get_or (filled n 0 (flat_map numbers ts)) (t * 3 + m) 0 ≡ get_or (numbers (get_or ts t none)) m 0
  unfolding filled
  number_back n m g =
      get_d_row 3 numbers ts (replicate (n - length (flat_map numbers ts)) 0) t m none 0
      (every_always (λ a. eqb (length (numbers a)) 3) (λ a. refl) ts) h g

  module _ (few : length ts ≤ 80) where
    entry_back : (e : ℕ) → e < 9 → get_or (flat_map (entries ts) (range 9)) (e * 80 + t) nan ≡ get_or (get_or ts t none).inv e nan
    entry_back e g =
        let wide : every (λ a. eqb (length (entries ts a)) 80) (range 9) ≡ true =
        every_always (λ a. eqb (length (entries ts a)) 80)
        (λ a. eq-eqb _ 80 (length_filled 80 +0 (map (λ t. get_or t.inv a nan) ts) (omega (arith, length-map ts (λ t. get_or t.inv a nan))))) (range 9) in
        ap (λ (l : List Float). get_or l (e * 80 + t) nan) (sym (append-nil (flat_map (entries ts) (range 9))))
        ∙ get_d_row 80 (entries ts) (range 9) [] e t 0 nan wide (omega (arith, length_range 9)) (omega arith)
        ∙ ap (λ (k : ℕ). get_or (entries ts k) t nan) (get_d_range 9 e 0 g)
        ∙ get_d_filled 80 +0 (map (λ t. get_or t.inv e nan) ts) t nan (omega (arith, length-map ts (λ t. get_or t.inv e nan)))
        ∙ get_d_map (λ t. get_or t.inv e nan) ts t none nan h

    inverse_back : length (get_or ts t none).inv ≡ 9 → map (λ e. get_or (flat_map (entries ts) (range 9)) (e * 80 + t) nan) (range 9) ≡ (get_or ts t none).inv
    inverse_back nine =
        let f : ℕ → Float = λ e. get_or (flat_map (entries ts) (range 9)) (e * 80 + t) nan in
        ap (λ (k : ℕ). map f (range k)) (sym nine) ∙ by_places (get_or ts t none).inv nan f (λ e h. entry_back e (omega arith))

-- ---- neighbours

rows_back : (ls : List (List ℕ)) (k : ℕ) → k < length ls → every (λ ns. leb (length ns) 40) ls ≡ true
    → part 40 (flat_map (filled 40 0) (filled 14 [] ls)) k ≡ filled 40 0 (get_or ls k [])
unfolding filled
rows_back ls k h e =
    ap (λ (l : List ℕ). part 40 l k) (flat_map_append (filled 40 0) ls (replicate (14 - length ls) []))
    ∙ part_row 40 (filled 40 0) ls (flat_map (filled 40 0) (replicate (14 - length ls) [])) k []
    (every_more (λ ns p. eq-eqb _ 40 (length_filled 40 0 ns (leb-true (length ns) 40 p))) ls e) h

-- two triplets with the same parts
same_triplet : {i j k a b c : ℕ} {m n : List Float} → i ≡ a → j ≡ b → k ≡ c → m ≡ n
    → ◌≡◌ {A = Triplet} (record { i = i; j = j; k = k; inv = m }) (record { i = a; j = b; k = c; inv = n })
same_triplet p q r s = cc

-- ---- a hull

abbrev at : ℕ → Shape → Layout
at n s = record { outputs = n; shape = s }

module _ (n : ℕ) (h : HullShape) (fits : HullFits h) where
  triplet_back : (t : ℕ) → t < length h.tris → triplet_at (laid (at n (hull h))) t ≡ get_or h.tris t none
  unfolding triplet_at laid hull_in
  triplet_back t g =
      let e : t * 3 + 0 ≡ t * 3 = add-zero (t * 3) in
      let zeroth : get_or (filled 240 0 (flat_map numbers h.tris)) (t * 3) 0 ≡ (get_or h.tris t none).i =
      ap (λ (k : ℕ). get_or (filled 240 0 (flat_map numbers h.tris)) k 0) (sym e) ∙ number_back h.tris t g 240 0 (omega arith) in
      same_triplet zeroth (number_back h.tris t g 240 1 (omega arith)) (number_back h.tris t g 240 2 (omega arith))
      (inverse_back h.tris t g fits.tris (eqb-true _ 9 (every_get_d (λ t. eqb (length t.inv) 9) h.tris t none refl fits.nine)))

  tris_back : map (triplet_at (laid (at n (hull h)))) (range (length h.tris)) ≡ h.tris
  tris_back = by_places h.tris none (triplet_at (laid (at n (hull h)))) triplet_back

  neighbours_back : (k : ℕ) → k < length h.imag → neighbours_at (laid (at n (hull h))) k ≡ get_or h.imag k []
  unfolding neighbours_at laid hull_in
  neighbours_back k g =
      let count : get_or (filled 14 0 (map length h.imag)) k 0 ≡ length (get_or h.imag k []) =
      get_d_filled 14 0 (map length h.imag) k 0 (omega (arith, length-map h.imag length)) ∙ get_d_map length h.imag k [] 0 g in
      let row : part 40 (flat_map (filled 40 0) (filled 14 [] h.imag)) k ≡ filled 40 0 (get_or h.imag k []) = rows_back h.imag k g fits.nbrs in
      ap₂ take count row ∙ take_filled 40 0 (get_or h.imag k [])

  imag_back : map (neighbours_at (laid (at n (hull h)))) (range (length h.imag)) ≡ h.imag
  imag_back = by_places h.imag [] (neighbours_at (laid (at n (hull h)))) neighbours_back

  hull_dirs_back : map (part 3 (filled 120 +0 (flat_map (λ d. d) h.dirs))) (range (length h.out)) ≡ h.dirs
  hull_dirs_back =
      ap (λ (m : ℕ). map (part 3 (filled 120 +0 (flat_map (λ d. d) h.dirs))) (range m)) (sym fits.dirs) ∙ dirs_back 120 +0 h.dirs fits.three

-- two hulls with the same parts
same_hull : {o p : List ℕ} {d e : Points} {t u : List Triplet} {m n : List (List ℕ)} → o ≡ p → d ≡ e → t ≡ u → m ≡ n
    → ◌≡◌ {A = HullShape} (record { out = o; dirs = d; tris = t; imag = m }) (record { out = p; dirs = e; tris = u; imag = n })
same_hull a b c d = cc

-- ---- every kind

shape_back : (n : ℕ) (s : Shape) → ShapeFits s → shape_in (laid (at n s)) (kind_in s) ≡ s
unfolding shape_in laid kind_in mono_in pairs_in slots_in hull_in
shape_back n silent f = refl
shape_back n (mono i) f = refl
shape_back n (planar ps ss) f = ap₂ planar (take_filled 40 no_pair ps) (take_filled 40 0 ss)
shape_back n (hull h) f = ap hull (same_hull (take_filled 40 0 h.out) (hull_dirs_back n h f) (tris_back n h f) (imag_back n h f))

pub read_back : ReadBack
unfolding layout_in laid
read_back l f = ap (λ (s : Shape). at l.outputs s) (shape_back l.outputs l.shape f)
