-- Every layout that `new` makes is sound, and no float of its record is a NaN: by the kind of the layout, each part by its own law. Assumes nothing.
use Rattle.std.proofs.Common.{◌≡◌, ℕ, ◌+◌, ◌-◌, ◌<◌, ◌≤◌, Bool, true, false, cond, T, eqb, List, [], ◌∷◌, map, length, get_or, sym, refl, ap, ◌∙◌, subst, true≢false, arith, lit<, lit≤, length-append, ne_eqb}
use mathlib.Core.List.{flat_map}
use lib.ListN.{length-map}
use lib.Ieee.{Float, nan, inf, fin, binary64, fits, is_nan, le, lt, eq}
use Rattle.lists.specs.Lists.{range, between, every, member, filled, Each, Once}
use Rattle.lists.proofs.Ranges.{length_between}
use Rattle.float_order.specs.Values.{+0, 1·0, abs}
use Rattle.float_widths.specs.Narrow.{narrow_of}
use Rattle.vector.specs.Vector.{Vector}
use Rattle.vector.specs.declared.Speaker.{Speaker}
use Rattle.vector.specs.Speakers.{slots_of, dirs_of}
use Rattle.layout_planar.specs.declared.Law.{Law}
use Rattle.layout_planar.specs.declared.Law.TheVariants.{Inverse, Crossfade}
use Rattle.layout_planar.specs.declared.PlanarPair.{PlanarPair}
use Rattle.layout_planar.specs.Planar.{no_pair, pairs_of}
use Rattle.layout_hull.specs.Triplets.{Triplet, triplets_of}
use Rattle.layout_closing.specs.Closing.{final_points}
use Rattle.layout_closing.proofs.Meaning.{imaginary_meaning}
use Rattle.layout_neighbours.specs.Neighbours.{neighbours_of}
use Rattle.layout_record.specs.Shape.{numbers, Shape, silent, mono, planar, hull, Layout}
use Rattle.layout_record.specs.Panner.{pairs_in, hull_in, laid}
use Rattle.layout_record.specs.Malformed.{used_slots}
use Rattle.layout_new.specs.Layout.{outputs_of, active, build_hull_of, level, shape_of, layout_of, panner_of}
use Rattle.layout_new.proofs.Slots.{active_few}
use Rattle.float_bounds.proofs.Size.{Mag}
use Rattle.theorem_layouts.specs.Sound.{Within, SoundLaw, SoundPair, SoundPlanar, SoundTriplet, SoundDirection, SoundNeighbours, SoundHull, Sound, Active, Number, NumberLaw, NumberPair, NoNan, LayoutSound, PannerNoNan, SlotsActive, LfeUnused}
use Rattle.lists.proofs.Each.{each_all, each_imply, each_append, each_get_d, each_filled, each_map, each_flat_map, each_range, each_member}
use Rattle.lists.proofs.Once.{member_none}
use Rattle.theorem_layouts.proofs.Directions.{L, Direction}
use Rattle.theorem_layouts.proofs.Inverses.{narrow_within}
use Rattle.theorem_layouts.proofs.Pairs.{pairs_sound}
use Rattle.theorem_layouts.proofs.Faces.{triplets_sound}
use Rattle.theorem_layouts.proofs.Closed.{final_unit}
use Rattle.theorem_layouts.proofs.Neighbours.{neighbours_sound}
use Rattle.theorem_layouts.proofs.Speakers.{ActiveSpeaker, active_each, active_once}

-- ---- the hull

narrow_direction : (d : Vector) → Direction d → SoundDirection (map narrow_of d)
unfolding fits
narrow_direction d h = record {
  three = length-map d narrow_of ∙ h.three;
  unit = each_map (Within 1·0) narrow_of d (each_imply (λ v. Mag binary64 v L) (λ v. Within 1·0 (narrow_of v)) one d h.unit);
}
  where
    one : (v : Float) → Mag binary64 v L → Within 1·0 (narrow_of v)
    one v m = narrow_within v 1·0 m tt (record { has = (refl, refl) }) (lit< tt) (lit≤ tt)

module _ (outputs : ℕ) (act : List Speaker) (unit : Each (λ s. Direction s.dir) act) (apart : Once (slots_of act)) (low : Each (λ o. o < outputs) (slots_of act)) (few : length act ≤ outputs) (two : 2 ≤ length act) where
  slots_many : length (slots_of act) ≡ length act
  unfolding slots_of
  slots_many = length-map act (λ s. s.slot)

  dirs_many : length (dirs_of act) ≡ length act
  unfolding dirs_of
  dirs_many = length-map act (λ s. s.dir)

  dirs_unit : Each Direction (dirs_of act)
  unfolding dirs_of
  dirs_unit = each_map Direction (λ s. s.dir) act unit

  hull_sound : SoundHull outputs (build_hull_of act)
  unfolding build_hull_of
  hull_sound =
      let real = dirs_of act in
      let out = slots_of act in
      let pts = final_points real in
      let g = imaginary_meaning real in
      let a : length pts ≡ length real + length g.points = ap length g.behind ∙ length-append real g.points in
      let b = g.few in
      let f = neighbours_of out (map numbers (triplets_of pts)) in
      let n : length (map f (between (length real) (length pts))) ≡ length pts - length real = length-map (between (length real) (length pts)) f ∙ length_between (length real) (length pts) in
      let s = slots_many in
      let d = dirs_many in
      let all : length pts ≡ length out + length (map f (between (length real) (length pts))) = omega arith in
      record {
        few = omega arith;
        two = omega arith;
        apart = apart;
        low = low;
        as_many = length-map real (map narrow_of) ∙ d ∙ sym s;
        dirs = each_map SoundDirection (map narrow_of) real (each_imply Direction (λ v. SoundDirection (map narrow_of v)) narrow_direction real dirs_unit);
        tris = subst (λ (m : ℕ). Each (SoundTriplet m) (triplets_of pts)) all (triplets_sound pts (final_unit real dirs_unit));
        imaginary = omega arith;
        imag = each_map (SoundNeighbours out) f (between (length real) (length pts)) (each_all (λ p. SoundNeighbours out (f p)) (λ p. neighbours_sound out (map numbers (triplets_of pts)) p) (between (length real) (length pts)));
      }

  planar_sound : SoundPlanar outputs (pairs_of act) (slots_of act)
  planar_sound = let s = slots_many in record { few = omega arith; two = omega arith; apart = apart; low = low; each = pairs_sound act unit apart two }

-- ---- a layout

shape_sound : (outputs : ℕ) (act : List Speaker) → Each (λ s. Direction s.dir) act → Once (slots_of act) → Each (λ o. o < outputs) (slots_of act) → length act ≤ outputs → Sound outputs (shape_of act)
unfolding shape_of Sound slots_of
shape_sound outputs [] u d l f = tt
shape_sound outputs (s ∷ []) u d l f = l.0
shape_sound outputs (s ∷ (t ∷ r)) u d l f = by (every level (s ∷ t ∷ r))
  where
    by : (b : Bool) → Sound outputs (cond b (planar (pairs_of (s ∷ t ∷ r)) (slots_of (s ∷ t ∷ r))) (hull (build_hull_of (s ∷ t ∷ r))))
    by true = planar_sound outputs (s ∷ t ∷ r) u d l f (omega arith)
    by false = hull_sound outputs (s ∷ t ∷ r) u d l f (omega arith)

pub layout_sound : LayoutSound
unfolding layout_of slots_of
layout_sound positions lfe h =
    let act = active positions lfe in
    let e = active_each positions lfe h in
    shape_sound (outputs_of positions) act (each_imply (ActiveSpeaker positions lfe) (λ s. Direction s.dir) (λ s g. g.unit) act e) (active_once positions lfe)
    (each_map (λ o. o < outputs_of positions) (λ s. s.slot) act (each_imply (ActiveSpeaker positions lfe) (λ s. s.slot < outputs_of positions) (λ s g. g.at.low) act e)) (active_few positions lfe)

-- ---- no NaN

within_number_of : (b v : Float) → T (le (abs v) b) → Number v
unfolding le lt eq abs is_nan
within_number_of b nan h = absurd h
within_number_of b (inf s) h = tt
within_number_of b (fin s m e) h = tt

pub within_number : {b v : Float} → Within b v → Number v
within_number {b} {v} h = within_number_of b v h.most

law_number_lem : (l : Law) → SoundLaw l → NumberLaw l
unfolding SoundLaw NumberLaw
law_number_lem (Inverse i j k l) h = (within_number h.0, (within_number h.1.0, (within_number h.1.1.0, (within_number h.1.1.1.0, tt))))
law_number_lem Crossfade h = tt

pair_number : {slots : List ℕ} (p : PlanarPair) → SoundPair slots p → NumberPair p
pair_number p h = record { start = within_number h.start; gap = within_number h.gap; law = law_number_lem p.law h.law }

zero_number : Number +0
unfolding is_nan
zero_number = tt

none_number : NumberPair no_pair
unfolding is_nan NumberLaw
none_number = record { start = tt; gap = tt; law = tt }

pairs_number : (outputs : ℕ) (s : Shape) → Sound outputs s → Each NumberPair (pairs_in s)
unfolding Sound pairs_in
pairs_number outputs silent h = tt
pairs_number outputs (mono i) h = tt
pairs_number outputs (planar ps ss) h = each_imply (SoundPair ss) NumberPair (λ p g. pair_number p g) ps h.each
pairs_number outputs (hull r) h = tt

dirs_number : (outputs : ℕ) (s : Shape) → Sound outputs s → Each (Each Number) (hull_in s).dirs
unfolding Sound hull_in
dirs_number outputs silent h = tt
dirs_number outputs (mono i) h = tt
dirs_number outputs (planar ps ss) h = tt
dirs_number outputs (hull r) h = each_imply SoundDirection (Each Number) (λ d g. each_imply (Within 1·0) Number (λ v w. within_number w) d g.unit) r.dirs h.dirs

-- nine numbers, none of them a NaN
record NumberTriplet (t : Triplet) : Type 0 where
  pub nine : length t.inv ≡ 9
  pub each : Each Number t.inv

tris_number : (outputs : ℕ) (s : Shape) → Sound outputs s → Each NumberTriplet (hull_in s).tris
unfolding Sound hull_in
tris_number outputs silent h = tt
tris_number outputs (mono i) h = tt
tris_number outputs (planar ps ss) h = tt
tris_number outputs (hull r) h =
    each_imply (SoundTriplet (length r.out + length r.imag)) NumberTriplet (λ t g. record { nine = g.nine; each = each_imply (Within _) Number (λ v w. within_number w) t.inv g.inverse }) r.tris h.tris

pub laid_no_nan : (l : Layout) → Sound l.outputs l.shape → NoNan (laid l)
unfolding laid
laid_no_nan l h =
    let r = hull_in l.shape in
    let ts = tris_number l.outputs l.shape h in
    record {
      pairs = each_filled NumberPair 40 no_pair (pairs_in l.shape) none_number (pairs_number l.outputs l.shape h);
      directions = each_filled Number 120 +0 (flat_map (λ d. d) r.dirs) zero_number (each_flat_map Number (λ d. d) r.dirs (dirs_number l.outputs l.shape h));
      inverses =
          each_flat_map Number (λ e. filled 80 +0 (map (λ t. get_or t.inv e nan) r.tris)) (range 9)
          (each_range (λ e. Each Number (filled 80 +0 (map (λ t. get_or t.inv e nan) r.tris))) 9
          (λ e m. each_filled Number 80 +0 (map (λ t. get_or t.inv e nan) r.tris) zero_number
          (each_map Number (λ t. get_or t.inv e nan) r.tris
          (each_imply NumberTriplet (λ t. Number (get_or t.inv e nan)) (λ t g. let n = g.nine in each_get_d Number t.inv e nan (omega arith) g.each) r.tris ts))));
    }

pub panner_no_nan : PannerNoNan
unfolding panner_of
panner_no_nan positions lfe h = laid_no_nan (layout_of positions lfe) (layout_sound positions lfe h)

-- ---- the slots that a layout names are active ones

-- a kind's own slots, of which the others are taken
abbrev named_slots : Shape → List ℕ
named_slots silent = []
named_slots (mono i) = i ∷ []
named_slots (planar ps ss) = ss
named_slots (hull r) = r.out

named_active : (P : ℕ → Type 0) (act : List Speaker) → Each P (slots_of act) → Each P (named_slots (shape_of act))
unfolding shape_of slots_of build_hull_of
named_active P [] e = tt
named_active P (s ∷ []) e = e
named_active P (s ∷ (t ∷ r)) e = by (every level (s ∷ t ∷ r))
  where
    by : (b : Bool) → Each P (named_slots (cond b (planar (pairs_of (s ∷ t ∷ r)) (slots_of (s ∷ t ∷ r))) (hull (build_hull_of (s ∷ t ∷ r)))))
    by true = e
    by false = e

shape_slots : (P : ℕ → Type 0) (outputs : ℕ) (s : Shape) → Sound outputs s → Each P (named_slots s) → Each P (used_slots s)
unfolding Sound used_slots
shape_slots P outputs silent h e = tt
shape_slots P outputs (mono i) h e = e
shape_slots P outputs (planar ps ss) h e =
    each_append P (flat_map (λ p. p.a ∷ p.b ∷ []) ps) ss
    (each_flat_map P (λ p. p.a ∷ p.b ∷ []) ps
    (each_imply (SoundPair ss) (λ p. Each P (p.a ∷ p.b ∷ [])) (λ p g. (each_member P ss p.a e g.first, (each_member P ss p.b e g.second, tt))) ps h.each)) e
shape_slots P outputs (hull r) h e =
    each_append P r.out (flat_map (λ ns. ns) r.imag) e
    (each_flat_map P (λ ns. ns) r.imag
    (each_imply (SoundNeighbours r.out) (Each P) (λ ns g. each_imply (λ o. member o r.out ≡ true) P (λ o m. each_member P r.out o e m) ns g.real) r.imag h.imag))

pub slots_active : SlotsActive
unfolding layout_of slots_of
slots_active positions lfe h =
    let act = active positions lfe in
    shape_slots (Active positions lfe) (outputs_of positions) (shape_of act) (layout_sound positions lfe h)
    (named_active (Active positions lfe) act
    (each_map (Active positions lfe) (λ s. s.slot) act (each_imply (ActiveSpeaker positions lfe) (λ s. Active positions lfe s.slot) (λ s g. g.at) act (active_each positions lfe h))))

-- so an LFE slot is in no list of the layout
pub lfe_unused : LfeUnused
lfe_unused positions lfe o h e =
    member_none o (used_slots (layout_of positions lfe).shape)
    (each_imply (Active positions lfe) (λ p. eqb p o ≡ false) (λ p a. ne_eqb p o (λ g. true≢false (sym e ∙ ap (λ (q : ℕ). member q lfe) (sym g) ∙ a.not_lfe))) (used_slots (layout_of positions lfe).shape) (slots_active positions lfe h))
