-- Every float that a history holds is finite and of 32 bits: an angle once it counts as +0 where it is not finite, and a gain of an accepted layout. So is every float of the session, and what has the same bits is the same. Assumes nothing.
use Prim.Native.Nat.{ℕ, ◌-◌, ◌*◌}
use mathlib.Core.Path.{◌≡◌, refl, sym, ap, ◌∙◌}
use mathlib.Core.Bool.{Bool, true, false, cond}
use mathlib.Core.List.{List, [], ◌∷◌, map, flat_map}
use native.Mathlib.Omega.{arith}
use lib.Dec.{T, eqb}
use lib.ListN.{length, replicate}
use lib.Ieee.{Float, nan, inf, fin, binary32, fits, is_nan, of_bits}
use lib.Ieee.Bits.{of_bits-to_bits}
use Rattle.lists.specs.Lists.{Each}
use Rattle.float_order.specs.Values.{+0, is_finite}
use Rattle.layout_record.specs.declared.VbapPanner.{VbapPanner}
use Rattle.layout_record.specs.Shape.{Layout}
use Rattle.layout_record.specs.Panner.{laid}
use Rattle.layout_new.specs.Layout.{layout_of, panner_of}
use Rattle.row_gains.specs.Gains.{finite_or0, row_of}
use Rattle.theorem_layouts.specs.Sound.{Number}
use Rattle.lists.proofs.Each.{each_append, each_replicate, each_drop, each_imply, each_both, each_or, each_filled, each_flat_map, foldl_keeps, each_change, each_but_last, each_map}
use Rattle.theorem_layouts.proofs.Layouts.{panner_no_nan}
use Rattle.theorem_rows.proofs.Rows.{or_fits, row_finite}
use Rattle.mix_block.specs.Limits.{most_sources, row_places}
use Rattle.session_history.specs.Calls.{Call, place, take_back, settle, render}
use Rattle.session_history.specs.History.{Direction, Past, beginning, depth, refusal, only_last, last_row, rerowed, made, step, history, past}
use Rattle.session_calls.specs.declared.Session.{Session}
use Rattle.session_calls.specs.Session.{after_all}
use Rattle.theorem_take_back.specs.Demand3.{Alike, Given, opened, history_of, past_of}
use Rattle.theorem_take_back.specs.Laid.{numbers_of, numbers_in, places_of, start_of, laid_at}
use Rattle.theorem_take_back.specs.Bits.{Fits32, CallFits, NeverNan, bits, pair_bits, direction_bits, SamePanner, SameBits, AlikeBits, Demand3Bits}
use Rattle.theorem_take_back.proofs.Fields.{same_session}
use Rattle.theorem_take_back.proofs.RowFits.{gains_fit}
use Rattle.theorem_take_back.proofs.Theorem.{setting, stands, demand3}

-- a finite value of 32 bits
pub record Finite32 (x : Float) : Type 0 where
  pub held : Fits32 x
  pub bounded : T (is_finite x)

finite_number : (x : Float) → Finite32 x → Number x
unfolding is_nan is_finite
finite_number nan h = absurd h.bounded
finite_number (inf s) h = tt
finite_number (fin s m e) h = tt

zero_finite : Finite32 +0
unfolding fits is_finite
zero_finite = record { held = tt; bounded = tt }

angle_finite : (x : Float) → T (is_finite (finite_or0 x))
unfolding finite_or0 is_finite
angle_finite nan = tt
angle_finite (inf s) = tt
angle_finite (fin s m e) = tt

angle_held : (x : Float) → Fits32 x → Finite32 (finite_or0 x)
angle_held x h = record { held = or_fits x h; bounded = angle_finite x }

-- ---- what a history holds

pub record HeldDirection (d : Direction) : Type 0 where
  pub azimuth : Finite32 d.azimuth
  pub elevation : Finite32 d.elevation

pub record HeldPast (p : Past) : Type 0 where
  pub standing : Each HeldDirection p.standing
  pub row : Each Finite32 p.row

module _ (g : Given) (fit : Each Fits32 g.positions) where
  abbrev l : Layout
  l = layout_of g.positions g.lfe

  row_held : (az el : Float) → Fits32 az → Fits32 el → Each Finite32 (row_of l l.outputs az el)
  unfolding layout_of
  row_held az el a e =
      each_both Fits32 (λ g. T (is_finite g)) Finite32 (λ g p q. record { held = p; bounded = q }) (row_of l l.outputs az el)
      (gains_fit l l.outputs az el) (row_finite g.positions g.lfe fit (setting g).narrow l.outputs az el a e)

  last_row_held : (ds : List Direction) → Each HeldDirection ds → Each Finite32 (last_row l ds)
  unfolding last_row
  last_row_held [] h = each_replicate Finite32 l.outputs +0 zero_finite
  last_row_held (d ∷ []) h = row_held d.azimuth d.elevation h.0.azimuth.held h.0.elevation.held
  last_row_held (d ∷ (e ∷ ds)) h = last_row_held (e ∷ ds) h.1

  made_held : (ps : List Past) (c : Call) → CallFits c → Each HeldPast ps → Each HeldPast (made l ps c)
  unfolding made only_last
  made_held ps (place i az el) f h =
      let d : HeldDirection (record { azimuth = finite_or0 az; elevation = finite_or0 el }) =
      record { azimuth = angle_held az f.0; elevation = angle_held el f.1 } in
      each_change HeldPast i _ (λ p k. record { standing = each_append HeldDirection p.standing _ k.standing (d, tt); row = k.row }) ps h
  made_held ps (take_back i) f h =
      each_change HeldPast i _ (λ p k. record { standing = each_but_last HeldDirection p.standing k.standing; row = k.row }) ps h
  made_held ps (settle i) f h =
      each_change HeldPast i _ (λ p k. record { standing = each_drop HeldDirection (length p.standing - 1) p.standing k.standing; row = k.row }) ps h
  made_held ps (render L samples outputs) f h =
      each_map HeldPast (rerowed l) ps
      (each_imply HeldPast (λ p. HeldPast (rerowed l p)) (λ p k. record { standing = k.standing; row = last_row_held p.standing k.standing }) ps h)

  step_held : (ps : List Past) (c : Call) → CallFits c → Each HeldPast ps → Each HeldPast (step l ps c)
  unfolding step
  step_held ps c f h = by (eqb (refusal l ps c) 0)
    where
      by : (b : Bool) → Each HeldPast (cond b (made l ps c) ps)
      by true = made_held ps c f h
      by false = h

  beginning_held : HeldPast (beginning l)
  beginning_held = record { standing = tt; row = each_replicate Finite32 l.outputs +0 zero_finite }

  history_held : (calls : List Call) → Each CallFits calls → Each HeldPast (history_of g calls)
  unfolding history
  history_held calls f =
      foldl_keeps (Each HeldPast) CallFits (step l) (λ ps c k h. step_held ps c k h) calls f (replicate g.sources (beginning l))
      (each_replicate HeldPast g.sources (beginning l) beginning_held)

  past_held : (calls : List Call) → Each CallFits calls → (i : ℕ) → HeldPast (past_of g calls i)
  unfolding past
  past_held calls f i = each_or HeldPast (history_of g calls) i (beginning l) (history_held calls f) beginning_held

-- ---- what the session holds

pub record HeldSession (s : Session) : Type 0 where
  pub standing : Each Finite32 s.standing
  pub starts : Each Finite32 s.starts

laid_held : (deep : ℕ) (v : VbapPanner) (ps : List Past) → Each HeldPast ps → HeldSession (laid_at deep v ps)
unfolding laid_at places_of numbers_in start_of
laid_held deep v ps h =
    record {
      standing =
          each_filled Finite32 (most_sources * (deep * 2)) +0 (flat_map (places_of deep) ps) zero_finite
          (each_flat_map Finite32 (places_of deep) ps (each_imply HeldPast (λ p. Each Finite32 (places_of deep p))
          (λ p k. each_filled Finite32 (deep * 2) +0 (numbers_in p.standing) zero_finite (numbers_held p.standing k.standing)) ps h));
      starts =
          each_filled Finite32 (most_sources * row_places) +0 (flat_map start_of ps) zero_finite
          (each_flat_map Finite32 start_of ps (each_imply HeldPast (λ p. Each Finite32 (start_of p)) (λ p k. each_filled Finite32 row_places +0 p.row zero_finite k.row) ps h));
    }
  where
    numbers_held : (ds : List Direction) → Each HeldDirection ds → Each Finite32 (numbers_in ds)
    numbers_held ds k =
        each_flat_map Finite32 numbers_of ds
        (each_imply HeldDirection (λ d. Each Finite32 (numbers_of d)) (λ d j. (j.azimuth, (j.elevation, tt))) ds k)

module _ (g : Given) (calls : List Call) where
  reached_held : Each Fits32 g.positions → Each CallFits calls → HeldSession (after_all (opened g) calls)
  reached_held fit f = rw (stands g calls) (laid_held depth (panner_of g.positions g.lfe) (history_of g calls) (history_held g fit calls f))

  reached_panner : (after_all (opened g) calls).panner ≡ laid (layout_of g.positions g.lfe)
  unfolding laid_at panner_of
  reached_panner = ap (λ (s : Session). s.panner) (stands g calls)

pub never_nan : NeverNan
unfolding panner_of
never_nan g fit calls f =
    let h = reached_held g calls fit f in
    let s = after_all (opened g) calls in
    record {
      panner = rw (reached_panner g calls) (panner_no_nan g.positions g.lfe fit);
      standing = each_imply Finite32 Number finite_number s.standing h.standing;
      starts = each_imply Finite32 Number finite_number s.starts h.starts;
    }

-- ---- equal bits are equal

float_same : (x y : Float) → Finite32 x → Finite32 y → bits x ≡ bits y → x ≡ y
float_same x y h k e = sym (of_bits-to_bits binary32 x h.held) ∙ ap (of_bits binary32) e ∙ of_bits-to_bits binary32 y k.held

floats_same : (xs ys : List Float) → Each Finite32 xs → Each Finite32 ys → map bits xs ≡ map bits ys → xs ≡ ys
floats_same [] [] h k e = refl
floats_same [] (y ∷ ys) h k e = absurd (omega (arith, ap length e))
floats_same (x ∷ xs) [] h k e = absurd (omega (arith, ap length e))
floats_same (x ∷ xs) (y ∷ ys) h k e =
    let b : bits x ≡ bits y = cc in
    let t : map bits xs ≡ map bits ys = cc in
    let p : x ≡ y = float_same x y h.0 k.0 b in
    let q : xs ≡ ys = floats_same xs ys h.1 k.1 t in
    cc

directions_same : (ds es : List Direction) → Each HeldDirection ds → Each HeldDirection es → map direction_bits ds ≡ map direction_bits es → ds ≡ es
unfolding direction_bits
directions_same [] [] h k e = refl
directions_same [] (b ∷ es) h k e = absurd (omega (arith, ap length e))
directions_same (a ∷ ds) [] h k e = absurd (omega (arith, ap length e))
directions_same (a ∷ ds) (b ∷ es) h k e =
    let x : bits a.azimuth ≡ bits b.azimuth = cc in
    let y : bits a.elevation ≡ bits b.elevation = cc in
    let t : map direction_bits ds ≡ map direction_bits es = cc in
    let az = float_same a.azimuth b.azimuth h.0.azimuth k.0.azimuth x in
    let el = float_same a.elevation b.elevation h.0.elevation k.0.elevation y in
    let r = directions_same ds es h.1 k.1 t in
    λ i. record { azimuth = az i; elevation = el i } ∷ r i

alike_by_bits : (p q : Past) → HeldPast p → HeldPast q → AlikeBits p q → Alike p q
alike_by_bits p q h k b =
    record {
      directions = directions_same p.standing q.standing h.standing k.standing b.directions;
      gains = floats_same p.row q.row h.row k.row b.gains;
    }

session_by_bits : (s t : Session) → s.panner ≡ t.panner → HeldSession s → HeldSession t → SameBits s t → s ≡ t
session_by_bits s t p h k b =
    same_session s t
    (record {
      panner = p;
      sources = b.sources;
      counts = b.counts;
      standing = floats_same s.standing t.standing h.standing k.standing b.standing;
      starts = floats_same s.starts t.starts h.starts k.starts b.starts;
    })

-- ---- and what is equal has equal bits

bits_alike : (p q : Past) → Alike p q → AlikeBits p q
bits_alike p q a = record { directions = ap (map direction_bits) a.directions; gains = ap (map bits) a.gains }

bits_panner : (v w : VbapPanner) → v ≡ w → SamePanner v w
bits_panner v w e =
    record {
      outputs = ap (λ (x : VbapPanner). x.num_outputs) e;
      kind = ap (λ (x : VbapPanner). x.kind) e;
      mono = ap (λ (x : VbapPanner). x.mono) e;
      num_pairs = ap (λ (x : VbapPanner). x.num_pairs) e;
      pairs = ap (λ (x : VbapPanner). map pair_bits x.pairs) e;
      num_slots = ap (λ (x : VbapPanner). x.num_slots) e;
      slots = ap (λ (x : VbapPanner). x.slots) e;
      num_real = ap (λ (x : VbapPanner). x.num_real) e;
      pt_out = ap (λ (x : VbapPanner). x.pt_out) e;
      pt_dir = ap (λ (x : VbapPanner). map bits x.pt_dir) e;
      num_tris = ap (λ (x : VbapPanner). x.num_tris) e;
      idx = ap (λ (x : VbapPanner). x.idx) e;
      inv = ap (λ (x : VbapPanner). map bits x.inv) e;
      num_imag = ap (λ (x : VbapPanner). x.num_imag) e;
      num_nbrs = ap (λ (x : VbapPanner). x.num_nbrs) e;
      imag_nbrs = ap (λ (x : VbapPanner). x.imag_nbrs) e;
    }

bits_session : (s t : Session) → s ≡ t → SameBits s t
bits_session s t e =
    record {
      panner = bits_panner s.panner t.panner (ap (λ (x : Session). x.panner) e);
      sources = ap (λ (x : Session). x.sources) e;
      counts = ap (λ (x : Session). x.counts) e;
      standing = ap (λ (x : Session). map bits x.standing) e;
      starts = ap (λ (x : Session). map bits x.starts) e;
    }

pub demand3_bits : Demand3Bits
demand3_bits g h c fit fit' one two f f' =
    let d = demand3 g h c one two in
    let s = after_all (opened g) one in
    let t = after_all (opened h) two in
    let panners : s.panner ≡ t.panner = reached_panner g one ∙ ap laid c.layout ∙ sym (reached_panner h two) in (
      λ b i m. bits_alike (past_of g one i) (past_of h two i)
          (d.0 (session_by_bits s t panners (reached_held g one fit f) (reached_held h two fit' f') b) i m),
      λ alike. bits_session s t
          (d.1 (λ i m. alike_by_bits (past_of g one i) (past_of h two i) (past_held g fit one f i) (past_held h fit' two f' i) (alike i m))),
    )
