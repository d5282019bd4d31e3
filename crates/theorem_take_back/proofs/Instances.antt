-- Two consequences of demand 3, by the histories of the calls: a direction taken back leaves only its row, and a direction that stands is held with its sign. Assumes nothing.
use Prim.Native.Nat.{ℕ, zero, suc, ◌<◌}
use mathlib.Core.Path.{◌≡◌, refl, sym, ap, ◌∙◌}
use mathlib.Core.Bool.{Bool, true, false, cond}
use mathlib.Core.List.{List, [], ◌∷◌, ◌++◌, map}
use native.Mathlib.Omega.{arith}
use borrow.Author.Tests.{lt-leb, ne_eqb}
use lib.Dec.{eqb}
use lib.ListN.{length, get_or, replicate, length-append, length-replicate, length-map, get_or-map}
use lib.Seq.{get_or-set_same}
use lib.Ieee.{Float}
use Rattle.lists.specs.Lists.{but_last, change}
use Rattle.lists.proofs.Ends.{but_last_snoc, length_change, change_set}
use Rattle.float_order.specs.Values.{+0, is_finite}
use Rattle.layout_record.specs.Shape.{Layout}
use Rattle.layout_new.specs.Layout.{layout_of}
use Rattle.row_gains.specs.Gains.{finite_or0, row_of}
use Rattle.session_history.specs.Calls.{place, take_back, render}
use Rattle.session_history.specs.History.{Direction, Past, beginning, depth, stand, refusal, relisted, last_row, rerowed, made, step, history, past}
use Rattle.theorem_take_back.specs.Demand3.{Given, history_of, past_of}
use Rattle.theorem_take_back.specs.Instances.{−0, OneRow, ZerosApart}
use Rattle.lists.proofs.Rows.{get_d_fill}
use Rattle.theorem_take_back.proofs.Theorem.{demand3, same_given}

abbrev toward : Float → Float → Direction
toward az el = record { azimuth = finite_or0 az; elevation = finite_or0 el }

abbrev pushed : Direction → Past → Past
pushed d p = relisted (λ ds. ds ++ d ∷ []) p

-- ---- one row

finite_twice : (x : Float) → finite_or0 (finite_or0 x) ≡ finite_or0 x
unfolding finite_or0 is_finite
finite_twice x = by (is_finite x) refl
  where
    by : (b : Bool) → is_finite x ≡ b → cond (is_finite (cond b x +0)) (cond b x +0) +0 ≡ cond b x +0
    by true e = rw e
    by false e = refl

row_of_finite : (l : Layout) (n : ℕ) (az el : Float) → row_of l n (finite_or0 az) (finite_or0 el) ≡ row_of l n az el
unfolding row_of
row_of_finite l n az el = rw (finite_twice az, finite_twice el)

last_row_snoc : (l : Layout) (ds : List Direction) (d : Direction) → last_row l (ds ++ d ∷ []) ≡ row_of l l.outputs d.azimuth d.elevation
unfolding last_row
last_row_snoc l [] d = refl
last_row_snoc l (a ∷ []) d = refl
last_row_snoc l (a ∷ (b ∷ ds)) d = last_row_snoc l (b ∷ ds) d

module _ (l : Layout) (d e : Direction) where
  back : (ps : List Past) (i : ℕ) → change i (relisted but_last) (change i (pushed d) ps) ≡ change i (relisted but_last) (change i (pushed e) ps)
  unfolding change
  back [] i = refl
  back (p ∷ ps) zero =
      let r : but_last (p.standing ++ d ∷ []) ≡ but_last (p.standing ++ e ∷ []) = but_last_snoc p.standing d ∙ sym (but_last_snoc p.standing e) in
      λ k. record { standing = r k; row = p.row } ∷ ps
  back (p ∷ ps) (suc i) = ap (λ (r : List Past). p ∷ r) (back ps i)

  back_rowed : row_of l l.outputs d.azimuth d.elevation ≡ row_of l l.outputs e.azimuth e.elevation → (ps : List Past) (i : ℕ)
      → change i (relisted but_last) (map (rerowed l) (change i (pushed d) ps)) ≡ change i (relisted but_last) (map (rerowed l) (change i (pushed e) ps))
  unfolding change
  back_rowed h [] i = refl
  back_rowed h (p ∷ ps) zero =
      let r : but_last (p.standing ++ d ∷ []) ≡ but_last (p.standing ++ e ∷ []) = but_last_snoc p.standing d ∙ sym (but_last_snoc p.standing e) in
      let w : last_row l (p.standing ++ d ∷ []) ≡ last_row l (p.standing ++ e ∷ []) = last_row_snoc l p.standing d ∙ h ∙ sym (last_row_snoc l p.standing e) in
      λ k. record { standing = r k; row = w k } ∷ map (rerowed l) ps
  back_rowed h (p ∷ ps) (suc i) = ap (λ (r : List Past). rerowed l p ∷ r) (back_rowed h ps i)

-- ---- the steps of the history

step_place : (l : Layout) (ps : List Past) (i : ℕ) (az el : Float) → i < length ps → stand ps i < depth → step l ps (place i az el) ≡ change i (pushed (toward az el)) ps
unfolding step made refusal
step_place l ps i az el h g = rw (lt-leb (length ps) i h, lt-leb depth (stand ps i) g)

step_back : (l : Layout) (ps : List Past) (i : ℕ) → i < length ps → 0 < stand ps i → step l ps (take_back i) ≡ change i (relisted but_last) ps
unfolding step made refusal
step_back l ps i h g = rw (lt-leb (length ps) i h, ne_eqb (stand ps i) 0 (λ e. omega arith))

-- a pushed direction stands, and a new row leaves what stands
stand_pushed : (ps : List Past) (i : ℕ) (d : Direction) → i < length ps → 0 < stand (change i (pushed d) ps) i
unfolding change
stand_pushed [] i d h = omega arith
stand_pushed (p ∷ ps) zero d h = omega (arith, length-append p.standing (d ∷ []))
stand_pushed (p ∷ ps) (suc i) d h = stand_pushed ps i d (omega arith)

stand_rerowed : (l : Layout) (ps : List Past) (i : ℕ) → stand (map (rerowed l) ps) i ≡ stand ps i
stand_rerowed l [] i = refl
stand_rerowed l (p ∷ ps) zero = refl
stand_rerowed l (p ∷ ps) (suc i) = stand_rerowed l ps i

stand_fresh : (l : Layout) (n i : ℕ) → stand (replicate n (beginning l)) i ≡ 0
stand_fresh l n i = ap length (get_or-map (λ p. p.standing) (replicate n (beginning l)) i (beginning l) ∙ ap (λ (p : Past). p.standing) (get_d_fill [] n i (beginning l)))

module _ (l : Layout) (ps : List Past) (i : ℕ) (h : i < length ps) (d : Direction) (L : ℕ) (samples outputs : List Float) where
  abbrev qs : List Past
  qs = change i (pushed d) ps

  -- whether the render is accepted depends on the lengths alone
  render_refusal : refusal l qs (render L samples outputs) ≡ refusal l ps (render L samples outputs)
  unfolding refusal
  render_refusal = rw (length_change i (pushed d) ps)

  render_back : (b : Bool) → eqb (refusal l ps (render L samples outputs)) 0 ≡ b
      → step l (step l qs (render L samples outputs)) (take_back i) ≡ change i (relisted but_last) (cond b (map (rerowed l) qs) qs)
  unfolding step made
  render_back true e =
      let long : length (map (rerowed l) qs) ≡ length ps = length-map qs (rerowed l) ∙ length_change i (pushed d) ps in
      let up : 0 < stand (map (rerowed l) qs) i = omega (arith, stand_rerowed l qs i, stand_pushed ps i d h) in
      rw (render_refusal, e) (step_back l (map (rerowed l) qs) i (omega arith) up)
  render_back false e =
      let long : length qs ≡ length ps = length_change i (pushed d) ps in
      rw (render_refusal, e) (step_back l qs i (omega arith) (stand_pushed ps i d h))

same_past : (l : Layout) (d e : Direction) (ps : List Past) (i : ℕ)
    → row_of l l.outputs d.azimuth d.elevation ≡ row_of l l.outputs e.azimuth e.elevation → (b : Bool)
    → change i (relisted but_last) (cond b (map (rerowed l) (change i (pushed d) ps)) (change i (pushed d) ps))
    ≡ change i (relisted but_last) (cond b (map (rerowed l) (change i (pushed e) ps)) (change i (pushed e) ps))
same_past l d e ps i h true = back_rowed l d e h ps i
same_past l d e ps i h false = back l d e ps i

module _ (g : Given) (i : ℕ) (h : i < g.sources) where
  abbrev l : Layout
  l = layout_of g.positions g.lfe

  abbrev begun : List Past
  begun = replicate g.sources (beginning l)

  placed_first : (az el : Float) → step l begun (place i az el) ≡ change i (pushed (toward az el)) begun
  placed_first az el =
      step_place l begun i az el (omega (arith, length-replicate g.sources (beginning l))) (omega (arith, stand_fresh l g.sources i))

  three : (az el : Float) (L : ℕ) (samples outputs : List Float)
      → history_of g (place i az el ∷ render L samples outputs ∷ take_back i ∷ [])
      ≡ change i (relisted but_last)
      (cond (eqb (refusal l begun (render L samples outputs)) 0)
      (map (rerowed l) (change i (pushed (toward az el)) begun))
      (change i (pushed (toward az el)) begun))
  unfolding history
  three az el L samples outputs =
      rw (placed_first az el)
      (render_back l begun i (omega (arith, length-replicate g.sources (beginning l))) (toward az el) L samples outputs
      (eqb (refusal l begun (render L samples outputs)) 0) refl)

  placed_past : (az el : Float) → (past_of g (place i az el ∷ []) i).standing ≡ toward az el ∷ []
  unfolding past history
  placed_past az el =
      let long = length-replicate g.sources (beginning l) in
      rw (
        placed_first az el,
        change_set i (pushed (toward az el)) begun (beginning l) (omega arith),
        get_or-set_same begun i (pushed (toward az el) (get_or begun i (beginning l))) (beginning l) (omega arith),
        get_d_fill [] g.sources i (beginning l),
      )

pub one_row : OneRow
unfolding past
one_row g i h az el az' el' r L samples outputs =
    let l = layout_of g.positions g.lfe in
    let b = eqb (refusal l (replicate g.sources (beginning l)) (render L samples outputs)) 0 in
    let rows = row_of_finite l l.outputs az el ∙ r ∙ sym (row_of_finite l l.outputs az' el') in
    let same = three g i h az el L samples outputs
    ∙ same_past l (toward az el) (toward az' el') (replicate g.sources (beginning l)) i rows b
    ∙ sym (three g i h az' el' L samples outputs) in
    (demand3 g g (same_given g) _ _).1 (λ j m. record { directions = rw same; gains = rw same })

-- one direction alone, by its two numbers
angles_same : (d e : Direction) → d ∷ [] ≡ e ∷ [] → (d.azimuth ≡ e.azimuth) × (d.elevation ≡ e.elevation)
angles_same d e p = (ap (λ (ds : List Direction). (get_or ds 0 d).azimuth) p, ap (λ (ds : List Direction). (get_or ds 0 d).elevation) p)

apart : +0 ≡ −0 → ⊥
apart e = let z : true ≡ false = cc in let y : ◌≡◌ {A = ℕ} 0 1 = cc in omega arith

pub zeros_apart : ZerosApart
unfolding finite_or0 is_finite
zeros_apart g i h x = (
  λ e.
      let q = (demand3 g g (same_given g) _ _).0 e i h in
      apart (angles_same (toward +0 x) (toward −0 x) (sym (placed_past g i h +0 x) ∙ q.directions ∙ placed_past g i h −0 x)).0,
  λ e.
      let q = (demand3 g g (same_given g) _ _).0 e i h in
      apart (angles_same (toward x +0) (toward x −0) (sym (placed_past g i h x +0) ∙ q.directions ∙ placed_past g i h x −0)).1,
)
