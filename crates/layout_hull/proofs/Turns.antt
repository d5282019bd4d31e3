-- Laws of one turn of the third loop, by what the code learns of the triple: what the arrays hold is what the definition gathers up to the next triple. Assumes nothing.
use Prim.Native.Nat.{ℕ, ◌+◌, ◌*◌, ◌≤◌, ◌<◌}
use mathlib.Core.Path.{◌≡◌, sym, ap, ◌∙◌}
use mathlib.Core.Bool.{Bool, true, false}
use mathlib.Core.List.{List, [], ◌∷◌, ◌++◌}
use native.Mathlib.Omega.{arith}
use lib.ListN.{length}
use lib.Ieee.{Float, lt}
use lib.Seq.{sets}
use Rattle.float_order.specs.Values.{abs}
use Rattle.vector.specs.Vector.{Points, determinant_of}
use Rattle.layout_faces.specs.Faces.{Plane, point}
use Rattle.layout_faces.specs.Inner.Steps.{face_of}
use Rattle.layout_faces.specs.declared.Face.{Face}
use Rattle.layout_faces.specs.declared.Face.TheVariants.{Skip, Open, Outward}
use Rattle.layout_fan.specs.Inner.Steps.{fan_test}
use Rattle.layout_hull.specs.Triplets.{Verdict, skip, open_hull, keep, least_determinant, verdict, inverse_by}
use Rattle.layout_hull.specs.Inner.Steps.{inverses_with, put_of}
use Rattle.layout_hull.specs.declared.Hull.{Hull}
use Rattle.layout_hull.proofs.Laid.{laid_of, laid_skip, laid_open, laid_keep, put_full, put_more}
use Rattle.layout_hull.proofs.Verdicts.{at_third, third_more, triplet_at, verdict_skip, verdict_open, verdict_out, verdict_small, verdict_keep}

-- the third loop stands at k, and h is what the triples passed so far lay
abbrev pub Third : Points → ℕ → ℕ → ℕ → Hull → Type 0
Third pts i j k h = (i + 1 ≤ j) × (j + 1 ≤ k) × (k ≤ length pts) × (h ≡ laid_of (length pts) (at_third (verdict pts) (length pts) i j k))

module _ (pts : Points) (i j k : ℕ) (h : Hull) (inv : Third pts i j k h) (below : k < length pts) where
  abbrev n : ℕ
  n = length pts

  abbrev det : Float
  det = determinant_of (point pts i) (point pts j) (point pts k)

  again : (v : Verdict) → verdict pts i j k ≡ v → laid_of n (at_third (verdict pts) n i j k ++ v ∷ []) ≡ laid_of n (at_third (verdict pts) n i j (k + 1))
  again v e = ap (laid_of n) (rw (← e) (sym (third_more (verdict pts) n i j k inv.1)))

  next : {g : Hull} → g ≡ laid_of n (at_third (verdict pts) n i j (k + 1)) → Third pts i j (k + 1) g
  next e = (inv.0, omega arith, omega arith, e)

  skipped : verdict pts i j k ≡ skip → Third pts i j (k + 1) h
  skipped v = next (inv.3 ∙ laid_skip n _ ∙ again skip v)

  -- f is what the face tests say of the triple
  module _ {f : Face} (ef : f ≡ face_of pts i j k) where
    pub turn_skip : f ≡ Skip → Third pts i j (k + 1) h
    turn_skip e = skipped (verdict_skip pts i j k (sym ef ∙ e))

    pub turn_open : f ≡ Open → Third pts i j (k + 1) (record { idx = h.idx; inv = h.inv; count = h.count; over = h.over; enclosed = false })
    turn_open e = next (laid_open n _ h inv.3 ∙ again open_hull (verdict_open pts i j k (sym ef ∙ e)))

    -- b is whether the triple is a part of the fan
    module _ {g : Plane} (eo : f ≡ Outward g) {b : Bool} (eb : b ≡ fan_test pts i j k g) where
      pub turn_out : b ≡ false → Third pts i j (k + 1) h
      turn_out e = skipped (verdict_out pts i j k g (sym ef ∙ eo) (sym eb ∙ e))

      -- c and s are the determinant and its size
      module _ (et : b ≡ true) {c s : Float} (ec : c ≡ det) (es : s ≡ abs c) where
        pub turn_small : lt s least_determinant ≡ true → Third pts i j (k + 1) h
        turn_small e = skipped (verdict_small pts i j k g (sym ef ∙ eo) (sym eb ∙ et) (rw (← ec, ← es) e))

        module _ (el : lt s least_determinant ≡ false) where
          kept : put_of h i j k (inverse_by (point pts i) (point pts j) (point pts k) c) ≡ laid_of n (at_third (verdict pts) n i j (k + 1))
          kept =
              rw (ec, inv.3)
              (laid_keep n _ (triplet_at pts i j k)
              ∙ again (keep (triplet_at pts i j k)) (verdict_keep pts i j k g (sym ef ∙ eo) (sym eb ∙ et) (rw (← ec, ← es) el)))

          pub turn_full : 80 ≤ h.count → Third pts i j (k + 1) (record { idx = h.idx; inv = h.inv; count = h.count; over = true; enclosed = h.enclosed })
          turn_full u = next (put_full h i j k _ u ∙ kept)

          -- m is the inverse; a and v are the arrays with the triplet
          pub turn_keep : {m v : List Float} {a : List ℕ} → h.count < 80 → m ≡ inverse_by (point pts i) (point pts j) (point pts k) c
              → a ≡ sets h.idx (h.count * 3) (i ∷ j ∷ k ∷ [])
              → v ≡ inverses_with h.inv h.count m 9
              → Third pts i j (k + 1) (record { idx = a; inv = v; count = h.count + 1; over = h.over; enclosed = h.enclosed })
          turn_keep u em ea ev = next (rw (ea, ev, em) (put_more h i j k _ u ∙ kept))
