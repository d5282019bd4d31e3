-- The walk over a list, eight numbers at a time: what is left begins behind the eights that came. Assumes nothing.
use Prim.Native.Nat.{ℕ, ◌+◌, ◌-◌, ◌*◌, ◌≤◌, ◌<◌, zero-le}
use mathlib.Core.Path.{◌≡◌, refl, sym, ap, ◌∙◌}
use mathlib.Core.Bool.{Bool, true, false}
use mathlib.Core.List.{List, ◌++◌}
use native.Mathlib.Omega.{arith}
use borrow.Author.Tests.{ltb-true, ltb-false}
use lib.Dec.{ltb}
use lib.Ieee.{Float, nan}
use lib.ListN.{length, get_or, set, drop, length-append, length-drop, get_or-append}
use lib.Seq.{get_or-drop, drop_at, drop-drop}
use Rattle.row_greatest.specs.Inner.Steps.{greater_of, Lanes, passed, AllPassed}
use Rattle.row_greatest.proofs.Tops.{lanes_more}

-- i eights came
pub record Left (l rest : List Float) (size i : ℕ) : Type 0 where
  pub eight : size ≡ 8
  pub within : i * 8 ≤ length l
  pub left : rest ≡ drop (i * 8) l

-- eight numbers, those from the i-th eight on
pub record IsEight (l : List Float) (i : ℕ) (eight : List Float) : Type 0 where
  pub long : length eight ≡ 8
  pub within : i * 8 + 8 ≤ length l
  pub at : (k : ℕ) → k < 8 → get_or eight k nan ≡ get_or l (i * 8 + k) nan

module _ {l rest : List Float} {size i : ℕ} where
  pub left_start : size ≡ 8 → rest ≡ l → i ≡ 0 → Left l rest size i
  left_start e h z = rw (z, h) (record { eight = e; within = omega arith; left = refl })

  module _ (w : Left l rest size i) where
    long : length rest ≡ length l - i * 8
    long = ap length w.left ∙ length-drop (i * 8) l

    -- the next eight
    module _ (eight more : List Float) (e : rest ≡ eight ++ more) (n : length eight ≡ size) where
      room : i * 8 + 8 ≤ length l
      room = omega (arith, long, w.within, w.eight, n, ap length e, length-append eight more)

      pub next_eight : IsEight l i eight
      next_eight = record {
        long = n ∙ w.eight;
        within = room;
        at = λ k h.
            let g : k < length eight = omega (arith, n, w.eight) in
            sym (get_or-append eight more nan k g) ∙ ap (λ (r : List Float). get_or r k nan) (sym e ∙ w.left) ∙ get_or-drop (i * 8) l k nan;
      }

      pub left_on : {size' j : ℕ} → size' ≡ size → j ≡ i + 1 → Left l more size' j
      left_on s f = rw f (record {
        eight = s ∙ w.eight;
        within = omega (arith, room);
        left = sym (drop_at eight more 8 (n ∙ w.eight)) ∙ ap (drop 8) (sym e ∙ w.left) ∙ drop-drop 8 (i * 8) l ∙ ap (λ (k : ℕ). drop k l) (let q : i * 8 + 8 ≡ (i + 1) * 8 = omega arith in q);
      })

-- ---- the lanes of the numbers that came

pub record Taken (l rest : List Float) (size : ℕ) (lanes : List Float) : Type 0 where
  pub done : ℕ
  pub left : Left l rest size done
  pub lanes_of : Lanes l (done * 8) lanes

-- within an eight, of which k numbers came
pub record Turn (l eight rest : List Float) (size k : ℕ) (lanes : List Float) : Type 0 where
  pub done : ℕ
  pub left : Left l rest size (done + 1)
  pub is : IsEight l done eight
  pub lanes_of : Lanes l (done * 8 + k) lanes

module _ {l rest : List Float} {size : ℕ} where
  pub taken_start : size ≡ 8 → rest ≡ l → {lanes : List Float} → Lanes l 0 lanes → Taken l rest size lanes
  taken_start e h a = record { done = 0; left = left_start e h refl; lanes_of = a }

  module _ {lanes : List Float} (t : Taken l rest size lanes) where
    pub turn_start : (eight more : List Float) → rest ≡ eight ++ more → length eight ≡ size → {size' : ℕ} → size' ≡ size → Turn l eight more size' 0 lanes
    turn_start eight more e n s = record {
      done = t.done;
      left = left_on t.left eight more e n s refl;
      is = next_eight t.left eight more e n;
      lanes_of = let q : t.done * 8 + 0 ≡ t.done * 8 = omega arith in rw q t.lanes_of;
    }

module _ {l eight rest : List Float} {size k : ℕ} {lanes : List Float} (t : Turn l eight rest size k lanes) where
  pub turn_more : k < 8 → {m : Float} → m ≡ greater_of (get_or lanes k nan) (get_or eight k nan) → Turn l eight rest size (k + 1) (set lanes k m)
  turn_more h e = record {
    done = t.done;
    left = t.left;
    is = t.is;
    lanes_of = lanes_more l (t.done * 8 + k) (t.done * 8 + (k + 1)) k lanes _ (omega arith) (omega arith) (rw (t.is.at k h) at e) t.lanes_of;
  }

-- ---- the eights that came are passed

pub record Skipped (g : Float) (l rest : List Float) (size i : ℕ) : Type 0 where
  pub left : Left l rest size i
  pub before : AllPassed g l 0 (i * 8)

module _ {g : Float} {l rest : List Float} {size i : ℕ} where
  module _ (s : Skipped g l rest size i) where
    passed_on : (eight : List Float) → IsEight l i eight → AllPassed g eight 0 (length eight) → AllPassed g l 0 (i * 8 + 8)
    passed_on eight is p k a b = by (ltb k (i * 8)) refl
      where
        by : (q : Bool) → ltb k (i * 8) ≡ q → passed g (get_or l k nan) ≡ true
        by true e = s.before k a (ltb-true k (i * 8) e)
        by false e =
            let h : i * 8 ≤ k = ltb-false k (i * 8) e in
            let n : k - i * 8 < 8 = omega arith in
            let f : i * 8 + (k - i * 8) ≡ k = omega arith in
            ap (passed g) (sym (is.at (k - i * 8) n ∙ ap (λ (j : ℕ). get_or l j nan) f)) ∙ p (k - i * 8) zero-le (omega (arith, is.long))

    pub skipped_on : (eight more : List Float) → rest ≡ eight ++ more → length eight ≡ size → {size' j : ℕ} → size' ≡ size → j ≡ i + 1 → AllPassed g eight 0 (length eight) → Skipped g l more size' j
    skipped_on eight more e n {size'} {j} z f p =
        let q : j * 8 ≡ i * 8 + 8 = omega (arith, f) in
        record { left = left_on s.left eight more e n z f; before = rw q (passed_on eight (next_eight s.left eight more e n) p) }
