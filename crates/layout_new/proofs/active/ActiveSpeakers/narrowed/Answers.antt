use Rattle.std.proofs.Common.{◌≡◌, ℕ, ◌+◌, ◌-◌, ◌*◌, ◌≤◌, ◌<◌, List, [], ◌∷◌, ◌++◌, map, length, take, drop, append_assoc, append-nil, refl, sym, ap, ◌∙◌, arith, length-take-le}
use Rattle.std.proofs.lemmas.List.{take_more, take_all, drop-drop}
use Rattle.std.proofs.lemmas.List.Edits.{sets-eq}
use borrow.Rule.Slice.PartMut.{put_mid, mid_of}
use mathlib.Core.List.{flat_map}
use lib.Ieee.{Float, of_bits}
use lib.ListN.{length-append, length-drop}
use lib.Seq.{sets}
use Rattle.lists.specs.Lists.{filled}
use Rattle.lists.proofs.Collect.{flat_map_snoc}
use Rattle.lists.proofs.Filled.{set_filled_at}
use Rattle.float_order.specs.Values.{+0}
use Rattle.float_widths.specs.Narrow.{narrow_of}
use Rattle.vector.specs.declared.Speaker.{Speaker}
use Rattle.layout_new.proofs.Building.{narrowed_of, narrowed_are}
use Rattle.layout_new.proofs.active.ActiveSpeakers.narrowed.Goals as goal

pub loop-i-init : goal.loop-i-init
unfolding filled flat_map of_bits
loop-i-init c = (refl, refl)

-- what is stored has the length of its place
three-long : (dir new u : List Float) (k : ℕ) → new ≡ u → length new ≡ length (mid_of k (k + 3 - k) dir) → k + 3 ≤ length dir → length u ≡ 3
three-long dir new u k e l h =
    let m : length (take (k + 3 - k) (drop k dir)) ≡ k + 3 - k = length-take-le (k + 3 - k) (drop k dir) (omega (arith, length-drop k dir)) in
    omega (arith, ap length e, l, m)

-- three stores from place k on
stored : (dir new u : List Float) (k : ℕ) → new ≡ u → length u ≡ 3 → k + 3 ≤ length dir → put_mid k (k + 3 - k) dir new ≡ sets dir k u
stored dir new u k e t h =
    let w : k + 3 - k ≡ 3 = omega arith in
    rw (w, e, drop-drop 3 k dir, ← append_assoc (take k dir) u (drop (k + 3) dir), ← t) (sym (sets-eq u dir k (omega arith)))

-- several elements more
sets-filled : (vs l : List Float) {a : List Float} {k : ℕ} → length l + length vs ≤ 120 → a ≡ filled 120 +0 l → k ≡ length l → sets a k vs ≡ filled 120 +0 (l ++ vs)
sets-filled [] l h e g = e ∙ ap (filled 120 +0) (sym (append-nil l))
sets-filled (v ∷ vs) l h e g =
    sets-filled vs (l ++ v ∷ []) (omega (arith, length-append l (v ∷ []))) (set_filled_at 120 +0 l v (omega arith) e g) (omega (arith, length-append l (v ∷ [])))
    ∙ ap (filled 120 +0) (append_assoc l (v ∷ []) vs)

pub loop-i-preserved : goal.loop-i-preserved
loop-i-preserved c =
    let l = c.used-s-items.result.now in
    let i = c.loop-i.i in
    let r = c.loop-i.r in
    let few : i < 40 = omega (arith, c.loop-i-test.true, c.used-s-items.ensures.few) in
    let inv = c.loop-i.invariant in
    let d = c.direction32.result in
    let room : i * 3 + 3 ≤ length r = omega (arith, few) in
    let t = three-long r c.copy_from_slice.new.self d (i * 3) c.copy_from_slice.ensures.after c.copy_from_slice.ensures.len room in
    let more : narrowed_of (take i l) ++ d ≡ narrowed_of (take (i + 1) l) =
    ap (λ (v : List Float). narrowed_of (take i l) ++ v) c.direction32.ensures
    ∙ sym (ap narrowed_of (take_more l i _ c.loop-i-test.true) ∙ flat_map_snoc (λ s. map narrow_of s.dir) (take i l) _) in (
      stored r c.copy_from_slice.new.self d (i * 3) c.copy_from_slice.ensures.after t room
          ∙ sets-filled d (narrowed_of (take i l)) (omega (arith, few, t, inv.1)) inv.0 (sym inv.1)
          ∙ ap (filled 120 +0) more,
      sym (ap length more) ∙ omega (arith, length-append (narrowed_of (take i l)) d, inv.1, t),
    )

pub returns : goal.returns
returns c =
    c.loop-i.invariant.0
    ∙ ap (λ (l : List Speaker). filled 120 +0 (narrowed_of l)) (take_all c.loop-i.i c.used-s-items.result.now c.loop-i-test.false ∙ c.used-s-items.ensures.are)
    ∙ ap (filled 120 +0) (narrowed_are c.args.self.now)
