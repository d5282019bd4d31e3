-- A part of a buffer that comes back ramped is the definition's turn. Assumes nothing.
use Prim.Native.Nat.{ℕ, ◌+◌, ◌-◌, ◌*◌}
use mathlib.Core.Path.{◌≡◌, sym, ap, ◌∙◌}
use mathlib.Core.List.{List, ◌++◌, append_assoc}
use native.Mathlib.Nat.{suc-mul}
use native.Mathlib.Numerals.{add-one}
use native.Mathlib.Omega.{arith}
use borrow.Rule.Slice.PartMut.{put_mid, mid_of, Post-is}
use lib.ListN.{get_or, take, drop}
use lib.Ieee.{Float, nan}
use Rattle.lists.specs.Lists.{part}
use Rattle.mix_ramp.specs.Ramp.{ramp_add_of}
use Rattle.mix_block.specs.Limits.{row_places}
use Rattle.mix_block.specs.Inner.Turns.{ramp_part}
use Rattle.mix_block.specs.declared.Block.{Block}

-- the part of slot o comes back ramped
pub part_back : (b : Block) (i : ℕ) (out ys : List Float) (o : ℕ)
    → let L = b.block in
    ys ≡ ramp_add_of (mid_of (o * L) (o * L + L - o * L) out) (mid_of (i * L) (i * L + L - i * L) b.samples.now) (get_or b.from.now (i * row_places + o) nan) (get_or b.to.now (i * row_places + o) nan)
    → put_mid (o * L) (o * L + L - o * L) out ys ≡ ramp_part b i out o
unfolding ramp_part part
part_back b i out ys o e =
    let L = b.block in
    let s : o * L + L - o * L ≡ L = omega arith in
    let t : i * L + L - i * L ≡ L = omega arith in
    let end : o * L + L ≡ (o + 1) * L = sym (ap (λ (k : ℕ). k * L) (add-one o) ∙ suc-mul o L) in
    let after : drop (o * L + L - o * L) (drop (o * L) out) ≡ drop ((o + 1) * L) out = Post-is (o * L) (o * L + L) out (omega arith) ∙ ap (λ (k : ℕ). drop k out) end in
    ap (λ (x : List Float). take (o * L) out ++ (ys ++ x)) after
    ∙ sym (append_assoc (take (o * L) out) ys (drop ((o + 1) * L) out))
    ∙ ap (λ (x : List Float). take (o * L) out ++ x ++ drop ((o + 1) * L) out) (rw (s, t) at e)
