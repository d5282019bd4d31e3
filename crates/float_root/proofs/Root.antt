-- Laws of `whole_root` and `round_root`. Assumes nothing.
use mathlib.Core.Path.{◌≡◌, refl, sym, ap, ap₂, ◌∙◌, subst}
use mathlib.Core.Logic.{◌⊎◌, inl, inr}
use Prim.Native.Nat.{ℕ, zero, suc, ◌+◌, ◌-◌, ◌*◌, ◌/◌, ◌%◌, ◌^◌, ◌≤◌, ◌<◌, compare, Ordering}
use native.Mathlib.Nat.{le_antisymm, le_trans, le_of_eq, lt_of_lt_of_le, lt_of_le_of_lt, le_of_suc-le-suc, mul_comm, mul_assoc, mul_left_comm, mul-mul-mul_comm, mul-pos, mul-le-mul, mul-le-mul_right, mul-lt-mul_of_pos_right, le-div_iff_mul-le, div-lt_iff_lt-mul, div-add-mod', mod-lt, add-mul, pow-suc, one-mul, eq-zero-or-pos}
use native.Mathlib.Omega.{arith}
use mathlib.Core.Bool.{Bool, true, false, not, cond}
use lib.Dec.{T, leb, leb→le, nleb→lt}
use lib.Pow.{pow-add, pow_pos, shr-shr}
use lib.Ieee.{Format, prec, size, nearest, units}
use lib.Ieee.Digits.{size-lt}
use lib.Ieee.Nearest.{closest}
use Rattle.float_root.specs.Root.{grow, root_by, whole_root, round_root}
use Rattle.float_order.proofs.Laws.{is_lt, is_gt, is_eq, drop_is, closest_by, double}
use Rattle.float_root_digits.proofs.Squares.{sq_lt, sq_suc, sq_twice}
use Rattle.float_widths.proofs.Grid.{sides}

-- r is the whole part of the root of n
abbrev pub IsRoot : ℕ → ℕ → Type 0
IsRoot n r = (r * r ≤ n) × (n < suc r * suc r)

grown : (n r : ℕ) → IsRoot (n / 4) r → IsRoot n (grow n (2 * r))
unfolding grow
grown n r h = go (leb (suc (2 * r) * suc (2 * r)) n) (leb→le (suc (2 * r) * suc (2 * r)) n) (nleb→lt (suc (2 * r) * suc (2 * r)) n)
  where
    go : (b : Bool) → (T b → suc (2 * r) * suc (2 * r) ≤ n) → (T (not b) → n < suc (2 * r) * suc (2 * r)) → IsRoot n (cond b (suc (2 * r)) (2 * r))
    go true x y =
        let a = h.1 in
        let e : suc (suc (2 * r)) * suc (suc (2 * r)) ≡ 4 * (suc r * suc r) = ap (λ (z : ℕ). z * z) (two r) ∙ sq_twice (suc r) in
        (x tt, omega arith)
      where
        two : (r : ℕ) → suc (suc (2 * r)) ≡ 2 * suc r
        two r = omega arith
    go false x y =
        let a = h.0 in
        let e = sq_twice r in
        (omega arith, y tt)

rooted : (d n : ℕ) → n < 2 ^ d → IsRoot n (root_by d n)
unfolding root_by
rooted zero n h = let e : n ≡ 0 = omega arith in (omega arith, omega arith)
rooted (suc d) n h = grown n (root_by d (n / 4)) (rooted d (n / 4) (less n (2 ^ d) (subst (λ (x : ℕ). n < x) (pow-add 2 1 d) (subst (λ (x : ℕ). n < 2 ^ x) (one d) h))))
  where
    one : (d : ℕ) → suc d ≡ 1 + d
    one d = omega arith

    less : (n p : ℕ) → n < 2 * p → n / 4 < p
    less n p h = omega arith

pub root_is : (n : ℕ) → IsRoot n (whole_root n)
unfolding whole_root
root_is n = rooted (size n) n (size-lt n)

pub four : (d : ℕ) → 4 ^ d ≡ 2 ^ d * 2 ^ d
four zero = refl
four (suc d) = pow-suc 4 d ∙ ap (λ (x : ℕ). x * 4) (four d) ∙ mul-mul-mul_comm (2 ^ d) (2 ^ d) 2 2 ∙ ap (λ (x : ℕ). x * x) (sym (pow-suc 2 d))

four_pos : (d : ℕ) → 0 < 4 ^ d
four_pos d = subst (λ (x : ℕ). 0 < x) (sym (four d)) (mul-pos (pow_pos d) (pow_pos d))

-- ---- with more digits after it, n's root goes on
pub scaled_root : (v d r : ℕ) → IsRoot v r → whole_root (v * 4 ^ d) / 2 ^ d ≡ r
scaled_root v d r h =
    let R = whole_root (v * 4 ^ d) in
    let g = root_is (v * 4 ^ d) in
    let p = pow_pos d in
    let q : (a : ℕ) → a * 2 ^ d * (a * 2 ^ d) ≡ a * a * 4 ^ d = λ a. mul-mul-mul_comm a (2 ^ d) a (2 ^ d) ∙ ap (λ (x : ℕ). a * a * x) (sym (four d)) in
    let lo : r * 2 ^ d ≤ R = le_of_suc-le-suc (sq_lt (r * 2 ^ d) (suc R) (lt_of_le_of_lt (le_trans (le_of_eq (q r)) (mul-le-mul_right (4 ^ d) h.0)) g.1)) in
    let hi : R < suc r * 2 ^ d = sq_lt R (suc r * 2 ^ d) (lt_of_le_of_lt g.0 (lt_of_lt_of_le (mul-lt-mul_of_pos_right h.1 (four_pos d)) (le_of_eq (sym (q (suc r)))))) in
    le_antisymm (le_of_suc-le-suc ((div-lt_iff_lt-mul p).1 hi)) ((le-div_iff_mul-le p).1 lo)

-- ---- a root of which some digits and the remainder are known, compared with a number in the middle between two
-- 1 where something is left over
abbrev pub Sticky : ℕ → ℕ → Type 0
Sticky rem st = (rem ≡ 0 → st ≡ 0) × (0 < rem → st ≡ 1)

abbrev Both : Ordering → Ordering → Type 0
Both o p = ((o ≡ Ordering.lt) × (p ≡ Ordering.lt)) ⊎ (((o ≡ Ordering.eq) × (p ≡ Ordering.eq)) ⊎ ((o ≡ Ordering.gt) × (p ≡ Ordering.gt)))

both : (o p : Ordering) → Both o p → o ≡ p
both o p (inl a) = a.0 ∙ sym a.1
both o p (inr (inl a)) = a.0 ∙ sym a.1
both o p (inr (inr a)) = a.0 ∙ sym a.1

-- t is the middle: g above q * (2 * g); p is what root has above q * (2 * g)
middle : (v root rem st t a g p : ℕ) → v ≡ root * root + rem → rem ≤ 2 * root → Sticky rem st → root ≡ a + p → t ≡ a + g → Both (compare v (t * t)) (compare ((2 * p + st) * 2) (2 * (2 * g)))
middle v root rem st t a g p e h s x y = go (sides root t)
  where
    st_le : st ≤ 1
    st_le = elim (eq-zero-or-pos rem) [ inl z ↦ let k = s.0 z in omega arith | inr z ↦ let k = s.1 z in omega arith ]

    go : (root < t) ⊎ ((root ≡ t) ⊎ (t < root)) → Both (compare v (t * t)) (compare ((2 * p + st) * 2) (2 * (2 * g)))
    go (inl l) =
        let m : suc root * suc root ≤ t * t = mul-le-mul l l in
        let n = sq_suc root in
        let k = st_le in
        inl (is_lt v (t * t) (omega arith), is_lt ((2 * p + st) * 2) (2 * (2 * g)) (omega arith))
    go (inr (inl i)) =
        let m : root * root ≡ t * t = ap (λ (z : ℕ). z * z) i in
        elim (eq-zero-or-pos rem) [
          | inl z ↦ let k = s.0 z in inr (inl (is_eq v (t * t) (omega arith), is_eq ((2 * p + st) * 2) (2 * (2 * g)) (omega arith)))
          | inr z ↦ let k = s.1 z in inr (inr (is_gt v (t * t) (omega arith), is_gt ((2 * p + st) * 2) (2 * (2 * g)) (omega arith)))
        ]
    go (inr (inr l)) =
        let m : suc t * suc t ≤ root * root = mul-le-mul l l in
        let n = sq_suc t in
        inr (inr (is_gt v (t * t) (omega arith), is_gt ((2 * p + st) * 2) (2 * (2 * g)) (omega arith)))

-- equal factors change no comparison
compare_scale : (a b c : ℕ) → 0 < c → compare (a * c) (b * c) ≡ compare a b
compare_scale a b c C = go (sides a b)
  where
    go : (a < b) ⊎ ((a ≡ b) ⊎ (b < a)) → compare (a * c) (b * c) ≡ compare a b
    go (inl l) = is_lt (a * c) (b * c) (mul-lt-mul_of_pos_right l C) ∙ sym (is_lt a b l)
    go (inr (inl e)) = is_eq (a * c) (b * c) (ap (λ (z : ℕ). z * c) e) ∙ sym (is_eq a b e)
    go (inr (inr l)) = is_gt (a * c) (b * c) (mul-lt-mul_of_pos_right l C) ∙ sym (is_gt a b l)

-- ---- `round_root`, from prec + w digits of the root and the remainder
pub round_root_lem : (f : Format) (v d w root rem st : ℕ) → v ≡ root * root + rem → rem ≤ 2 * root → Sticky rem st → 0 < w → 2 ^ (prec f - 1) * 2 ^ w ≤ root → root < 2 ^ prec f * 2 ^ w
    → round_root f (v * 4 ^ d) ≡ units f false (closest (2 * root + st) (2 ^ (w + 1))) (d + w)
unfolding round_root
round_root_lem f v d w root rem st e h s W lo hi =
    let n = v * 4 ^ d in
    let R = whole_root n in
    let is : IsRoot v root = let x = sq_suc root in (omega arith, omega arith) in
    let r : R / 2 ^ d ≡ root = scaled_root v d root is in
    let hi' : R < 2 ^ prec f * 2 ^ w * 2 ^ d = (div-lt_iff_lt-mul (pow_pos d)).0 (subst (λ (x : ℕ). x < 2 ^ prec f * 2 ^ w) (sym r) hi) in
    let lo' : 2 ^ (prec f - 1) * 2 ^ w * 2 ^ d ≤ R = (le-div_iff_mul-le (pow_pos d)).0 (subst (λ (x : ℕ). 2 ^ (prec f - 1) * 2 ^ w ≤ x) (sym r) lo) in
    let k : size R - prec f ≡ d + w =
    drop_is f R (d + w) (lt_of_lt_of_le hi' (le_of_eq (spread (prec f)))) (λ _. le_trans (le_of_eq (sym (spread (prec f - 1)))) lo') in
    let q = root / 2 ^ w in
    let kept : R / 2 ^ (d + w) ≡ q = sym (shr-shr R d w) ∙ ap (λ (x : ℕ). x / 2 ^ w) r in
    let g = 2 ^ (w - 1) in
    let two : 2 ^ w ≡ 2 * g = double w W in
    let p = root % 2 ^ w in
    let t = (2 * q + 1) * g in
    let H = (2 * q + 1) * 2 ^ (d + w) in
    let sq : H * H ≡ t * t * (4 ^ d * 4) =
    ap (λ (x : ℕ). x * x) (ap (λ (x : ℕ). (2 * q + 1) * x) (pow-add 2 d w ∙ ap (λ (x : ℕ). 2 ^ d * x) two)) ∙ square (2 * q + 1) (2 ^ d) g ∙ ap (λ (x : ℕ). t * t * (x * 4)) (sym (four d)) in
    let cmp : compare (n * 4) (H * H) ≡ compare v (t * t) =
    ap₂ compare (mul_assoc v (4 ^ d) 4) sq ∙ compare_scale v (t * t) (4 ^ d * 4) (mul-pos (four_pos d) (pow_pos 2)) in
    let a = q * (2 * g) in
    let root_is' : root ≡ a + p = sym (div-add-mod' root (2 ^ w)) ∙ ap (λ (x : ℕ). q * x + p) two in
    let t_is : t ≡ a + g = add-mul (2 * q) 1 g ∙ ap₂ (λ (x y : ℕ). x + y) (ap (λ (x : ℕ). x * g) (mul_comm 2 q) ∙ mul_assoc q 2 g) (one-mul g) in
    let p_lt : p < 2 * g = lt_of_lt_of_le (mod-lt root (pow_pos w)) (le_of_eq two) in
    let st_le : st ≤ 1 = elim (eq-zero-or-pos rem) [ inl z ↦ let k = s.0 z in omega arith | inr z ↦ let k = s.1 z in omega arith ] in
    let whole : 2 * root + st ≡ q * (2 * (2 * g)) + (2 * p + st) = let x : q * (2 * (2 * g)) ≡ 2 * a = mul_left_comm q 2 (2 * g) in omega arith in
    let cl : closest (2 * root + st) (2 ^ (w + 1)) ≡ nearest q (compare ((2 * p + st) * 2) (2 * (2 * g))) =
    ap₂ closest whole (pow-add 2 w 1 ∙ mul_comm (2 ^ w) 2 ∙ ap (λ (x : ℕ). 2 * x) two) ∙ closest_by q (2 * (2 * g)) (2 * p + st) (omega arith) in
    ap (λ (z : ℕ). units f false (nearest (R / 2 ^ z) (compare (n * 4) ((2 * (R / 2 ^ z) + 1) * 2 ^ z * ((2 * (R / 2 ^ z) + 1) * 2 ^ z)))) z) k
    ∙ ap (λ (z : ℕ). units f false (nearest z (compare (n * 4) ((2 * z + 1) * 2 ^ (d + w) * ((2 * z + 1) * 2 ^ (d + w))))) (d + w)) kept
    ∙ ap (λ (o : Ordering). units f false (nearest q o) (d + w)) (cmp ∙ both (compare v (t * t)) (compare ((2 * p + st) * 2) (2 * (2 * g))) (middle v root rem st t a g p e h s root_is' t_is))
    ∙ ap (λ (z : ℕ). units f false z (d + w)) (sym cl)
  where
    spread : (x : ℕ) → 2 ^ x * 2 ^ w * 2 ^ d ≡ 2 ^ (x + (d + w))
    spread x = simp (pow-add, mul_assoc, mul_comm, mul_left_comm)

    square : (u x g : ℕ) → u * (x * (2 * g)) * (u * (x * (2 * g))) ≡ u * g * (u * g) * (x * x * 4)
    square u x g = simp (mul_assoc, mul_comm, mul_left_comm) (omega arith)
