-- `float_root::root_parts` meets its contract: 55 digits of the root and one that says whether anything is left round as the root does. Assumes nothing.
use mathlib.Core.Path.{◌≡◌, sym, ap, ◌∙◌, subst}
use mathlib.Core.Bool.{Bool, false, not}
use lib.Dec.{eqb}
use borrow.Author.Tests.{ne_eqb}
use mir.Val.{bool_byte}
use Prim.Native.Nat.{ℕ, zero, suc, ◌+◌, ◌-◌, ◌*◌, ◌/◌, ◌%◌, ◌^◌, ◌≤◌, ◌<◌}
use native.Mathlib.Nat.{le_trans, le_of_eq, lt_of_lt_of_le, mod-eq_of_lt, mul_assoc, mul_comm, mul-le-mul_right}
use native.Mathlib.Omega.{arith}
use lib.Count.{count_leading_zeros, leading_top}
use lib.Pow.{pow-add, pow_pos, pow_mono, shl_lt}
use lib.Ieee.{Format, prec, low, units}
use lib.Ieee.Nearest.{closest}
use Rattle.float_root.specs.Root.{round_root}
use Rattle.float_order.proofs.Laws.{closest_le, closest_ge, long}
use Rattle.float_root.proofs.Root.{Sticky, four, round_root_lem}
use Rattle.float_root.proofs.root_parts.Goals as goal
use Rattle.float_root.proofs.root_parts.Goals.{Start}

-- z leading zeros; as many of them are shifted out as leave the exponent even
abbrev shift : ℕ → ℕ → ℕ → ℕ
shift z j scale = z - (z + j + scale) % 2

abbrev half : ℕ → ℕ → ℕ → ℕ
half z j scale = (j + scale - shift z j scale) / 2

module _ (z j scale : ℕ) (a : 1 ≤ z) (b : z ≤ 63) (l : 63 ≤ scale) where
  even : 2 * half z j scale + shift z j scale ≡ j + scale
  even = omega arith

  least : z ≤ shift z j scale + 1
  least = omega arith

zeros : (m : ℕ) → 0 < m → m < 2 ^ 63 → (1 ≤ count_leading_zeros 64 m) × (count_leading_zeros 64 m ≤ 63)
zeros m p h =
    let t = leading_top 64 m p (lt_of_lt_of_le h (pow_mono {i = 63} {j = 64} (omega arith))) in
    let i = t.0 in
    let k : i < 63 = long m 63 i t.2 h in
    let e = t.1 in
    (omega arith, omega arith)

aligned : (m j scale : ℕ) → 0 < m → m < 2 ^ 63 → 63 ≤ scale → (2 ^ 62 ≤ m * 2 ^ shift (count_leading_zeros 64 m) j scale) × (m * 2 ^ shift (count_leading_zeros 64 m) j scale < 2 ^ 64)
aligned m j scale p h l =
    let t = leading_top 64 m p (lt_of_lt_of_le h (pow_mono {i = 63} {j = 64} (omega arith))) in
    let i = t.0 in
    let e = t.1 in
    let z = count_leading_zeros 64 m in
    let s = zeros m p h in
    let c = shift z j scale in
    let k = least z j scale s.0 s.1 l in (
      le_trans (pow_mono (up z i c e k)) (le_trans (le_of_eq (pow-add 2 i c)) (mul-le-mul_right (2 ^ c) t.2)),
      lt_of_lt_of_le (shl_lt (suc i) c t.3) (pow_mono (down z i ((z + j + scale) % 2) e)),
    )
  where
    up : (z i c : ℕ) → z + suc i ≡ 64 → z ≤ c + 1 → 62 ≤ i + c
    up z i c a b = omega arith

    down : (z i x : ℕ) → z + suc i ≡ 64 → suc i + (z - x) ≤ 64
    down z i x a = omega arith

-- the number whose root is taken
number : (m j scale l : ℕ) → l ≡ scale + 46 → 0 < m → m < 2 ^ 63 → 63 ≤ scale
    → m * 2 ^ j * 2 ^ l ≡ m * 2 ^ shift (count_leading_zeros 64 m) j scale * 2 ^ 46 * 4 ^ half (count_leading_zeros 64 m) j scale
number m j scale l e p h b =
    let z = count_leading_zeros 64 m in
    let s = zeros m p h in
    let c = shift z j scale in
    let d = half z j scale in
    let k : j + l ≡ c + 46 + (d + d) = let x = even z j scale s.0 s.1 b in omega arith in
    mul_assoc m (2 ^ j) (2 ^ l)
    ∙ ap (λ (x : ℕ). m * x) (sym (pow-add 2 j l) ∙ ap (λ (x : ℕ). 2 ^ x) k ∙ pow-add 2 (c + 46) (d + d) ∙ ap (λ (x : ℕ). x * 2 ^ (d + d)) (pow-add 2 c 46))
    ∙ ap (λ (x : ℕ). m * (2 ^ c * 2 ^ 46 * x)) (pow-add 2 d d ∙ sym (four d))
    ∙ sym (mul_assoc m (2 ^ c * 2 ^ 46) (4 ^ d))
    ∙ ap (λ (x : ℕ). x * 4 ^ d) (sym (mul_assoc m (2 ^ c) (2 ^ 46)))

abbrev Rounded : Format → ℕ → ℕ → ℕ → Type 0
Rounded f n q k = (q ≤ 2 ^ prec f) × (2 ^ (prec f - 1) ≤ q) × (units f false q k ≡ round_root f n)

-- the whole root of v, which has 55 digits, and what is left
abbrev Digits : ℕ → ℕ → ℕ → Type 0
Digits v root rem = (v ≡ root * root + rem) × (rem ≤ 2 * root) × (2 ^ 54 ≤ root) × (root < 2 ^ 55)

rounded : (f : Format) (n v d w root rem st : ℕ) → prec f + w ≡ 55 → 0 < w → w < 54 → n ≡ v * 4 ^ d → Digits v root rem → Sticky rem st → st ≤ 1
    → Rounded f n (closest (root * 2 + st) (2 ^ (w + 1))) (d + w)
rounded f n v d w root rem st hp hw hv e g s t =
    let two : (x : ℕ) → x + w ≡ 54 → 2 ^ x * 2 ^ w ≡ 2 ^ 54 = λ x h. sym (pow-add 2 x w) ∙ ap (λ (y : ℕ). 2 ^ y) h in
    let three : 2 ^ prec f * 2 ^ w ≡ 2 ^ 55 = sym (pow-add 2 (prec f) w) ∙ ap (λ (y : ℕ). 2 ^ y) hp in
    let lower : 2 ^ (prec f - 1) * 2 ^ w ≡ 2 ^ 54 = two (prec f - 1) (omega arith) in
    let wide : (x : ℕ) → 2 ^ x * 2 ^ (w + 1) ≡ 2 ^ x * 2 ^ w * 2 = λ x. ap (λ (y : ℕ). 2 ^ x * y) (pow-add 2 w 1) ∙ sym (mul_assoc (2 ^ x) (2 ^ w) 2) in
    let a : 2 ^ prec f * 2 ^ (w + 1) ≡ 2 ^ 56 = wide (prec f) ∙ ap (λ (x : ℕ). x * 2) three in
    let b : 2 ^ (prec f - 1) * 2 ^ (w + 1) ≡ 2 ^ 55 = wide (prec f - 1) ∙ ap (λ (x : ℕ). x * 2) lower in (
      closest_le (root * 2 + st) (2 ^ (w + 1)) (2 ^ prec f) (pow_pos (w + 1)) (omega arith),
      closest_ge (root * 2 + st) (2 ^ (w + 1)) (2 ^ (prec f - 1)) (pow_pos (w + 1)) (omega arith),
      ap (λ (x : ℕ). units f false (closest (x + st) (2 ^ (w + 1))) (d + w)) (mul_comm root 2)
          ∙ sym (ap (round_root f) e ∙ round_root_lem f v d w root rem st g.0 g.1 s hw (le_trans (le_of_eq lower) g.2) (lt_of_lt_of_le g.3 (le_of_eq (sym three)))),
    )

module _ (c : Start) where
  abbrev zeros_of : ℕ
  zeros_of = count_leading_zeros 64 c.args.m

  abbrev word : ℕ
  word = c.args.m * 2 ^ shift zeros_of c.args.j c.args.scale

  zs : (1 ≤ zeros_of) × (zeros_of ≤ 63)
  zs = zeros c.args.m c.requires.0 c.requires.1

  al : (2 ^ 62 ≤ word) × (word < 2 ^ 64)
  al = aligned c.args.m c.args.j c.args.scale c.requires.0 c.requires.1 c.requires.3

  -- the shift loses nothing
  same : word % 2 ^ 64 ≡ word
  same = mod-eq_of_lt al.1

  final : (root rem st q : ℕ) → Digits (word % 2 ^ 64 * 2 ^ 46) root rem → Sticky rem st → st ≤ 1 → q ≡ closest (root * 2 + st) (2 ^ (c.args.dropped + 1))
      → (f : Format) → prec f + c.args.dropped ≡ 55 → low f ≡ c.args.scale + 46 → Rounded f (c.args.m * 2 ^ c.args.j * 2 ^ low f) q (half zeros_of c.args.j c.args.scale + c.args.dropped)
  final root rem st q g s t i f p l =
      let a = c.args in
      let n = a.m * 2 ^ a.j * 2 ^ low f in
      let d = half zeros_of a.j a.scale in
      subst (λ (x : ℕ). Rounded f n x (d + a.dropped)) (sym i)
      (rounded f n (word * 2 ^ 46) d a.dropped root rem st p c.requires.5 c.requires.6 (number a.m a.j a.scale (low f) l c.requires.0 c.requires.1 c.requires.3) (subst (λ (x : ℕ). Digits (x * 2 ^ 46) root rem) same g) s t)

pub overflow_add-shift : goal.overflow_add-shift
overflow_add-shift c = let s = zs c in omega arith

pub overflow_add-shift-2 : goal.overflow_add-shift-2
overflow_add-shift-2 c = let s = zs c in omega arith

pub overflow_sub-shift : goal.overflow_sub-shift
overflow_sub-shift c = let s = zs c in omega arith

pub overflow_sub-half : goal.overflow_sub-half
overflow_sub-half c = let s = zs c in omega arith

pub overflow_cast-shift : goal.overflow_cast-shift
overflow_cast-shift c = let s = zs c in omega arith

pub overflow_shl-m : goal.overflow_shl-m
overflow_shl-m c = let s = zs c in omega arith

pub root_by_digits-r-requires : goal.root_by_digits-r-requires
root_by_digits-r-requires c = le_trans (al c).0 (le_of_eq (sym (same c)))

-- 1 where something is left
stuck : (rem st : ℕ) → st ≡ bool_byte (not (eqb rem 0)) → Sticky rem st × (st ≤ 1)
stuck zero st e = (((λ _. e), (λ h. absurd (omega arith))), omega arith)
stuck (suc n) st e =
    let one : st ≡ 1 = e ∙ ap (λ (b : Bool). bool_byte (not b)) (ne_eqb (suc n) 0 (λ (h : suc n ≡ 0). omega arith)) in
    (((λ h. absurd (omega arith)), (λ _. one)), omega arith)

pub returns : goal.returns
returns c =
    let r = c.root_by_digits-r.result in
    let s = stuck r.rem c.from-more.result c.from-more.ensures in
    final (goal.at.returns c).Start r.root r.rem c.from-more.result c.round_shift.result c.root_by_digits-r.ensures s.0 s.1 c.round_shift.ensures
