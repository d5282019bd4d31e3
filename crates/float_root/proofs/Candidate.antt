-- A candidate for a root that passed the test is rounded as the root is. Assumes nothing.
use mathlib.Core.Path.{◌≡◌, refl, sym, ap, ◌∙◌, subst}
use mathlib.Core.Logic.{inl, inr}
use mathlib.Core.Bool.{false}
use Prim.Native.Nat.{ℕ, suc, ◌+◌, ◌-◌, ◌*◌, ◌/◌, ◌%◌, ◌^◌, ◌≤◌, ◌<◌}
use native.Mathlib.Nat.{mul_assoc, mul-le-mul_right, le_trans, le_of_eq, le_of_lt, eq-zero-or-pos}
use native.Mathlib.Omega.{arith}
use borrow.Author.Tests.{lt-leb}
use lib.Dec.{T}
use lib.Pow.{pow-add}
use lib.Ieee.{Float, Format, binary32, binary64, prec, emax, low, nearest, units, fits, hid, ones, top, of_bits, to_bits}
use lib.Ieee.Bits.{of_bits-to_bits}
use lib.Ieee.Nearest.{closest}
use Rattle.float_root.specs.Root.{round_root, sqrt_of}
use Rattle.float_order.specs.Width.{Weights, Patterned}
use Rattle.float_order.proofs.Weights.{at_weights}
use Rattle.float_order.proofs.Laws.{is_lt, is_gt, closest_by, of_pattern}
use Rattle.float_widths.proofs.Grid.{le_or_lt}
use Rattle.float_root_digits.proofs.Squares.{sq_lt, sq_suc, sq_twice}
use Rattle.float_root_digits.proofs.Digits.{IsNearest, doubled}
use Rattle.float_root.proofs.Root.{Sticky, four, round_root_lem}
use Rattle.float_root.proofs.Sqrt.{sqrt_mid}

-- ---- the root of n, rounded: one digit more than the candidate has, and whether anything is left, decide
stuck : (rem : ℕ) → (st : ℕ) × Sticky rem st × (st ≤ 1)
stuck rem = elim (eq-zero-or-pos rem) [
  | inl z ↦ (0, ((λ _. refl), (λ h. absurd (no rem z h))), omega arith)
  | inr p ↦ (1, ((λ z. absurd (no rem z p)), (λ _. refl)), omega arith)
]
  where
    no : (x : ℕ) → x ≡ 0 → 0 < x → ⊥
    no x a b = omega arith

module _ (f : Format) (n d q : ℕ) (h : IsNearest n q) (lo : 2 ^ (prec f - 1) ≤ q) (hi : q < 2 ^ prec f) (least : 2 ^ (prec f - 1) * 2 ^ (prec f - 1) ≤ n) where
  -- the root is q or above
  from_below : q * q ≤ n → round_root f (n * 4 * 4 ^ d) ≡ units f false q (d + 1)
  from_below g =
      let s = stuck (4 * n - 4 * (q * q)) in
      let st = s.0 in
      let t = sq_twice q in
      let a = h.1 in
      let e : n * 4 ≡ 2 * q * (2 * q) + (4 * n - 4 * (q * q)) = omega arith in
      let l = s.2 in
      round_root_lem f (n * 4) d 1 (2 * q) (4 * n - 4 * (q * q)) st e (omega arith) s.1 (omega arith) (omega arith) (omega arith)
      ∙ ap (λ (x : ℕ). units f false x (d + 1))
      (ap (λ (x : ℕ). closest x 4) (sum q st) ∙ closest_by q 4 st (omega arith) ∙ ap (nearest q) (is_lt (st * 2) 4 (omega arith)))
    where
      sum : (q st : ℕ) → 2 * (2 * q) + st ≡ q * 4 + st
      sum q st = omega arith

  -- the root is below q, by less than a half
  from_above : n < q * q → round_root f (n * 4 * 4 ^ d) ≡ units f false q (d + 1)
  from_above g =
      let H = 2 ^ (prec f - 1) in
      let above : H < q = sq_lt H q (omega arith) in
      let p = q - 1 in
      let u : q ≡ p + 1 = omega arith in
      let r = 2 * p + 1 in
      let v : q * q ≡ p * p + 2 * p + 1 = ap (λ (x : ℕ). x * x) (u ∙ plus p) ∙ sq_suc p in
      let w : r * r ≡ 4 * (p * p) + 2 * (2 * p) + 1 = ap (λ (x : ℕ). x * x) (plus (2 * p)) ∙ sq_suc (2 * p) ∙ ap (λ (x : ℕ). x + 2 * (2 * p) + 1) (sq_twice p) in
      let a = h.0 in
      let e : n * 4 ≡ r * r + (4 * n - r * r) = omega arith in
      round_root_lem f (n * 4) d 1 r (4 * n - r * r) 1 e (omega arith) ((λ z. absurd (no (4 * n - r * r) z (omega arith))), (λ _. refl)) (omega arith) (omega arith) (omega arith)
      ∙ ap (λ (x : ℕ). units f false x (d + 1))
      (ap (λ (x : ℕ). closest x 4) (sum p) ∙ closest_by p 4 3 (omega arith) ∙ ap (nearest p) (is_gt (3 * 2) 4 (omega arith)) ∙ sym (u ∙ plus p))
    where
      plus : (x : ℕ) → x + 1 ≡ suc x
      plus x = omega arith

      no : (x : ℕ) → x ≡ 0 → 0 < x → ⊥
      no x a b = omega arith

      sum : (p : ℕ) → 2 * (2 * p + 1) + 1 ≡ p * 4 + 3
      sum p = omega arith

  pub root_nearest : units f false q (d + 1) ≡ round_root f (n * 4 * 4 ^ d)
  root_nearest = elim (le_or_lt (q * q) n) [ inl g ↦ sym (from_below g) | inr g ↦ sym (from_above g) ]

powers : (m a b d j l : ℕ) → a + b + (2 + (d + d)) ≡ j + l → m * 2 ^ a * 2 ^ b * 4 * 4 ^ d ≡ m * 2 ^ j * 2 ^ l
powers m a b d j l e =
    mul_assoc (m * 2 ^ a * 2 ^ b) 4 (4 ^ d)
    ∙ ap (λ (x : ℕ). m * 2 ^ a * 2 ^ b * (4 * x)) (four d ∙ sym (pow-add 2 d d))
    ∙ ap (λ (x : ℕ). m * 2 ^ a * 2 ^ b * x) (sym (pow-add 2 2 (d + d)))
    ∙ ap (λ (x : ℕ). x * 2 ^ (2 + (d + d))) (mul_assoc m (2 ^ a) (2 ^ b) ∙ ap (λ (x : ℕ). m * x) (sym (pow-add 2 a b)))
    ∙ mul_assoc m (2 ^ (a + b)) (2 ^ (2 + (d + d)))
    ∙ ap (λ (x : ℕ). m * x) (sym (pow-add 2 (a + b) (2 + (d + d))) ∙ ap (λ (x : ℕ). 2 ^ x) e ∙ pow-add 2 j l)
    ∙ sym (mul_assoc m (2 ^ j) (2 ^ l))

by_candidate : (f : Format) (m a j k n q : ℕ) → n ≡ m * 2 ^ a → hid f ≤ n → 0 < k → a + (prec f - 1) + (k + k) ≡ j + low f → IsNearest (n * hid f) q → hid f ≤ q → q < 2 ^ prec f
    → units f false q k ≡ round_root f (m * 2 ^ j * 2 ^ low f)
by_candidate f m a j k n q e big some even h lo hi =
    let d = k - 1 in
    let u : d + 1 ≡ k = omega arith in
    ap (units f false q) (sym u)
    ∙ root_nearest f (n * hid f) d q h lo hi (mul-le-mul_right (hid f) big)
    ∙ ap (round_root f) (ap (λ (x : ℕ). x * hid f * 4 * 4 ^ d) e ∙ powers m a (prec f - 1) d j (low f) (sum a (prec f - 1) k (j + low f) some even))
  where
    sum : (a b k s : ℕ) → 0 < k → a + b + (k + k) ≡ s → a + b + (2 + (k - 1 + (k - 1))) ≡ s
    sum a b k s p e = omega arith

-- ---- by the pattern p of a value: its field is neither the lowest nor the highest, and the sign's bit is clear
record Fields (f : Format) (p : ℕ) : Type 0 where
  exponent : 1 - p / hid f % 2 + (prec f - 1) + ((p / hid f + (emax f - 2)) / 2 + (p / hid f + (emax f - 2)) / 2) ≡ p % top f / hid f - 1 + low f
  digits : 0 < (p / hid f + (emax f - 2)) / 2
  leading : hid f ≤ p % hid f + hid f
  odd : p / hid f % 2 < 2
  some : p % top f / hid f ≡ 0 → ⊥
  finite : p % top f / hid f ≡ ones f → ⊥
  unsigned : p < top f

fields : (f : Format) (p : ℕ) → (p / hid f ≡ 0 → ⊥) → p / hid f < ones f → Fields f p
fields binary32 p z o =
    record { exponent = omega arith; digits = omega arith; leading = omega arith; odd = omega arith; some = λ h. omega arith; finite = λ h. omega arith; unsigned = omega arith }
fields binary64 p z o =
    record { exponent = omega arith; digits = omega arith; leading = omega arith; odd = omega arith; some = λ h. omega arith; finite = λ h. omega arith; unsigned = omega arith }

pub quick_root : (f : Format) (x : Float) → T (fits f x) → (n q : ℕ) → (to_bits f x / hid f ≡ 0 → ⊥) → to_bits f x / hid f < ones f → n ≡ (to_bits f x % hid f + hid f) * 2 ^ (1 - to_bits f x / hid f % 2)
    → IsNearest (n * hid f) q → hid f ≤ q → q < 2 ^ prec f → units f false q ((to_bits f x / hid f + (emax f - 2)) / 2) ≡ sqrt_of f x
quick_root f x fit n q z o e h lo hi =
    let p = to_bits f x in
    let r = fields f p z o in
    let m = p % hid f + hid f in
    by_candidate f m (1 - p / hid f % 2) (p % top f / hid f - 1) ((p / hid f + (emax f - 2)) / 2) n q e
    (le_trans r.leading (le_trans (doubled m (p / hid f % 2) r.odd).0 (le_of_eq (sym e)))) r.digits r.exponent h lo hi
    ∙ sqrt_mid f x fit r.some r.finite (lt-leb (top f) p r.unsigned)

-- ---- a value whose exponent's field is k + 1 is its digits, k times doubled
halves : (f : Format) → (ones f - 1) / 2 - 2 ≡ emax f - 2
halves binary32 = refl
halves binary64 = refl

parts : (f : Format) (p k : ℕ) → p / hid f ≡ k + 1 → p ≡ 0 + (k * hid f + (p % hid f + hid f))
parts binary32 p k e = omega arith
parts binary64 p k e = omega arith

digits_in : (f : Format) (p : ℕ) → (hid f ≤ p % hid f + hid f) × (p % hid f + hid f < 2 ^ prec f)
digits_in binary32 p = (omega arith, omega arith)
digits_in binary64 p = (omega arith, omega arith)

room : (f : Format) (e : ℕ) → e < ones f → (e + (emax f - 2)) / 2 < 2 * emax f
room binary32 e h = omega arith
room binary64 e h = omega arith

own_digits : (f : Format) (x : Float) (k : ℕ) → T (fits f x) → to_bits f x / hid f ≡ k + 1 → k < 2 * emax f → x ≡ units f false (to_bits f x % hid f + hid f) k
own_digits f x k h e l =
    let d = digits_in f (to_bits f x) in
    sym (of_bits-to_bits f x h) ∙ ap (of_bits f) (parts f (to_bits f x) k e) ∙ of_pattern f false (to_bits f x % hid f + hid f) k (le_of_lt d.1) (λ _. d.0) l

-- ---- a guess y at the root of x whose digits pass the test is the root
digits_few : (f : Format) (p : ℕ) → ((p % hid f + hid f) * 2 ^ (1 - p / hid f % 2) < 2 ^ 54) × (p % hid f + hid f < 2 ^ 53)
digits_few binary32 p = let d = doubled (p % 2 ^ 23 + 2 ^ 23) (p / 2 ^ 23 % 2) (omega arith) in (omega arith, omega arith)
digits_few binary64 p = let d = doubled (p % 2 ^ 52 + 2 ^ 52) (p / 2 ^ 52 % 2) (omega arith) in (omega arith, omega arith)

module _ {f : Format} {S H O : ℕ} (w : Weights f S H O) where
  pub few_digits : (b g : ℕ) {n : ℕ} → n ≡ (b % hid f + hid f) * 2 ^ (1 - b / hid f % 2) → (n < 2 ^ 54) × (g % H + H < 2 ^ 53)
  few_digits b g e = (subst (λ (n : ℕ). n < 2 ^ 54) (sym e) (digits_few f b).0, at_weights w (λ (s h o : ℕ). g % h + h < 2 ^ 53) (digits_few f g).1)

  module _ {x y : Float} {b g : ℕ} (v : Patterned f x b) (u : Patterned f y g) where
    abbrev Passed : (S H O b g : ℕ) → Type 0
    Passed s h o b g = (n : ℕ) → (b / h ≡ 0 → ⊥) → b / h < o → g / h ≡ (b / h + ((o - 1) / 2 - 2)) / 2 + 1 → n ≡ (b % hid f + hid f) * 2 ^ (1 - b / hid f % 2) → IsNearest (n * hid f) (g % h + h) → y ≡ sqrt_of f x

    passed : Passed (top f) (hid f) (ones f) (to_bits f x) (to_bits f y)
    passed n z o k e h =
        let d = digits_in f (to_bits f y) in
        own_digits f y ((to_bits f x / hid f + (emax f - 2)) / 2) u.held (k ∙ ap (λ (i : ℕ). (to_bits f x / hid f + i) / 2 + 1) (halves f)) (room f (to_bits f x / hid f) o)
        ∙ quick_root f x v.held n (to_bits f y % hid f + hid f) z o e h d.0 d.1

    pub near_root : Passed S H O b g
    near_root =
        at_weights w (λ (s h o : ℕ). Passed s h o b g)
        (subst (λ (p : ℕ). Passed (top f) (hid f) (ones f) p g) (sym v.pattern) (subst (λ (p : ℕ). Passed (top f) (hid f) (ones f) (to_bits f x) p) (sym u.pattern) passed))
