-- `float_widths::round_shift` meets its contract: the last digit shifted out and whether anything lies below it decide. Assumes nothing.
use Rattle.std.proofs.Common.{◌≡◌, ℕ, ◌+◌, ◌-◌, ◌*◌, ◌/◌, ◌%◌, ◌^◌, ◌<◌, ◌≤◌, Bool, true, false, cond, not, ◌&&◌, ◌||◌, eqb, sym, refl, ap, ◌∙◌, lt_of_lt_of_le, lt_of_le_of_lt, add-zero, mod-eq_of_lt, div-add-mod', div-le_self, div-mul-le_self, arith, pow_pos, pow_mono, eqb-true}
use borrow.Author.Tests.{eqb-false, not-true, not-false}
use lib.Ieee.Nearest.{closest}
use Rattle.float_order.proofs.Laws.{round_down, round_up, round_tie, none_left, whole_left, double}
use Rattle.float_widths.proofs.round_shift.Goals as goal

-- at a shift above 0
at : (m sh x : ℕ) → 0 < sh → x ≡ closest m (2 * 2 ^ (sh - 1)) → x ≡ closest m (2 ^ sh)
at m sh x h e = e ∙ ap (closest m) (sym (double sh h))

some : (sh : ℕ) → (sh ≡ 0 → ⊥) → 0 < sh
some sh h = omega arith

-- the carry gives the nearest whole number
carried : (m h : ℕ) (more : Bool) → 0 < h → (more ≡ true → 0 < m % h) → (more ≡ false → m % h ≡ 0)
    → m / h / 2 + cond (eqb (m / h % 2) 1 && (more || eqb (m / h / 2 % 2) 1)) 1 0 ≡ closest m (2 * h)
carried m h more H some none = go (eqb (m / h % 2) 1) more (eqb (m / h / 2 % 2) 1) refl refl some none
  where
    even : (d : ℕ) → eqb (d % 2) 1 ≡ false → d % 2 ≡ 0
    even d e = let n = eqb-false (d % 2) 1 e in omega arith

    go : (x b y : Bool) → eqb (m / h % 2) 1 ≡ x → eqb (m / h / 2 % 2) 1 ≡ y → (b ≡ true → 0 < m % h) → (b ≡ false → m % h ≡ 0) → m / h / 2 + cond (x && (b || y)) 1 0 ≡ closest m (2 * h)
    go false b y e f s n = add-zero (m / h / 2) ∙ round_down m h H (even (m / h) e)
    go true true y e f s n = round_up m h H (eqb-true (m / h % 2) 1 e) (s refl)
    go true false true e f s n = ap (λ (x : ℕ). m / h / 2 + x) (sym (eqb-true (m / h / 2 % 2) 1 f)) ∙ round_tie m h H (eqb-true (m / h % 2) 1 e) (n refl)
    go true false false e f s n = ap (λ (x : ℕ). m / h / 2 + x) (sym (even (m / h / 2) f)) ∙ round_tie m h H (eqb-true (m / h % 2) 1 e) (n refl)

carry-small : (b : Bool) → cond b 1 0 ≤ 1
carry-small true = omega arith
carry-small false = omega arith

-- the digits put back, at 64 bits
back : (m h : ℕ) → m < 2 ^ 64 → (m / 2 ^ h * 2 ^ h) % 2 ^ 64 ≡ m / 2 ^ h * 2 ^ h
back m h l = mod-eq_of_lt (lt_of_le_of_lt (div-mul-le_self m (2 ^ h)) l)

rest-none : (a b m : ℕ) → a + b ≡ m → a ≡ m → b ≡ 0
rest-none a b m e h = omega arith

rest_some : (a b m : ℕ) → a + b ≡ m → (a ≡ m → ⊥) → 0 < b
rest_some a b m e h = omega arith

halved : (m h : ℕ) → m < 2 ^ 64 → m / h / 2 + 1 < 2 ^ 64
halved m h l = let a : m / h ≤ m = div-le_self m h in omega arith

pub returns-then-sh-eq0 : goal.returns-then-sh-eq0
returns-then-sh-eq0 c = whole_left c.args.m ∙ ap (λ (x : ℕ). closest c.args.m (2 ^ x)) (sym c.if-sh-eq0.true)

pub returns-then-sh-gt64 : goal.returns-then-sh-gt64
returns-then-sh-gt64 c =
    let l : c.args.m * 2 < 2 ^ 65 = omega arith in
    none_left c.args.m (2 ^ c.args.sh) (lt_of_lt_of_le l (pow_mono c.if-sh-gt64.true))

pub overflow_add-result : goal.overflow_add-result
overflow_add-result c =
    let h = halved c.args.m (2 ^ (c.args.sh - 1)) c.ranges.m.fits in
    let s = carry-small (eqb (c.args.m / 2 ^ (c.args.sh - 1) % 2) 1 && (not (eqb (c.args.m / 2 ^ (c.args.sh - 1) * 2 ^ (c.args.sh - 1) % 2 ^ 64) c.args.m) || eqb (c.args.m / 2 ^ (c.args.sh - 1) / 2 % 2) 1)) in
    omega arith

pub returns : goal.returns
returns c =
    let h = c.args.sh - 1 in
    let more : Bool = not (eqb (c.args.m / 2 ^ h * 2 ^ h % 2 ^ 64) c.args.m) in
    at c.args.m c.args.sh _ (some _ c.if-sh-eq0.false)
    (ap (λ (x : ℕ). c.args.m / 2 ^ h / 2 + x) c.carry.ensures
    ∙ carried c.args.m (2 ^ h) more (pow_pos h)
    (λ e. rest_some (c.args.m / 2 ^ h * 2 ^ h) (c.args.m % 2 ^ h) c.args.m (div-add-mod' c.args.m (2 ^ h)) (λ f. eqb-false (c.args.m / 2 ^ h * 2 ^ h % 2 ^ 64) c.args.m (not-true _ e) (back c.args.m h c.ranges.m.fits ∙ f)))
    (λ e. rest-none (c.args.m / 2 ^ h * 2 ^ h) (c.args.m % 2 ^ h) c.args.m (div-add-mod' c.args.m (2 ^ h)) (sym (back c.args.m h c.ranges.m.fits) ∙ eqb-true (c.args.m / 2 ^ h * 2 ^ h % 2 ^ 64) c.args.m (not-false _ e))))
