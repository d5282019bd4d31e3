-- `demo_decimal::decimal` meets its contract: a value's fields give its size in smallest values, and `round_shift` rounds its steps. Assumes nothing.
use Rattle.std.proofs.Common.{◌≡◌, sym, ap, ◌∙◌, subst, ℕ, ◌+◌, ◌*◌, ◌%◌, ◌/◌, ◌^◌, ◌-◌, refl, Bool, true, not}
use native.Mathlib.Omega.{arith}
use lib.Dec.{T}
use lib.Ieee.{Float, nan, inf, fin, binary32, fits, is_nan, to_bits}
use lib.Ieee.Nearest.{closest}
use Rattle.demo_decimal.specs.declared.Size.TheVariants.{Steps}
use Rattle.demo_decimal.proofs.Fields.{nan_is, large_is, low_is, mid_is}
use Rattle.demo_decimal.proofs.decimal.Goals as goal
use Rattle.demo_decimal.proofs.decimal.Goals.{Else-is_nan}

nan_from : (x : Float) → is_nan x ≡ true → x ≡ nan
unfolding is_nan
nan_from nan h = refl
nan_from (inf s) h = cc
nan_from (fin s m e) h = cc

held : (c : Else-is_nan) → T (fits binary32 c.args.x)
held c = subst T (sym c.well_formed.0.1) tt

real : (c : Else-is_nan) → T (not (is_nan c.args.x))
real c = subst (λ (b : Bool). T (not b)) (sym c.if-is_nan.false ∙ c.is_nan.ensures.value) tt

pub returns-then-is_nan : goal.returns-then-is_nan
returns-then-is_nan c = nan_is _ c.args.x (nan_from c.args.x (sym c.is_nan.ensures.value ∙ c.if-is_nan.true))

pub returns-then-e-gt-BELOW_LARGE : goal.returns-then-e-gt-BELOW_LARGE
returns-then-e-gt-BELOW_LARGE c =
    let s = (goal.at.returns-then-e-gt-BELOW_LARGE c).Else-is_nan in
    large_is c.args.places c.args.x (held s) (real s) c.if-e-gt-BELOW_LARGE.true

pub returns-then-e-eq0 : goal.returns-then-e-eq0
returns-then-e-eq0 c =
    let t = to_bits binary32 c.args.x % 8388608 in
    let p : c.from-t.result * c.pow-power.result ≡ t * 10 ^ c.args.places = ap (λ (n : ℕ). n * c.pow-power.result) c.from-t.ensures ∙ ap (λ (n : ℕ). t * n) c.pow-power.ensures in
    ap Steps (c.round_shift.ensures ∙ ap (λ (n : ℕ). closest n (2 ^ 149)) p)
    ∙ low_is c.args.places c.args.x (held (goal.at.returns-then-e-eq0 c).Else-is_nan) c.if-e-eq0.true

pub returns-else-e-eq0 : goal.returns-else-e-eq0
returns-else-e-eq0 c =
    let b = to_bits binary32 c.args.x in
    let p : (c.from-t.result + 8388608) * c.pow-power.result ≡ (b % 8388608 + 8388608) * 10 ^ c.args.places = ap (λ (n : ℕ). (n + 8388608) * c.pow-power.result) c.from-t.ensures ∙ ap (λ (n : ℕ). (b % 8388608 + 8388608) * n) c.pow-power.ensures in
    ap Steps (c.round_shift-else-e-eq0.ensures ∙ ap (λ (n : ℕ). closest n (2 ^ (150 - b % 2147483648 / 8388608))) (omega (arith, p)))
    ∙ mid_is c.args.places c.args.x (held (goal.at.returns-else-e-eq0 c).Else-is_nan) c.if-e-eq0.false c.if-e-gt-BELOW_LARGE.false
