-- Maximum, minimum and clamp by the tests that the code makes, in its order. Assumes nothing.
use mathlib.Core.Path.{◌≡◌, refl, sym, ap, ◌∙◌, subst}
use mathlib.Core.Bool.{Bool, true, false, not, ◌&&◌, cond}
use lib.Ieee.{Float, Format, nan, inf, fin, is_nan, ne, add, lt, eq}
use lib.Ieee.Compare.{differs_from_itself}
use lib.Dec.{T}
use Rattle.float_order.specs.Values.{+0, 1·0}
use Rattle.float_order.specs.Order.{max_of, min_of, clamp_of}
use Rattle.float_order.proofs.Read.{nan_not}

-- ---- one branch of a `cond`, by what its test says
yes : {X : Type 0} {b : Bool} (x y : X) → b ≡ true → cond b x y ≡ x
yes x y h = ap (λ (b : Bool). cond b x y) h

no : {X : Type 0} {b : Bool} (x y : X) → b ≡ false → cond b x y ≡ y
no x y h = ap (λ (b : Bool). cond b x y) h

-- ---- x != x
pub is_nan_lem : (x : Float) → ne x x ≡ is_nan x
unfolding is_nan
is_nan_lem x = go (ne x x) (differs_from_itself x) (nan_not x)
  where
    as_false : (b : Bool) → T (not b) → false ≡ b
    as_false false t = refl
    as_false true t = elim t [ ]

    go : (b : Bool) → (T b → x ≡ nan) → (b ≡ false → T (not (is_nan x))) → b ≡ is_nan x
    go true h g = sym (ap is_nan (h tt))
    go false h g = as_false (is_nan x) (g refl)

pub nan_yes : (x : Float) → ne x x ≡ true → is_nan x ≡ true
nan_yes x h = sym (is_nan_lem x) ∙ h

pub nan_no : (x : Float) → ne x x ≡ false → is_nan x ≡ false
nan_no x h = sym (is_nan_lem x) ∙ h

-- ---- two NaNs: their sum is one
pub is_nan-is : (x : Float) → is_nan x ≡ true → x ≡ nan
unfolding is_nan
is_nan-is nan h = refl
is_nan-is (inf s) h = absurd (subst T (sym h) tt)
is_nan-is (fin s m e) h = absurd (subst T (sym h) tt)

nan_sum : (f : Format) (x y : Float) → is_nan x ≡ true → is_nan y ≡ true → add f x y ≡ y
unfolding add
nan_sum f x y a b = ap (λ (v : Float). add f v y) (is_nan-is x a) ∙ sym (is_nan-is y b)

module _ (x y : Float) where
  pub max_first_nan : is_nan x ≡ true → y ≡ max_of x y
  unfolding max_of
  max_first_nan a = sym (yes _ _ a)

  pub max_both_nan : (f : Format) → is_nan x ≡ true → is_nan y ≡ true → add f x y ≡ max_of x y
  max_both_nan f a b = nan_sum f x y a b ∙ max_first_nan a

  pub max_second_nan : is_nan x ≡ false → is_nan y ≡ true → x ≡ max_of x y
  unfolding max_of
  max_second_nan a b = sym (no _ _ a ∙ yes _ _ b)

  pub max_zeros : is_nan x ≡ false → is_nan y ≡ false → (eq x +0 && eq y +0) ≡ true → +0 ≡ max_of x y
  unfolding max_of
  max_zeros a b z = sym (no _ _ a ∙ no _ _ b ∙ yes _ _ z)

  max_rest : is_nan x ≡ false → is_nan y ≡ false → (eq x +0 && eq y +0) ≡ false → max_of x y ≡ cond (lt x y) y x
  unfolding max_of
  max_rest a b z = no _ _ a ∙ no _ _ b ∙ no _ _ z

  pub max_second : is_nan x ≡ false → is_nan y ≡ false → (eq x +0 && eq y +0) ≡ false → lt x y ≡ true → y ≡ max_of x y
  max_second a b z l = sym (max_rest a b z ∙ yes y x l)

  pub max_first : is_nan x ≡ false → is_nan y ≡ false → (eq x +0 && eq y +0) ≡ false → lt x y ≡ false → x ≡ max_of x y
  max_first a b z l = sym (max_rest a b z ∙ no y x l)

  pub min_first_nan : ne x x ≡ true → y ≡ min_of x y
  unfolding min_of
  min_first_nan a = sym (yes _ _ (nan_yes x a))

  pub min_both_nan : (f : Format) → ne x x ≡ true → ne y y ≡ true → add f x y ≡ min_of x y
  min_both_nan f a b = nan_sum f x y (nan_yes x a) (nan_yes y b) ∙ min_first_nan a

  pub min_second_nan : ne x x ≡ false → ne y y ≡ true → x ≡ min_of x y
  unfolding min_of
  min_second_nan a b = sym (no _ _ (nan_no x a) ∙ yes _ _ (nan_yes y b))

  pub min_second : ne x x ≡ false → ne y y ≡ false → lt y x ≡ true → y ≡ min_of x y
  unfolding min_of
  min_second a b l = sym (no _ _ (nan_no x a) ∙ no _ _ (nan_no y b) ∙ yes y x l)

  pub min_first : ne x x ≡ false → ne y y ≡ false → lt y x ≡ false → x ≡ min_of x y
  unfolding min_of
  min_first a b l = sym (no _ _ (nan_no x a) ∙ no _ _ (nan_no y b) ∙ no y x l)

-- ---- clamp
module _ (x : Float) where
  pub clamp_below : lt x +0 ≡ true → +0 ≡ clamp_of x
  unfolding clamp_of
  clamp_below a = sym (yes _ _ a)

  pub clamp_above : lt x +0 ≡ false → lt 1·0 x ≡ true → 1·0 ≡ clamp_of x
  unfolding clamp_of
  clamp_above a b = sym (no _ _ a ∙ yes _ _ b)

  pub clamp_between : lt x +0 ≡ false → lt 1·0 x ≡ false → x ≡ clamp_of x
  unfolding clamp_of
  clamp_between a b = sym (no _ _ a ∙ no _ _ b)
