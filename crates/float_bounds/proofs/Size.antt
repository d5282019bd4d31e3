-- Bounds in size. `Most f x s B`: x is finite, has the sign s, and is at most B smallest values in size; `Mag f x B`: the same whatever the sign. So x is neither a NaN nor an infinity.
-- Each law asks for a bound C that the format holds (`Held`), below the overflow, and for one comparison of whole numbers; with literals all three are computed. Assumes nothing.
use mathlib.Core.Path.{◌≡◌, refl, sym, ap, ap₂, ◌∙◌, subst}
use mathlib.Core.Logic.{◌⊎◌, inl, inr}
use Prim.Native.Nat.{ℕ, zero, suc, ◌+◌, ◌-◌, ◌*◌, ◌%◌, ◌^◌, ◌≤◌, ◌<◌}
use native.Mathlib.Nat.{le_trans, add-le-add, sub-le, le_of_eq, le_of_lt, lt_of_le_of_lt, lt_of_lt_of_le, mul_comm, mul_assoc, mul_right_comm, mul-pos, mul-le-mul, mul-le-mul_right, mul-le-mul_left, le_of_mul-le-mul_right, zero-mul, lt_of_mul-lt-mul_right, mul-lt-mul_of_pos_right}
use native.Mathlib.Omega.{arith}
use mathlib.Core.Bool.{Bool, true, false, not, cond, ◌&&◌}
use lib.Dec.{T, leb, eqb, ltb, ltb→lt, nltb→le}
use lib.Pow.{pow_pos, pow-add}
use lib.Ieee.{Float, nan, inf, fin, Format, binary32, binary64, prec, emax, low, up, down, unlike, round, sum, add, sub, neg, mul, div, fits}
use lib.Ieee.Fits.{down_pos, and_r}
use lib.Ieee.Scale.{grid, overflow, finite, round_same}
use Rattle.float_widths.specs.Narrow.{narrow_of}
use Rattle.float_bounds.proofs.Units.{left, right, taken, opened_add, Val, round_Val, val_finite, mul_round, div_round, add_round, add_unlike, sub_rest, neg_val, sub_is, narrow_round, own_units}
use Rattle.float_bounds.proofs.Held.{Held, grid_le, grid_ge, grid_numbers}

pub record Most (f : Format) (x : Float) (s : Bool) (B : ℕ) : Type 0 where
  pub X : ℕ
  pub val : Val f x s X
  pub most : X ≤ B

pub record Mag (f : Format) (x : Float) (B : ℕ) : Type 0 where
  pub s : Bool
  pub X : ℕ
  pub val : Val f x s X
  pub most : X ≤ B

pub mag_of : {f : Format} {x : Float} {s : Bool} {B : ℕ} → Most f x s B → Mag f x B
mag_of {f} {x} {s} h = record { s = s; X = h.X; val = h.val; most = h.most }

pub mag_more : {f : Format} {x : Float} {A B : ℕ} → A ≤ B → Mag f x A → Mag f x B
mag_more l h = record { s = h.s; X = h.X; val = h.val; most = le_trans h.most l }

-- what it is for
pub mag_finite : {f : Format} {x : Float} {B : ℕ} → Mag f x B → T (finite x)
mag_finite h = val_finite h.val

pub most_more : {f : Format} {x : Float} {s : Bool} {A B : ℕ} → A ≤ B → Most f x s A → Most f x s B
most_more l h = record { X = h.X; val = h.val; most = le_trans h.most l }

pub most_of : {f : Format} {x : Float} {B : ℕ} (h : Mag f x B) → Most f x h.s B
most_of h = record { X = h.X; val = h.val; most = h.most }

pub val_mag : {f : Format} {x : Float} {s : Bool} {X : ℕ} (B : ℕ) → Val f x s X → X ≤ B → Mag f x B
val_mag {f} {x} {s} {X} B v h = record { s = s; X = X; val = v; most = h }

-- ---- a rounded fraction
module _ {f : Format} {x : Float} (s : Bool) (num den C : ℕ) (e : x ≡ round f s num den) (p : 0 < den) (h : Held f C) (l : C < overflow f) (b : num * 2 ^ low f ≤ C * den) where
  pub round_most : Most f x s C
  round_most =
      let le : grid f num den ≤ C = grid_le f num den C p h l b in record {
        X = grid f num den;
        val = subst (λ (z : Float). Val f z s (grid f num den)) (sym e) (round_Val f s num den (lt_of_le_of_lt le l));
        most = le;
      }

  pub round_mag : Mag f x C
  round_mag = mag_of round_most

-- both ways: at least A smallest values too
pub record Between (f : Format) (x : Float) (s : Bool) (A B : ℕ) : Type 0 where
  pub X : ℕ
  pub val : Val f x s X
  pub least : A ≤ X
  pub most : X ≤ B

pub round_between : {f : Format} {x : Float} (s : Bool) (num den A C : ℕ) → x ≡ round f s num den → 0 < den → Held f A → Held f C → C < overflow f → A * den ≤ num * 2 ^ low f → num * 2 ^ low f ≤ C * den → Between f x s A C
round_between {f} {x} s num den A C e p h k l a b =
    let le : grid f num den ≤ C = grid_le f num den C p k l b in record {
      X = grid f num den;
      val = subst (λ (z : Float). Val f z s (grid f num den)) (sym e) (round_Val f s num den (lt_of_le_of_lt le l));
      least = grid_ge f num den A p h (lt_of_le_of_lt (le_of_mul-le-mul_right (le_trans a b) p) l) a;
      most = le;
    }

-- ---- a sum of unlike signs, whichever is the larger: N is the distance of X and Y
swap : (f : Format) (s : Bool) (a b c : ℕ) → (u : Bool) × (N : ℕ) × (sum f s a (not s) b c ≡ round f u N c) × (((b ≤ a) × (N ≡ a - b)) ⊎ ((a ≤ b) × (N ≡ b - a)))
unfolding sum
swap f true a b c = go (ltb a b) (ltb→lt a b) (nltb→le a b)
  where
    go : (x : Bool) → (T x → a < b) → (T (not x) → b ≤ a) → (u : Bool) × (N : ℕ) × (cond x (round f false (b - a) c) (round f (true && ltb b a) (a - b) c) ≡ round f u N c) × (((b ≤ a) × (N ≡ a - b)) ⊎ ((a ≤ b) × (N ≡ b - a)))
    go true h k = (false, b - a, refl, inr (le_of_lt (h tt), refl))
    go false h k = (true && ltb b a, a - b, refl, inl (k tt, refl))
swap f false a b c = go (ltb a b) (ltb→lt a b) (nltb→le a b)
  where
    go : (x : Bool) → (T x → a < b) → (T (not x) → b ≤ a) → (u : Bool) × (N : ℕ) × (cond x (round f true (b - a) c) (round f (false && ltb b a) (a - b) c) ≡ round f u N c) × (((b ≤ a) × (N ≡ a - b)) ⊎ ((a ≤ b) × (N ≡ b - a)))
    go true h k = (true, b - a, refl, inr (le_of_lt (h tt), refl))
    go false h k = (false && ltb b a, a - b, refl, inl (k tt, refl))

pub distance_of : (f : Format) (x y : Float) {s : Bool} {X Y : ℕ} → Val f x s X → Val f y (not s) Y → (u : Bool) × (N : ℕ) × (add f x y ≡ round f u N (2 ^ low f)) × (((Y ≤ X) × (N ≡ X - Y)) ⊎ ((X ≤ Y) × (N ≡ Y - X)))
distance_of f nan y v w = absurd v.has
distance_of f (inf u) y v w = absurd v.has
distance_of f (fin u m e) nan v w = absurd w.has
distance_of f (fin u m e) (inf r) v w = absurd w.has
distance_of f (fin u m e) (fin r n d) {s} {X} {Y} v w =
    let g = swap f s (m * up e * down d) (n * up d * down e) (down e * down d) in
    let L = 2 ^ low f in
    let E = mul-pos (down_pos e) (down_pos d) in
    let l = left (m * up e) (down e) (n * up d) (down d) X Y L v.has.1 w.has.1 in
    let r' = right (m * up e) (down e) (n * up d) (down d) X Y L v.has.1 w.has.1 in
    let o : add f (fin u m e) (fin r n d) ≡ round f g.0 g.1 (down e * down d) = opened_add f u m e r n d ∙ ap₂ (λ (a b : Bool). sum f a (m * up e * down d) b (n * up d * down e) (down e * down d)) v.has.0 w.has.0 ∙ g.2 in
    elim g.3 [
      | inl k ↦ (
        g.0,
        X - Y,
        o ∙ round_same f g.0 g.1 (down e * down d) (X - Y) L E (pow_pos (low f)) (ap (λ (z : ℕ). z * L) k.1 ∙ taken (m * up e) (down e) (n * up d) (down d) X Y L v.has.1 w.has.1),
        inl (le_of_mul-le-mul_right (order (n * up d * down e) (m * up e * down d) L Y X (down e * down d) r' l k.0) E, refl),
      )
      | inr k ↦ (
        g.0,
        Y - X,
        o ∙ round_same f g.0 g.1 (down e * down d) (Y - X) L E (pow_pos (low f)) (ap (λ (z : ℕ). z * L) k.1 ∙ taken (n * up d) (down d) (m * up e) (down e) Y X L w.has.1 v.has.1 ∙ ap (λ (z : ℕ). (Y - X) * z) (mul_comm (down d) (down e))),
        inr (le_of_mul-le-mul_right (order (m * up e * down d) (n * up d * down e) L X Y (down e * down d) l r' k.0) E, refl),
      )
    ]
  where
    order : (b a L Y X E : ℕ) → b * L ≡ Y * E → a * L ≡ X * E → b ≤ a → Y * E ≤ X * E
    order b a L Y X E p q h = le_trans (le_of_eq (sym p)) (le_trans (mul-le-mul_right L h) (le_of_eq q))

-- ---- the laws
same_or_not : (s t : Bool) → (t ≡ s) ⊎ (t ≡ not s)
same_or_not true true = inl refl
same_or_not true false = inr refl
same_or_not false true = inr refl
same_or_not false false = inl refl

-- the distance of X and Y
distance_le : (X Y A B N : ℕ) → X ≤ A → Y ≤ B → ((Y ≤ X) × (N ≡ X - Y)) ⊎ ((X ≤ Y) × (N ≡ Y - X)) → N ≤ A + B
distance_le X Y A B N a b (inl g) = omega arith
distance_le X Y A B N a b (inr g) = omega arith

pub mag_add : {f : Format} {x y : Float} {A B : ℕ} (C : ℕ) → Mag f x A → Mag f y B → Held f C → C < overflow f → A + B ≤ C → Mag f (add f x y) C
mag_add {f} {x} {y} {A} {B} C h k c l b = elim (same_or_not h.s k.s) [
  | inl e ↦ round_mag h.s (h.X + k.X) (2 ^ low f) C (add_round h.val (subst (λ (t : Bool). Val f y t k.X) e k.val)) (pow_pos (low f)) c l (mul-le-mul_right (2 ^ low f) (le_trans (add-le-add h.most k.most) b))
  | inr e ↦
      let d = distance_of f x y h.val (subst (λ (t : Bool). Val f y t k.X) e k.val) in
      round_mag d.0 d.1 (2 ^ low f) C d.2 (pow_pos (low f)) c l (mul-le-mul_right (2 ^ low f) (le_trans (distance_le h.X k.X A B d.1 h.most k.most d.3) b))
]

pub mag_neg : {f : Format} {x : Float} {A : ℕ} → Mag f x A → Mag f (neg x) A
mag_neg h = record { s = not h.s; X = h.X; val = neg_val h.val; most = h.most }

pub mag_sub : {f : Format} {x y : Float} {A B : ℕ} (C : ℕ) → Mag f x A → Mag f y B → Held f C → C < overflow f → A + B ≤ C → Mag f (sub f x y) C
mag_sub {f} {x} {y} C h k c l b = subst (λ (z : Float). Mag f z C) (sym (sub_is f x y)) (mag_add C h (mag_neg k) c l b)

-- something so small beside x that the sum of the bounds is rounded down to x's
pub mag_absorb : {f : Format} {x y : Float} {A B : ℕ} → Mag f x A → Mag f y B → grid f (A + B) (2 ^ low f) ≤ A → A < overflow f → Mag f (add f x y) A
mag_absorb {f} {x} {y} {A} {B} h k c l = elim (same_or_not h.s k.s) [
  | inl e ↦ go h.s (h.X + k.X) (add_round h.val (subst (λ (t : Bool). Val f y t k.X) e k.val)) (add-le-add h.most k.most)
  | inr e ↦
      let d = distance_of f x y h.val (subst (λ (t : Bool). Val f y t k.X) e k.val) in
      go d.0 d.1 d.2 (distance_le h.X k.X A B d.1 h.most k.most d.3)
]
  where
    go : (s : Bool) (N : ℕ) → add f x y ≡ round f s N (2 ^ low f) → N ≤ A + B → Mag f (add f x y) A
    go s N e n =
        let le : grid f N (2 ^ low f) ≤ A = le_trans (grid_numbers f N (A + B) n) c in record {
          s = s;
          X = grid f N (2 ^ low f);
          val = subst (λ (z : Float). Val f z s (grid f N (2 ^ low f))) (sym e) (round_Val f s N (2 ^ low f) (lt_of_le_of_lt le l));
          most = le;
        }

-- an f32 as an f64: the same value
pub widen_val : {x : Float} {s : Bool} {X : ℕ} → Val binary32 x s X → Val binary64 x s (X * 2 ^ 925)
widen_val {x} v = wide x v
  where
    wide : (x : Float) {s : Bool} {X : ℕ} → Val binary32 x s X → Val binary64 x s (X * 2 ^ 925)
    wide nan v = absurd v.has
    wide (inf t) v = absurd v.has
    wide (fin t m e) {s} {X} v = record { has = (v.has.0, go (m * up e) (2 ^ 149) (2 ^ 925) X (down e) v.has.1) }
      where
        go : (a l c X d : ℕ) → a * l ≡ X * d → a * (l * c) ≡ X * c * d
        go a l c X d e = let x : a * l * c ≡ X * d * c = ap (λ (z : ℕ). z * c) e in omega arith

pub mag_widen : {x : Float} {A : ℕ} → Mag binary32 x A → Mag binary64 x (A * 2 ^ 925)
mag_widen h = record { s = h.s; X = h.X * 2 ^ 925; val = widen_val h.val; most = mul-le-mul_right (2 ^ 925) h.most }

-- no finite value reaches the overflow
pub mag_max : (f : Format) (x : Float) → T (finite x) → T (fits f x) → Mag f x (overflow f - 1)
unfolding fits
mag_max f x p h = let u = own_units f x p h in record { s = u.0; X = u.1; val = u.2; most = below u.1 (overflow f) (under f x h u.2) }
  where
    below : (a b : ℕ) → a < b → a ≤ b - 1
    below a b h = omega arith

    under : (f : Format) (x : Float) {s : Bool} {X : ℕ} → T (fits f x) → Val f x s X → X < overflow f
    under f nan h v = absurd v.has
    under f (inf t) h v = absurd v.has
    under f (fin t zero e) {s} {X} h v =
        lt_of_mul-lt-mul_right (down e) (subst (λ (z : ℕ). z < overflow f * down e) v.has.1 (subst (λ (z : ℕ). z < overflow f * down e) (sym (ap (λ (z : ℕ). z * 2 ^ low f) (zero-mul (up e)) ∙ zero-mul (2 ^ low f))) (mul-pos (pow_pos (low f + suc (emax f))) (down_pos e))))
    under f (fin t (suc m) e) {s} {X} h v =
        let A = eqb (suc m % 2) 1 in
        let B = ltb (suc m) (2 ^ prec f) in
        let C = leb (down e) (2 ^ low f) in
        let D = ltb (suc m * up e) (2 ^ suc (emax f) * down e) in
        lt_of_mul-lt-mul_right (down e) (subst (λ (z : ℕ). z < overflow f * down e) v.has.1
        (lt_of_lt_of_le (mul-lt-mul_of_pos_right (ltb→lt (suc m * up e) (2 ^ suc (emax f) * down e) (and_r (A && B && C) D h)) (pow_pos (low f))) (le_of_eq (mul_right_comm (2 ^ suc (emax f)) (down e) (2 ^ low f) ∙ ap (λ (z : ℕ). z * down e) (mul_comm (2 ^ suc (emax f)) (2 ^ low f) ∙ sym (pow-add 2 (low f) (suc (emax f))))))))

-- ---- with the sign
pub unlike_self : (s : Bool) → unlike s s ≡ false
unlike_self true = refl
unlike_self false = refl

pub unlike_plus : (s : Bool) → unlike s false ≡ s
unlike_plus true = refl
unlike_plus false = refl

pub most_sign : {f : Format} {x : Float} {s t : Bool} {B : ℕ} → s ≡ t → Most f x s B → Most f x t B
most_sign {f} {x} {s} {t} {B} e h = subst (λ (b : Bool). Most f x b B) e h

pub times_most : {f : Format} {x y : Float} {s t : Bool} {A B : ℕ} (C : ℕ) → Most f x s A → Most f y t B → Held f C → C < overflow f → A * B ≤ C * 2 ^ low f → Most f (mul f x y) (unlike s t) C
times_most {f} {x} {y} {s} {t} C a b h l k =
    round_most (unlike s t) (a.X * b.X) (2 ^ low f * 2 ^ low f) C (mul_round a.val b.val) (mul-pos (pow_pos (low f)) (pow_pos (low f))) h l
    (le_trans (mul-le-mul_right (2 ^ low f) (le_trans (mul-le-mul a.most b.most) k)) (le_of_eq (mul_assoc C (2 ^ low f) (2 ^ low f))))

-- a factor from 0 to 1 keeps a bound that the format holds
pub mul_most : {f : Format} {z p : Float} {s t : Bool} {B : ℕ} → Most f z t (2 ^ low f) → Most f p s B → Held f B → B < overflow f → Most f (mul f z p) (unlike t s) B
mul_most {f} {B = B} a b h l = times_most B a b h l (le_of_eq (mul_comm (2 ^ low f) B))

-- what is at most 1 in size has a square from 0 to 1
pub square_most : {f : Format} {x : Float} {s : Bool} → Most f x s (2 ^ low f) → Held f (2 ^ low f) → 2 ^ low f < overflow f → Most f (mul f x x) false (2 ^ low f)
square_most {s = s} h k l = most_sign (unlike_self s) (mul_most h h k l)

-- c less something smaller keeps c's sign, and is no larger
pub add_most : {f : Format} {c m : Float} {s : Bool} {C B : ℕ} → Val f c s C → Held f C → C < overflow f → Most f m (not s) B → B < C → Most f (add f c m) s C
add_most {f} {c} {m} {s} {C} {B} v h l a b =
    round_most s (C - a.X) (2 ^ low f) C (add_unlike v a.val (lt_of_le_of_lt a.most b)) (pow_pos (low f)) h l (mul-le-mul_right (2 ^ low f) (sub-le C a.X))

-- the sum of two values from 0 on, by its number, which is no smaller than a bound of theirs that the format holds
pub record SumOf (f : Format) (x y : Float) (X Y C : ℕ) : Type 0 where
  pub Z : ℕ
  pub val : Val f (add f x y) false Z
  pub most : Z ≤ C
  pub least : (A : ℕ) → Held f A → A ≤ X + Y → A ≤ Z

pub sum_val : {f : Format} {x y : Float} {X Y : ℕ} (C : ℕ) → Val f x false X → Val f y false Y → Held f C → C < overflow f → X + Y ≤ C → SumOf f x y X Y C
sum_val {f} {x} {y} {X} {Y} C v w h l b =
    let P = pow_pos (low f) in
    let le : grid f (X + Y) (2 ^ low f) ≤ C = grid_le f (X + Y) (2 ^ low f) C P h l (mul-le-mul_right (2 ^ low f) b) in record {
      Z = grid f (X + Y) (2 ^ low f);
      val = subst (λ (z : Float). Val f z false (grid f (X + Y) (2 ^ low f))) (sym (add_round v w)) (round_Val f false (X + Y) (2 ^ low f) (lt_of_le_of_lt le l));
      most = le;
      least = λ A a k. grid_ge f (X + Y) (2 ^ low f) A P a (lt_of_le_of_lt (le_trans k b) l) (mul-le-mul_right (2 ^ low f) k);
    }

-- the same where y is so small that the sum of the bounds is rounded down to x's
pub most_absorb : {f : Format} {x y : Float} {s : Bool} {A B : ℕ} → Most f x s A → Most f y s B → grid f (A + B) (2 ^ low f) ≤ A → A < overflow f → Most f (add f x y) s A
most_absorb {f} {x} {y} {s} {A} {B} h k c l =
    let N = h.X + k.X in
    let le : grid f N (2 ^ low f) ≤ A = le_trans (grid_numbers f N (A + B) (add-le-add h.most k.most)) c in record {
      X = grid f N (2 ^ low f);
      val = subst (λ (z : Float). Val f z s (grid f N (2 ^ low f))) (sym (add_round h.val k.val)) (round_Val f s N (2 ^ low f) (lt_of_le_of_lt le l));
      most = le;
    }

-- x less what is no larger, both from 0 on
pub rest_most : {f : Format} {x y : Float} {X : ℕ} → Val f x false X → Most f y false X → Held f X → X < overflow f → Most f (sub f x y) false X
rest_most {f} {x} {y} {X} v m h l =
    round_most false (X - m.X) (2 ^ low f) X (sub_rest v m.val m.most) (pow_pos (low f)) h l (mul-le-mul_right (2 ^ low f) (sub-le X m.X))

-- the divisor is K smallest values at least
pub div_most : {f : Format} {x y : Float} {s t : Bool} {A Y : ℕ} (C K : ℕ) → Most f x s A → Val f y t Y → K ≤ Y → 0 < K → Held f C → C < overflow f → A * 2 ^ low f ≤ C * K → Most f (div f x y) (unlike s t) C
div_most {f} {x} {y} {s} {t} {A} {Y} C K h w k p c l b =
    round_most (unlike s t) h.X Y C (div_round h.val w (lt_of_lt_of_le p k)) (lt_of_lt_of_le p k) c l
    (le_trans (mul-le-mul_right (2 ^ low f) h.most) (le_trans b (mul-le-mul_left C k)))

pub narrow_most : {x : Float} {s : Bool} {A : ℕ} (C : ℕ) → Most binary64 x s A → Held binary32 C → C < overflow binary32 → A * 2 ^ 149 ≤ C * 2 ^ 1074 → Most binary32 (narrow_of x) s C
narrow_most {x} {s} {A} C h c l b = round_most s h.X (2 ^ 1074) C (narrow_round h.val) (pow_pos 1074) c l (le_trans (mul-le-mul_right (2 ^ 149) h.most) b)

pub mag_mul : {f : Format} {x y : Float} {A B : ℕ} (C : ℕ) → Mag f x A → Mag f y B → Held f C → C < overflow f → A * B ≤ C * 2 ^ low f → Mag f (mul f x y) C
mag_mul C h k c l b = mag_of (times_most C (most_of h) (most_of k) c l b)

pub mag_div : {f : Format} {x y : Float} {t : Bool} {A Y : ℕ} (C K : ℕ) → Mag f x A → Val f y t Y → K ≤ Y → 0 < K → Held f C → C < overflow f → A * 2 ^ low f ≤ C * K → Mag f (div f x y) C
mag_div C K h w k p c l b = mag_of (div_most C K (most_of h) w k p c l b)

pub mag_narrow : {x : Float} {A : ℕ} (C : ℕ) → Mag binary64 x A → Held binary32 C → C < overflow binary32 → A * 2 ^ 149 ≤ C * 2 ^ 1074 → Mag binary32 (narrow_of x) C
mag_narrow C h c l b = mag_of (narrow_most C (most_of h) c l b)

pub mag_cond : {f : Format} {x y : Float} {B : ℕ} (b : Bool) → Mag f x B → Mag f y B → Mag f (cond b x y) B
mag_cond true x y = x
mag_cond false x y = y
