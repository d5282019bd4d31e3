-- The rows of an inverse times the speakers' matrix: each product is a sum of products of the speakers' numbers, which cancel in pairs or are those of the determinant. Assumes nothing.
use mathlib.Core.Path.{◌≡◌, refl, sym, ap, ◌∙◌}
use mathlib.Mathlib.Algebra.Ring.Defs.{CommRing}
use Rattle.vector.specs.Operations.{Three, minor_by, dot_by, cross_by}
use Rattle.vector.specs.Pulkki.{exact, InverseOfTwo, InverseOfThree}

module _ {R : Type 0} (𝓡 : CommRing R) where
  infixl 65 ◌+◌
  abbrev ◌+◌ : R → R → R
  a + b = 𝓡.add a b

  infixl 70 ◌*◌
  abbrev ◌*◌ : R → R → R
  a * b = 𝓡.mul a b

  infixl 65 ◌-◌
  abbrev ◌-◌ : R → R → R
  a - b = 𝓡.add a (𝓡.neg b)

  -- ---- the laws of the ring

  mul_comm : (a b : R) → a * b ≡ b * a
  mul_comm = 𝓡.is_comm_ring.mul_comm

  mul_assoc : (a b c : R) → a * b * c ≡ a * (b * c)
  mul_assoc = 𝓡.is_comm_ring.is_ring.is_semiring.is_non_unital_semiring.mul_assoc

  right_distrib : (a b c : R) → (a + b) * c ≡ a * c + b * c
  right_distrib = 𝓡.is_comm_ring.is_ring.is_semiring.is_non_unital_semiring.is_non_unital_non_assoc_semiring.right_distrib

  zero-mul : (a : R) → 𝓡.zero * a ≡ 𝓡.zero
  zero-mul = 𝓡.is_comm_ring.is_ring.is_semiring.is_non_unital_semiring.is_non_unital_non_assoc_semiring.zero-mul

  add_comm : (a b : R) → a + b ≡ b + a
  add_comm = 𝓡.is_comm_ring.is_ring.is_semiring.is_non_unital_semiring.is_non_unital_non_assoc_semiring.is_add_comm_monoid.add_comm

  add_assoc : (a b c : R) → a + b + c ≡ a + (b + c)
  add_assoc = 𝓡.is_comm_ring.is_ring.is_semiring.is_non_unital_semiring.is_non_unital_non_assoc_semiring.is_add_comm_monoid.is_add_monoid.is_add_semigroup.add_assoc

  zero-add : (a : R) → 𝓡.zero + a ≡ a
  zero-add = 𝓡.is_comm_ring.is_ring.is_semiring.is_non_unital_semiring.is_non_unital_non_assoc_semiring.is_add_comm_monoid.is_add_monoid.zero-add

  neg_add_cancel : (a : R) → 𝓡.neg a + a ≡ 𝓡.zero
  neg_add_cancel = 𝓡.is_comm_ring.is_ring.neg-add_cancel

  sub_self : (a : R) → a - a ≡ 𝓡.zero
  sub_self a = add_comm a (𝓡.neg a) ∙ neg_add_cancel a

  add-zero : (a : R) → a + 𝓡.zero ≡ a
  add-zero a = add_comm a 𝓡.zero ∙ zero-add a

  -- what sums to zero with b is its negative
  neg_unique : (a b : R) → a + b ≡ 𝓡.zero → a ≡ 𝓡.neg b
  neg_unique a b h = sym (add-zero a) ∙ ap (λ (n : R). a + n) (sym (sub_self b)) ∙ sym (add_assoc a b (𝓡.neg b)) ∙ ap (λ (n : R). n - b) h ∙ zero-add (𝓡.neg b)

  neg_mul : (a b : R) → 𝓡.neg a * b ≡ 𝓡.neg (a * b)
  neg_mul a b = neg_unique (𝓡.neg a * b) (a * b) (sym (right_distrib (𝓡.neg a) a b) ∙ ap (λ (n : R). n * b) (neg_add_cancel a) ∙ zero-mul b)

  -- ---- sums of differences

  add_four : (a b c d : R) → a + b + (c + d) ≡ a + c + (b + d)
  add_four a b c d =
      add_assoc a b (c + d)
      ∙ ap (λ (n : R). a + n) (sym (add_assoc b c d) ∙ ap (λ (n : R). n + d) (add_comm b c) ∙ add_assoc c b d)
      ∙ sym (add_assoc a c (b + d))

  neg_add : (a b : R) → 𝓡.neg a + 𝓡.neg b ≡ 𝓡.neg (a + b)
  neg_add a b =
      neg_unique (𝓡.neg a + 𝓡.neg b) (a + b)
      (add_four (𝓡.neg a) (𝓡.neg b) a b ∙ ap (λ (n : R). n + (𝓡.neg b + b)) (neg_add_cancel a) ∙ zero-add (𝓡.neg b + b) ∙ neg_add_cancel b)

  diff_add : (a b c d : R) → (a - b) + (c - d) ≡ (a + c) - (b + d)
  diff_add a b c d = add_four a (𝓡.neg b) c (𝓡.neg d) ∙ ap (λ (n : R). a + c + n) (neg_add b d)

  diffs_add : (a b c d e f : R) → (a - b) + (c - d) + (e - f) ≡ (a + c + e) - (b + d + f)
  diffs_add a b c d e f = ap (λ (n : R). n + (e - f)) (diff_add a b c d) ∙ diff_add (a + c) (b + d) e f

  diffs_none : (a b c d e f : R) → a + c + e ≡ b + d + f → (a - b) + (c - d) + (e - f) ≡ 𝓡.zero
  diffs_none a b c d e f h = diffs_add a b c d e f ∙ ap (λ (n : R). n - (b + d + f)) h ∙ sub_self (b + d + f)

  sum_two : {a b c d : R} → a ≡ c → b ≡ d → a + b ≡ c + d
  sum_two h g = cc

  sum_three : {a b c d e f : R} → a ≡ d → b ≡ e → c ≡ f → a + b + c ≡ d + e + f
  sum_three h g k = cc

  turned : (a b c : R) → a + b + c ≡ b + c + a
  turned a b c = add_assoc a b c ∙ add_comm a (b + c)

  -- ---- products of three

  swap_ends : (p q r : R) → p * q * r ≡ r * q * p
  swap_ends p q r = mul_comm (p * q) r ∙ ap (λ (n : R). r * n) (mul_comm p q) ∙ sym (mul_assoc r q p)

  swap_last : (p q r : R) → p * q * r ≡ p * r * q
  swap_last p q r = mul_assoc p q r ∙ ap (λ (n : R). p * n) (mul_comm q r) ∙ sym (mul_assoc p r q)

  last_first : (p q r : R) → p * q * r ≡ r * p * q
  last_first p q r = mul_comm (p * q) r ∙ sym (mul_assoc r p q)

  minor_mul : (p q r s t : R) → minor_by (exact 𝓡) p q r s * t ≡ p * q * t - r * s * t
  minor_mul p q r s t = right_distrib (p * q) (𝓡.neg (r * s)) t ∙ ap (λ (n : R). p * q * t + n) (neg_mul (r * s) t)

  module _ (a b c : Three R) where
    -- (a × b) · c
    expanded : dot_by (exact 𝓡) (cross_by (exact 𝓡) a b) c
        ≡ (a.y * b.z * c.x - a.z * b.y * c.x) + (a.z * b.x * c.y - a.x * b.z * c.y) + (a.x * b.y * c.z - a.y * b.x * c.z)
    expanded =
        sum_three (minor_mul a.y b.z a.z b.y c.x) (minor_mul a.z b.x a.x b.z c.y)
        (minor_mul a.x b.y a.y b.x c.z)

  dot_comm : (a b : Three R) → dot_by (exact 𝓡) a b ≡ dot_by (exact 𝓡) b a
  dot_comm a b = sum_three (mul_comm a.x b.x) (mul_comm a.y b.y) (mul_comm a.z b.z)

  -- ---- the products of the rows

  module _ (a b : Three R) where
    first_none : dot_by (exact 𝓡) (cross_by (exact 𝓡) a b) a ≡ 𝓡.zero
    first_none =
        expanded a b a
        ∙ diffs_none _ _ _ _ _ _
        (sum_three (swap_ends a.y b.z a.x) (swap_ends a.z b.x a.y) (swap_ends a.x b.y a.z)
        ∙ sym (turned (a.z * b.y * a.x) (a.x * b.z * a.y) (a.y * b.x * a.z)))

    second_none : dot_by (exact 𝓡) (cross_by (exact 𝓡) a b) b ≡ 𝓡.zero
    second_none =
        expanded a b b
        ∙ diffs_none _ _ _ _ _ _
        (sum_three (swap_last a.y b.z b.x) (swap_last a.z b.x b.y) (swap_last a.x b.y b.z)
        ∙ turned (a.y * b.x * b.z) (a.z * b.y * b.x) (a.x * b.z * b.y))

  module _ (a b c : Three R) where
    raised : c.y * a.z * b.x + c.z * a.x * b.y + c.x * a.y * b.z ≡ b.y * c.z * a.x + b.z * c.x * a.y + b.x * c.y * a.z
    raised =
        sum_three (last_first c.y a.z b.x) (last_first c.z a.x b.y) (last_first c.x a.y b.z)
        ∙ turned (b.x * c.y * a.z) (b.y * c.z * a.x) (b.z * c.x * a.y)

    lowered : c.z * a.y * b.x + c.x * a.z * b.y + c.y * a.x * b.z ≡ b.z * c.y * a.x + b.x * c.z * a.y + b.y * c.x * a.z
    lowered =
        sum_three (last_first c.z a.y b.x) (last_first c.x a.z b.y) (last_first c.y a.x b.z)
        ∙ sym (turned (b.z * c.y * a.x) (b.x * c.z * a.y) (b.y * c.x * a.z))

    turn : dot_by (exact 𝓡) (cross_by (exact 𝓡) c a) b ≡ dot_by (exact 𝓡) (cross_by (exact 𝓡) b c) a
    turn =
        expanded c a b
        ∙ diffs_add _ _ _ _ _ _
        ∙ ap (λ (n : R). n - (c.z * a.y * b.x + c.x * a.z * b.y + c.y * a.x * b.z)) raised
        ∙ ap (λ (n : R). (b.y * c.z * a.x + b.z * c.x * a.y + b.x * c.y * a.z) - n) lowered
        ∙ sym (expanded b c a ∙ diffs_add _ _ _ _ _ _)

pub inverse_of_two : InverseOfTwo
inverse_of_two R 𝓡 a b =
    record {
      first_a = sum_two 𝓡 (mul_comm 𝓡 b.z a.x) (neg_mul 𝓡 b.x a.z);
      first_b = sum_two 𝓡 (mul_comm 𝓡 b.z b.x) (neg_mul 𝓡 b.x b.z) ∙ sub_self 𝓡 (𝓡.mul b.x b.z);
      second_a = sum_two 𝓡 (neg_mul 𝓡 a.z a.x ∙ ap 𝓡.neg (mul_comm 𝓡 a.z a.x)) refl ∙ neg_add_cancel 𝓡 (𝓡.mul a.x a.z);
      second_b = sum_two 𝓡 (neg_mul 𝓡 a.z b.x ∙ ap 𝓡.neg (mul_comm 𝓡 a.z b.x)) refl ∙ add_comm 𝓡 (𝓡.neg (𝓡.mul b.x a.z)) (𝓡.mul a.x b.z);
    }

pub inverse_of_three : InverseOfThree
inverse_of_three R 𝓡 a b c =
    let whole = dot_comm 𝓡 (cross_by (exact 𝓡) b c) a in
    record {
      first_a = whole;
      first_b = first_none 𝓡 b c;
      first_c = second_none 𝓡 b c;
      second_a = second_none 𝓡 c a;
      second_b = turn 𝓡 a b c ∙ whole;
      second_c = first_none 𝓡 c a;
      third_a = first_none 𝓡 a b;
      third_b = second_none 𝓡 a b;
      third_c = turn 𝓡 b c a ∙ turn 𝓡 a b c ∙ whole;
    }
