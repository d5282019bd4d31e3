-- Document 01, "A row" ("P's gains are the direction times the inverse of the speakers' matrix"): Pulkki 1997, the equations of VBAP for a pair and for a triplet, over exact numbers of any commutative ring.
-- The rows and determinants are those of Operations.antt, which the panner's floats use too. Before they are divided by the determinant, the rows times the speakers' matrix are the determinant times the identity: toward each speaker its own gain alone sounds. Proved in proofs/Pulkki.antt: `InverseOfTwo` by `inverse_of_two`, `InverseOfThree` by `inverse_of_three`. Assumes nothing.
use Rattle.std.specs.Prelude.{◌≡◌}
use mathlib.Mathlib.Algebra.Ring.Defs.{CommRing}
use Rattle.vector.specs.Operations.{Operations, Two, Three, dot_by, determinant_by, rows_by, pair_dot_by, pair_determinant_by, pair_rows_by}

module _ {R : Type 0} (𝓡 : CommRing R) where
  -- the ring's operations
  abbrev pub exact : Operations R
  exact = record { add = 𝓡.add; sub = λ p q. 𝓡.add p (𝓡.neg q); mul = 𝓡.mul; neg = 𝓡.neg }

  -- each row times each speaker's direction
  pub record PairInverse (a b : Two R) : Type 0 where
    pub first_a : pair_dot_by exact (pair_rows_by exact a b).first a ≡ pair_determinant_by exact a b
    pub first_b : pair_dot_by exact (pair_rows_by exact a b).first b ≡ 𝓡.zero
    pub second_a : pair_dot_by exact (pair_rows_by exact a b).second a ≡ 𝓡.zero
    pub second_b : pair_dot_by exact (pair_rows_by exact a b).second b ≡ pair_determinant_by exact a b

  pub record TripletInverse (a b c : Three R) : Type 0 where
    pub first_a : dot_by exact (rows_by exact a b c).first a ≡ determinant_by exact a b c
    pub first_b : dot_by exact (rows_by exact a b c).first b ≡ 𝓡.zero
    pub first_c : dot_by exact (rows_by exact a b c).first c ≡ 𝓡.zero
    pub second_a : dot_by exact (rows_by exact a b c).second a ≡ 𝓡.zero
    pub second_b : dot_by exact (rows_by exact a b c).second b ≡ determinant_by exact a b c
    pub second_c : dot_by exact (rows_by exact a b c).second c ≡ 𝓡.zero
    pub third_a : dot_by exact (rows_by exact a b c).third a ≡ 𝓡.zero
    pub third_b : dot_by exact (rows_by exact a b c).third b ≡ 𝓡.zero
    pub third_c : dot_by exact (rows_by exact a b c).third c ≡ determinant_by exact a b c

abbrev pub InverseOfTwo : Type 1
InverseOfTwo = (R : Type 0) (𝓡 : CommRing R) (a b : Two R) → PairInverse 𝓡 a b

abbrev pub InverseOfThree : Type 1
InverseOfThree = (R : Type 0) (𝓡 : CommRing R) (a b c : Three R) → TripletInverse 𝓡 a b c
