-- The points of a hull are directions: the real ones, the poles and the candidates. Assumes nothing.
use Rattle.std.proofs.Common.{ℕ, zero, suc, ◌*◌, ◌^◌, Bool, true, false, cond, not, ◌&&◌, [], ◌∷◌, ◌++◌, refl, zero-le, le_refl, lit≤}
use mathlib.Core.Option.{Option, none, some}
use lib.Ieee.{Float, binary64, of_bits}
use Rattle.lists.specs.Lists.{Each}
use Rattle.float_order.specs.Values.{+0, 1·0}
use Rattle.vector.specs.Vector.{Vector, Points}
use Rattle.layout_hull.specs.Triplets.{closed}
use Rattle.layout_closing.specs.Closing.{h, vector, poles, candidates, passed_over, with_pole, with_poles, wins, better, candidate_of, onward, closing, stages, final_points}
use Rattle.float_bounds.proofs.Units.{Val}
use Rattle.float_bounds.proofs.Size.{Mag, val_mag, mag_neg}
use Rattle.lists.proofs.Each.{Some, each_append, each_last, foldl_keeps}
use Rattle.theorem_layouts.proofs.Directions.{L, Direction}

-- ---- poles and candidates

zero_mag : Mag binary64 +0 L
zero_mag = val_mag L (record { has = (refl, refl) }) zero-le

one_mag : Mag binary64 1·0 L
one_mag = val_mag L (record { has = (refl, refl) }) (le_refl L)

h_val : Val binary64 h false (5200308914369309 * 2 ^ 1021)
unfolding of_bits
h_val = record { has = (refl, refl) }

h_mag : Mag binary64 h L
h_mag = val_mag L h_val (lit≤ tt)

toward : {a b c : Float} → Mag binary64 a L → Mag binary64 b L → Mag binary64 c L → Direction (vector a b c)
toward a b c = record { three = refl; unit = (a, (b, (c, tt))) }

infixr 5 ◌also◌
◌also◌ : {A B : Type 0} → A → B → A × B
a also b = (a, b)

poles_unit : Each Direction poles
poles_unit = toward zero_mag one_mag zero_mag also toward zero_mag (mag_neg one_mag) zero_mag also tt

candidates_unit : Each Direction candidates
candidates_unit =
    let o = zero_mag in
    let i = one_mag in
    let j = mag_neg one_mag in
    let a = h_mag in
    let b = mag_neg h_mag in
    toward o i o also toward o j o also toward o o i also toward o o j also toward i o o also toward j o o
    also toward a a a also toward b a a also toward a a b also toward b a b also toward a b a also toward b b a also toward a b b also toward b b b also tt

candidate_unit : (pts : Points) → Some Direction (candidate_of pts)
unfolding candidate_of better
candidate_unit pts =
    foldl_keeps (Some Direction) Direction (better pts) (λ b c d h. by (not (passed_over pts c) && wins pts c b) b c d h) candidates candidates_unit none tt
  where
    by : (t : Bool) (b : Option Vector) (c : Vector) → Direction c → Some Direction b → Some Direction (cond t (some c) b)
    by true b c d h = d
    by false b c d h = h

-- ---- the points of every stage

pole_unit : (pts : Points) (c : Vector) → Direction c → Each Direction pts → Each Direction (with_pole pts c)
unfolding with_pole
pole_unit pts c d u = by (passed_over pts c)
  where
    by : (b : Bool) → Each Direction (cond b pts (pts ++ c ∷ []))
    by true = u
    by false = each_append Direction pts (c ∷ []) u (d, tt)

closing_unit : (n : ℕ) (pts : Points) → Each Direction pts → Each (Each Direction) (closing n pts)
unfolding closing
closing_unit zero pts u = (u, tt)
closing_unit (suc n) pts u =
    (u, by (closed pts) (candidate_of pts) (candidate_unit pts) (λ c d. closing_unit n (pts ++ c ∷ []) (each_append Direction pts (c ∷ []) u (d, tt))))
  where
    by : (b : Bool) (o : Option Vector) → Some Direction o → ((c : Vector) → Direction c → Each (Each Direction) (closing n (pts ++ c ∷ [])))
        → Each (Each Direction) (elim b [ true ↦ [] | false ↦ onward (closing n) pts o ])
    by true o d k = tt
    by false none d k = tt
    by false (some c) d k = k c d

pub final_unit : (real : Points) → Each Direction real → Each Direction (final_points real)
unfolding final_points stages with_poles
final_unit real u =
    each_last (Each Direction) (stages real) [] tt
    (closing_unit _ (with_poles real) (foldl_keeps (Each Direction) Direction with_pole (λ pts c d e. pole_unit pts c d e) poles poles_unit real u))
