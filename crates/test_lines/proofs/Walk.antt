-- What each definition of specs/Words.antt says of a list from an index on: at its end, and one byte further. Assumes nothing.
use Rattle.std.proofs.Common.{◌≡◌, ltb, ltb-false, Option, Some, None, ℕ, suc, ◌+◌, ◌-◌, ◌*◌, ◌^◌, ◌<◌, ◌≤◌, Bool, true, false, ◌&&◌, cond, eqb, List, [], ◌∷◌, length, get_or, take, drop, min, length-take, refl, sym, ap, ◌∙◌, suc-le-suc, zero-le, add-one, arith, length-drop, drop_of_length-le, drop-cons, pow_mono, pow-add, le-ltb, lt-ltb}
use Rattle.std.proofs.lemmas.Bool.{cond-true, cond-false}
use Rattle.std.specs.List.{position_or_len, list_all}
use Rattle.std.specs.Str.{bytes_eq}
use Rattle.std.specs.Option.{unwrap_or}
use Rattle.std.proofs.lemmas.List.Recursion.{is_position_or_len}
use Rattle.test_lines.specs.Words.{digit_of, value_from, span_to, same_of, is_name_byte, all_name, number_of, other_of, kind_of}

-- the list from an index on is the byte there and the list from the next index on
pub from_index : (w : List ℕ) (i : ℕ) → i < length w → drop i w ≡ get_or w i 0 ∷ drop (i + 1) w
from_index w i h = rw add-one (drop-cons w i 0 h)

-- numbers
pub value_end : (v : ℕ) (w : List ℕ) (i : ℕ) → length w ≤ i → value_from v (drop i w) ≡ Some v
unfolding value_from
value_end v w i h = ap (value_from v) (drop_of_length-le w h)

pub value_digit : (v : ℕ) (w : List ℕ) (i : ℕ) → i < length w → digit_of (get_or w i 0) < 16 → value_from v (drop i w) ≡ value_from (v * 16 + digit_of (get_or w i 0)) (drop (i + 1) w)
unfolding value_from
value_digit v w i h d = ap (value_from v) (from_index w i h) ∙ cond-true _ _ None (lt-ltb _ 16 d)

pub value_other : (v : ℕ) (w : List ℕ) (i : ℕ) → i < length w → 16 ≤ digit_of (get_or w i 0) → value_from v (drop i w) ≡ None
unfolding value_from
value_other v w i h d = ap (value_from v) (from_index w i h) ∙ cond-false _ (value_from (v * 16 + digit_of (get_or w i 0)) (drop (i + 1) w)) None (le-ltb _ 16 d)

-- i digits hold less than 2 ^ (4 * i), and 16 of them fit 64 bits
pub digits_fit : (v i n : ℕ) → v < 2 ^ (4 * i) → i < n → n ≤ 16 → v * 16 + 16 ≤ 2 ^ 64
digits_fit v i n hv hi hn =
    let a : v + 1 ≤ 2 ^ 60 = le_trans' hv (pow_mono {i = 4 * i} {j = 60} (omega arith)) in
    omega arith
  where
    le_trans' : {a b c : ℕ} → a < b → b ≤ c → a + 1 ≤ c
    le_trans' h k = omega arith

pub more : (v i d : ℕ) → v < 2 ^ (4 * i) → d < 16 → v * 16 + d < 2 ^ (4 * (i + 1))
more v i d hv hd =
    let p : 2 ^ (4 * (i + 1)) ≡ 2 ^ (4 * i) * 16 = ap (λ (n : ℕ). 2 ^ n) (omega arith) ∙ pow-add 2 (4 * i) 4 in
    omega arith

-- the first byte b
pub span_is : (b : ℕ) (s : List ℕ) → span_to b s ≡ position_or_len (λ (c : ℕ). eqb c b) s
unfolding span_to
span_is b s = is_position_or_len (span_to b) (λ (c : ℕ). eqb c b) refl (λ c r. ap (cond (eqb c b) 0) (omega arith)) s

span_le : (b : ℕ) (s : List ℕ) → span_to b s ≤ length s
unfolding span_to
span_le b [] = zero-le
span_le b (c ∷ s) = at_test (span_le b s) (eqb c b)
  where
    at_test : span_to b s ≤ length s → (t : Bool) → cond t 0 (suc (span_to b s)) ≤ suc (length s)
    at_test h true = zero-le
    at_test h false = suc-le-suc h

pub span_or_end : (b : ℕ) (s : List ℕ) → unwrap_or (cond (ltb (position_or_len (λ (c : ℕ). eqb c b) s) (length s)) (Some (position_or_len (λ (c : ℕ). eqb c b) s)) None) (length s) ≡ span_to b s
span_or_end b s = rw (← span_is b s) (at_test (ltb (span_to b s) (length s)) refl)
  where
    at_test : (t : Bool) → ltb (span_to b s) (length s) ≡ t → unwrap_or (cond t (Some (span_to b s)) None) (length s) ≡ span_to b s
    at_test true e = refl
    at_test false e = let l = span_le b s in let g = ltb-false _ _ e in omega arith

-- it lies within the list
pub span_within : (b n : ℕ) (s : List ℕ) (i : ℕ) → n ≡ span_to b (take (length s - i) (drop i s)) → i ≤ length s → i + n ≤ length s
span_within b n s i e h =
    let a : span_to b (take (length s - i) (drop i s)) ≤ min (length s - i) (length s - i) = rw (length-take, length-drop) at (span_le b (take (length s - i) (drop i s))) in
    omega arith

-- the same words
pub same_is : (a b : List ℕ) → same_of a b ≡ bytes_eq a b
unfolding same_of
same_is [] [] = refl
same_is [] (d ∷ t) = refl
same_is (c ∷ s) [] = refl
same_is (c ∷ s) (d ∷ t) = at_test (eqb c d) (same_is s t)
  where
    at_test : (e : Bool) → same_of s t ≡ bytes_eq s t → cond e (same_of s t) false ≡ (e && bytes_eq s t)
    at_test true h = h
    at_test false h = refl

pub same_by : (w v n : List ℕ) (r : Bool) → v ≡ n → r ≡ bytes_eq w v → same_of w n ≡ r
same_by w v n r e h = same_is w n ∙ ap (bytes_eq w) (sym e) ∙ sym h

-- names
pub name_is : (w : List ℕ) → all_name w ≡ list_all is_name_byte w
unfolding all_name
name_is [] = refl
name_is (c ∷ w) = at_test (is_name_byte c) (name_is w)
  where
    at_test : (e : Bool) → all_name w ≡ list_all is_name_byte w → cond e (all_name w) false ≡ (e && list_all is_name_byte w)
    at_test true h = h
    at_test false h = refl

-- what a word is that is neither empty nor `nan`
pub kind_by : (w v : List ℕ) (from to : ℕ) (e r : Bool) (o : Option ℕ) → e ≡ eqb (length w) 0 → e ≡ false → v ≡ 110 ∷ 97 ∷ 110 ∷ [] → r ≡ bytes_eq w v → r ≡ false → o ≡ number_of w → other_of o w from to ≡ kind_of w from to
kind_by w v from to e r o z y a b n h = simp (sym z ∙ y, same_by w v _ r a b ∙ n) (ap (λ (p : Option ℕ). other_of p w from to) (h ∙ cond-false (eqb (length w) 0) None (cond (ltb 16 (length w)) None (value_from 0 w)) (sym z ∙ y)))
