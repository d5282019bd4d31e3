-- docs/CASES.md, "Words": what the words of a line are. Bytes are ASCII codes. Assumes nothing.
use Rattle.std.specs.Prelude.{ℕ, suc, ◌+◌, ◌-◌, ◌*◌, Bool, true, false, cond, List, [], ◌∷◌, length, take, drop, ◌==◌, nat_le, nat_lt, Option, Some, None}
use Rattle.test_lines.specs.declared.Word.{Word}
use Rattle.test_lines.specs.declared.Word.TheVariants.{Number, Nan, Name, End, Bad}

-- the value of a lower-case hexadecimal digit, `0` to `9` and `a` to `f`; 16 for any other byte
abbrev pub digit_of : ℕ → ℕ
digit_of c = cond (nat_lt c 48) 16 (cond (nat_le c 57) (c - 48) (cond (nat_lt c 97) 16 (cond (nat_le c 102) (c - 97 + 10) 16)))

-- v, and the digits of w after it, the most significant first
unfoldable pub value_from : ℕ → List ℕ → Option ℕ
value_from v [] = Some v
value_from v (c ∷ w) = cond (nat_lt (digit_of c) 16) (value_from (v * 16 + digit_of c) w) None

-- a number is a word of 1 to 16 digits
abbrev pub number_of : List ℕ → Option ℕ
number_of w = cond (length w == 0) None (cond (nat_lt 16 (length w)) None (value_from 0 w))

-- how many bytes stand before the first b
unfoldable pub span_to : ℕ → List ℕ → ℕ
span_to b [] = 0
span_to b (c ∷ s) = cond (c == b) 0 (suc (span_to b s))

unfoldable pub same_of : List ℕ → List ℕ → Bool
same_of [] [] = true
same_of [] (d ∷ t) = false
same_of (c ∷ s) [] = false
same_of (c ∷ s) (d ∷ t) = cond (c == d) (same_of s t) false

-- lower-case letters, digits and `_`
abbrev pub is_name_byte : ℕ → Bool
is_name_byte c = cond (nat_lt c 48) false (cond (nat_le c 57) true (cond (c == 95) true (cond (nat_lt c 97) false (nat_le c 122))))

unfoldable pub all_name : List ℕ → Bool
all_name [] = true
all_name (c ∷ w) = cond (is_name_byte c) (all_name w) false

-- what is no digit and no `nan`
abbrev pub other_of : Option ℕ → List ℕ → ℕ → ℕ → Word
other_of (Some v) w from to = Number v (length w)
other_of None w from to = cond (all_name w) (Name from to) Bad

-- the word w, that stands from an index to another: `nan`, a number, or a name. No word is empty.
abbrev pub kind_of : List ℕ → ℕ → ℕ → Word
kind_of w from to = cond (length w == 0) Bad (cond (same_of w (110 ∷ 97 ∷ 110 ∷ [])) Nan (other_of (number_of w) w from to))

-- a word, and where the next one starts
pub record Step : Type 0 where
  pub word : Word
  pub next : ℕ

-- the word from an index of the line s to another, and the next one, which starts one further
abbrev pub step_to : List ℕ → ℕ → ℕ → Step
step_to s at e = record { word = kind_of (take (e - at) (drop at s)) at e; next = e + 1 }

-- the word that starts at an index ends at the next blank, ASCII 32, or at the line's end; none starts past the line's end
abbrev pub word_at : List ℕ → ℕ → Step
word_at s at = cond (nat_lt (length s) at) (record { word = End; next = at }) (step_to s at (at + span_to 32 (drop at s)))
