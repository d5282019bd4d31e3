-- docs/CASES.md, "Values": what a word has to be, and when two values are the same. Assumes nothing.
use Rattle.std.specs.Prelude.{ℕ, Bool, true, false, cond, not, ◌&&◌, ◌||◌, ◌==◌, is_nan, nat_lt, to_bits, Float, Result, Ok, Err}
use Rattle.std.specs.Float.{Format}
use Rattle.test_lines.specs.declared.Word.{Word}
use Rattle.test_lines.specs.declared.Word.TheVariants.{Number, Name, End, Bad}
use Rattle.test_lines.specs.declared.values.Form.{Form}
use Rattle.test_lines.specs.declared.values.Form.TheVariants.{Single, Double, Whole, Truth}
use Rattle.test_lines.specs.declared.values.Role.{Role}
use Rattle.test_lines.specs.declared.values.Role.TheVariants.{Argument, Expected}
use Rattle.test_lines.specs.declared.values.Value.{Value}
use Rattle.test_lines.specs.declared.values.Value.TheVariants.{Bits, Nan}
use Rattle.test_lines.specs.declared.Malformed.{Malformed}

abbrev pub is_float : Form → Bool
is_float Single = true
is_float Double = true
is_float Whole = false
is_float Truth = false

-- only what is expected may be written `nan`
abbrev pub may_be_nan : Role → Bool
may_be_nan Argument = false
may_be_nan Expected = true

-- a pattern has its full width; a whole number has no 0, ASCII 48, in front; a truth value is 0 or 1
abbrev pub has_form : Form → ℕ → ℕ → ℕ → Bool
has_form Single first v digits = digits == 8
has_form Double first v digits = digits == 16
has_form Whole first v digits = digits == 1 || not (first == 48)
has_form Truth first v digits = digits == 1 && nat_lt v 2

abbrev pub malformed : Malformed
malformed = record {}

-- only an expected float is written `nan`
abbrev pub taken_of : Form → Bool → ℕ → Word → Result Value Malformed
taken_of form e first (Number v digits) = cond (has_form form first v digits) (Ok (Bits v)) (Err malformed)
taken_of form e first Word.Nan = cond (e && is_float form) (Ok Nan) (Err malformed)
taken_of form e first (Name a b) = Err malformed
taken_of form e first End = Err malformed
taken_of form e first Bad = Err malformed

abbrev pub pattern_of : Format → Float → Value
pattern_of f x = cond (is_nan x) Nan (Bits (to_bits f x))

-- bit by bit, a NaN with a NaN
abbrev pub agree_of : Value → Value → Bool
agree_of (Bits x) (Bits y) = x == y
agree_of (Bits x) Nan = false
agree_of Nan (Bits y) = false
agree_of Nan Nan = true
