-- Document 01, "Returned numbers": the number of each refusal, and 0 where a call is accepted. Assumes nothing.
use Rattle.std.specs.Prelude.{ℕ, Result, Ok, Err}
use Rattle.refusals.specs.declared.Refusal.{Refusal}
use Rattle.refusals.specs.declared.Refusal.TheVariants.{NotTriples, TooManyPositions, NoSuchCount, TooManyTriplets, NoSuchSource, Full, NoneStands, BlockLength, SampleLength, OutputLength, Malformed}

abbrev pub number_of : Refusal → ℕ
number_of NotTriples = 1
number_of TooManyPositions = 2
number_of NoSuchCount = 3
number_of TooManyTriplets = 4
number_of NoSuchSource = 5
number_of Full = 6
number_of NoneStands = 7
number_of BlockLength = 8
number_of SampleLength = 9
number_of OutputLength = 10
number_of Malformed = 11

-- what a call returns to programs in other languages, by its answer
abbrev pub number_in : {A : Type 0} → Result A Refusal → ℕ
number_in (Ok _) = 0
number_in (Err why) = number_of why
