-- Document 01, refusals 2 and 3: how many sources and outputs there may be. Assumes nothing.
use Rattle.std.specs.Prelude.{ℕ}

-- how many sources there may be. Origin: document 01, refusal 3.
abbrev pub most_sources : ℕ
most_sources = 8

-- the places of a row, one for each output. Origin: document 01, refusal 2, at most 40 outputs.
abbrev pub row_places : ℕ
row_places = 40
