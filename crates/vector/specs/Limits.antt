-- Document 01, "Layout" ("imaginary points, poles counted, are below 14"): how many imaginary points there are at most. Assumes nothing.
use Rattle.std.specs.Prelude.{ℕ}

-- MAX_IMAGINARY, poles counted. Origin: vbap.rs line 60 and document 01.
abbrev pub max_imaginary : ℕ
max_imaginary = 14
