-- Document 01, "Returned numbers": the answers of `new`, by number, and of active speakers that make a hull. Assumes nothing.
use Rattle.std.specs.Prelude.{ℕ, cond, List, Option, None, Some}
use Rattle.vector.specs.declared.Speaker.{Speaker}
use Rattle.vector.specs.Speakers.{dirs_of}
use Rattle.layout_closing.specs.Closing.{overfull}
use Rattle.layout_record.specs.Shape.{Shape, silent, mono, hull, Layout, imaginary_in}
use Rattle.layout_record.specs.Panner.{laid, no_panner}
use Rattle.layout_new.specs.Layout.{build_hull_of, NewAnswer}

unfoldable pub accepted : Layout → NewAnswer
accepted l = record { number = 0; panner = laid l; imaginary = imaginary_in l.shape }

unfoldable pub refused_by : ℕ → NewAnswer
refused_by why = record { number = why; panner = no_panner; imaginary = 0 }

-- the layout of no active speaker, and of one in its slot
abbrev pub alone : Option ℕ → Shape
alone None = silent
alone (Some slot) = mono slot

-- n outputs, and active speakers that make a hull
unfoldable pub hull_built_of : ℕ → List Speaker → NewAnswer
hull_built_of n act = cond (overfull (dirs_of act)) (refused_by 4) (accepted (record { outputs = n; shape = hull (build_hull_of act) }))
