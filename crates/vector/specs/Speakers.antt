-- Document 01, "Layout"; source line 192: active speakers. Assumes nothing.
use Rattle.std.specs.Prelude.{ℕ, List, map}
use Rattle.vector.specs.Vector.{Points}
use Rattle.vector.specs.declared.Speaker.{Speaker}

unfoldable pub slots_of : List Speaker → List ℕ
slots_of act = map (λ s. s.slot) act

unfoldable pub dirs_of : List Speaker → Points
dirs_of act = map (λ s. s.dir) act
