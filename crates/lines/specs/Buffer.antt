-- What a line buffer holds: the first 512 characters that came, and whether more came.
-- A reader must believe: `Fronts` of Damage.antt.
use Rattle.std.specs.Prelude.{ℕ, List}
use Rattle.lines.specs.Damage.{Fronts}
use Rattle.lines.specs.declared.buffer.LineBuffer.{LineBuffer}

-- the buffer holds this line
abbrev pub Holds : LineBuffer → List ℕ → Type 0
Holds buffer line = Fronts buffer.kept.items buffer.longer line
