-- What a line comes to in the listing.
-- A reader must believe: `Entered`, what an entry says of a line's text. `Comes` is the same of a line
-- as it is handed over, whoever made it.
use Rattle.std.specs.Prelude.{◌≡◌, ℕ, ◌<◌, ◌≤◌, List, length, Ok, Err}
use Rattle.lines.specs.Judged.{IsNote}
use Rattle.lines.specs.declared.damage.Layer.TheVariants.{Text}
use Rattle.lines.specs.declared.line.Line.{Line}
use Rattle.lines.specs.declared.line.Line.TheVariants as line
use Rattle.letters.specs.Reading.{DamagedIn, IsLine, Read}
use Rattle.listing.specs.declared.entry.Entry.{Entry}
use Rattle.listing.specs.declared.entry.Entry.TheVariants.{Note, Letter, Damaged}

-- a note; the letter whose line it is; or damage, in a note only past its 512 characters
abbrev pub Entered : List ℕ → Entry → Type 0
Entered text Note = IsNote text × (length text ≤ 512)
Entered text (Letter l) = IsLine text l
Entered text (Damaged d) = (IsNote text → (512 < length text) × (d.layer ≡ Text) × (d.column ≡ 513)) × ((IsNote text → ⊥) → DamagedIn d.layer text d.column)

-- a text read as a letter, as an entry
abbrev pub ReadAs : List ℕ → Entry → Type 0
ReadAs text Note = ⊥
ReadAs text (Letter l) = Read text (Ok l)
ReadAs text (Damaged d) = Read text (Err d)

-- a note is a note, a frame what it reads as, and a line damaged in its text is damaged there
abbrev pub Comes : Line → Entry → Type 0
Comes (line.Note number part) e = e ≡ Note
Comes (line.Frame number part) e = ReadAs part.now e
Comes (line.Damaged number column part) e = e ≡ Damaged (record { layer = Text; column = column })
