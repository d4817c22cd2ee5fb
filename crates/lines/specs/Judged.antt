-- What a line is: a note, a frame, or damaged in its text.
-- A reader must believe: the three cases of `Judged`.
use Rattle.std.specs.Prelude.{◌≡◌, ℕ, ◌<◌, ◌≤◌, ◌⊎◌, List, length, take, slice_index}
use Rattle.lines.specs.Damage.{DamagedAt, Sound}
use Rattle.lines.specs.declared.line.Line.{Line}
use Rattle.lines.specs.declared.line.Line.TheVariants.{Note, Frame, Damaged}

-- a note is empty, or starts with a semicolon (59)
abbrev pub IsNote : List ℕ → Type 0
IsNote text = (length text ≡ 0) ⊎ ((0 < length text) × (slice_index text 0 ≡ 59))

-- the number that a line carries
abbrev pub number_of : Line → ℕ
number_of (Note number part) = number
number_of (Frame number part) = number
number_of (Damaged number column part) = number

-- what the line with this text and number is; its part is the text, of an overlong one the first 512
abbrev pub Judged : List ℕ → ℕ → Line → Type 0
Judged text n (Note number part) = (number ≡ n) × (part.now ≡ text) × IsNote text × (length text ≤ 512)
Judged text n (Frame number part) = (number ≡ n) × (part.now ≡ text) × (IsNote text → ⊥) × Sound text
Judged text n (Damaged number column part) = (number ≡ n) × (part.now ≡ take 512 text) × (IsNote text → (512 < length text) × (column ≡ 513)) × ((IsNote text → ⊥) → DamagedAt text column)
