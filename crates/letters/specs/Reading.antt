-- What reading a line as a letter answers, and writing a letter as a line.
-- A reader must believe: layer 1 comes before layer 2; the reasons of layer 2 and their columns.
use Rattle.std.specs.Prelude.{◌≡◌, ℕ, ◌+◌, ◌*◌, ◌<◌, ◌≤◌, ◌⊎◌, List, ◌++◌, length, take, drop, Ok, Err, Result, MatchResult, ◌≢◌}
use Rattle.hexadecimal.specs.Hex.{digits}
use Rattle.lines.specs.Damage.{DamagedAt, Sound}
use Rattle.lines.specs.declared.damage.Damage.{Damage}
use Rattle.lines.specs.declared.damage.Layer.{Layer}
use Rattle.lines.specs.declared.damage.Layer.TheVariants.{Text, Frame}
use Rattle.refusals.specs.declared.Refusal.{Refusal}
use Rattle.refusals.specs.declared.Refusal.TheVariants.{BufferTooShort}
use Rattle.letters.specs.Layout.{code_at, line_of, size_of, Fits}
use Rattle.letters.specs.declared.kind.Kind.{Kind}
use Rattle.letters.specs.declared.letter.Letter.{Letter}

-- the line begins with this code
abbrev pub Begins : List ℕ → ℕ → Type 0
Begins line code = take 2 line ≡ digits 2 code

-- no kind of letter has the line's code
abbrev pub UnknownCode : List ℕ → Type 0
UnknownCode line = (2 ≤ length line) × ((k : Kind) → Begins line (code_at k) → ⊥)

-- the line is too short for a code, or has another length than letters with its code
abbrev pub WrongLength : List ℕ → Type 0
WrongLength line = (length line < 2) ⊎ ((k : Kind) × Begins line (code_at k) × (length line ≢ 2 * size_of k))

-- a sound line is damaged in its frame: an unknown code at the code, a wrong length one past the end
abbrev pub FrameDamaged : List ℕ → ℕ → Type 0
FrameDamaged line column = (UnknownCode line × (column ≡ 1)) ⊎ (WrongLength line × (column ≡ length line + 1))

-- damage in the frame, at this column
abbrev pub in_frame : ℕ → Damage
in_frame column = record { layer = Frame; column = column }

-- where a line that is no letter is damaged: in its text, or, where that is sound, in its frame
abbrev pub DamagedIn : Layer → List ℕ → ℕ → Type 0
DamagedIn Text line column = DamagedAt line column
DamagedIn Frame line column = Sound line × FrameDamaged line column

-- this is the line of this letter
abbrev pub IsLine : List ℕ → Letter → Type 0
IsLine line l = (line ≡ line_of l) × Fits l

-- what reading a line answers: the letter whose line it is, or where it is damaged
abbrev pub Read : List ℕ → Result Letter Damage → Type 0
Read line r = MatchResult r (IsLine line) (λ d. DamagedIn d.layer line d.column)

-- the rule leaves no choice: no other answer meets it
abbrev pub Sole : List ℕ → Result Letter Damage → Type 0
Sole line r = (s : Result Letter Damage) → Read line s → s ≡ r

-- the law, one way: a line that reads as a letter is that letter's line, so no other line reads as it
abbrev pub OnlyLine : {E : Type 0} → List ℕ → Result Letter E → Type 0
OnlyLine line r = (l : Letter) → r ≡ Ok l → line ≡ line_of l

-- the law, the other way: the line of a letter reads as that letter
abbrev pub ReadsBack : {E : Type 0} → List ℕ → Result Letter E → Type 0
ReadsBack line r = (l : Letter) → Fits l → line ≡ line_of l → r ≡ Ok l

-- what writing a line into a buffer leaves: the line and then the buffer as it was, and the line's
-- length; or a buffer too short for it, untouched
abbrev pub Written : List ℕ → List ℕ → List ℕ → Result ℕ Refusal → Type 0
Written line before after (Ok n) = (n ≡ length line) × (n ≤ length before) × (after ≡ line ++ drop n before)
Written line before after (Err e) = (e ≡ BufferTooShort) × (length before < length line) × (after ≡ before)
