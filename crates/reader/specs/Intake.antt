-- An input that comes in byte by byte: what is known of the line that came in last, and what a byte did.
-- A reader must believe: `Last` and the two cases of `CameAs`, and the three cases of `Did`.
use Rattle.std.specs.Prelude.{◌≡◌, ℕ, zero, suc, ◌+◌, ◌<◌, Bool, true, false, ◌⊎◌, List, [], length, ◌≢◌}
use Rattle.std.specs.List.{ContainsAt}
use Rattle.lines.specs.Buffer.{Holds}
use Rattle.lines.specs.Lines.{rest_after, line_after}
use Rattle.lines.specs.declared.buffer.LineBuffer.{LineBuffer}
use Rattle.reader.specs.declared.intake.Intake.{Intake}
use Rattle.reader.specs.declared.intake.Progress.{Progress}
use Rattle.reader.specs.declared.intake.Progress.TheVariants.{Inside, Ended, Past}

-- where the line that has k lines before it stands: it has begun and no 0a (10) has come, or its 0a
-- has come, and then nothing more has, unless it is line 65,535
abbrev pub Stands : List ℕ → ℕ → Bool → Type 0
Stands input k true = (0 < length (rest_after k input)) × (ContainsAt (rest_after k input) 10 → ⊥)
Stands input k false = ContainsAt (rest_after k input) 10 × ((rest_after (suc k) input ≡ []) ⊎ (suc k ≡ 65535))

-- the line that has k lines before it came in last, and the buffer holds it
pub record Last (input : List ℕ) (buffer : LineBuffer) (k : ℕ) (opened : Bool) : Type 0 where
  pub few : k < 65535
  pub whole : (j : ℕ) → j < k → ContainsAt (rest_after j input) 10
  pub held : Holds buffer (line_after k input)
  pub stands : Stands input k opened

-- this input came in: nothing, or a last line, whose number counts it too
abbrev pub CameAs : List ℕ → LineBuffer → ℕ → Bool → Type 0
CameAs input buffer zero opened = (input ≡ []) × (opened ≡ false)
CameAs input buffer (suc k) opened = Last input buffer k opened

abbrev pub Came : List ℕ → Intake → Type 0
Came input s = CameAs input s.line s.number s.open

-- a line takes the next byte: the one that is open, or a new one
abbrev pub Room : Bool → ℕ → Type 0
Room opened number = (opened ≡ true) ⊎ (number < 65535)

-- the number of the line that takes it
abbrev pub number_then : Bool → ℕ → ℕ
number_then true number = number
number_then false number = number + 1

-- what a byte did, by whether a line was open and the number before the byte, and both after it
abbrev pub Did : Bool → ℕ → ℕ → Bool → ℕ → Progress → Type 0
Did opened number byte opened' number' Inside = Room opened number × (byte ≢ 10) × (opened' ≡ true) × (number' ≡ number_then opened number)
Did opened number byte opened' number' Ended = Room opened number × (byte ≡ 10) × (opened' ≡ false) × (number' ≡ number_then opened number)
Did opened number byte opened' number' Past = (opened ≡ false) × (number ≡ 65535) × (opened' ≡ false) × (number' ≡ number)
