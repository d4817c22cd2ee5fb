-- A frame is a list of parts, each a number in a fixed count of bytes, the high byte first; its text
-- has two hexadecimal digits to the byte.
-- A reader must believe: `text` and `Fit`. `Took` says what a reader of parts does, `after` what a writer does.
use Rattle.std.specs.Prelude.{◌≡◌, ℕ, ◌+◌, ◌*◌, ◌^◌, ◌<◌, List, [], ◌∷◌, ◌++◌, length}
use Rattle.hexadecimal.specs.Hex.{digits}

-- how many bytes, and the number
abbrev pub Part : Type 0
Part = ℕ × ℕ

abbrev pub byte : ℕ → Part
byte n = (1, n)

abbrev pub short : ℕ → Part
short n = (2, n)

abbrev pub long : ℕ → Part
long n = (8, n)

-- the text of parts, and then the rest
abbrev pub before : List Part → List ℕ → List ℕ
before [] rest = rest
before (p ∷ ps) rest = digits (2 * p.0) p.1 ++ before ps rest

abbrev pub text : List Part → List ℕ
text ps = before ps []

-- what is done, and then the text of parts: `done ++ text ps`, in the order in which it is written
abbrev pub after : List ℕ → List Part → List ℕ
after done [] = done
after done (p ∷ ps) = after (done ++ digits (2 * p.0) p.1) ps

-- the bytes that parts take
abbrev pub bytes : List Part → ℕ
bytes [] = 0
bytes (p ∷ ps) = p.0 + bytes ps

-- each number fits its bytes
abbrev pub Fit : List Part → Type 0
Fit [] = Unit {0}
Fit (p ∷ ps) = (p.1 < 16 ^ (2 * p.0)) × Fit ps

-- parts were taken off the front of a text
pub record Took (ps : List Part) (entry exit : List ℕ) : Type 0 where
  pub text : entry ≡ before ps exit
  pub left : length exit + 2 * bytes ps ≡ length entry
  pub fits : Fit ps
