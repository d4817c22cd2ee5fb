-- The layout of a letter's line: the one place where codes, fields, their order and widths stand.
-- A reader must believe: `code_at`, `kind_of` and `parts_of`. `size_of` only names the lengths that follow.
use Rattle.std.specs.Prelude.{ℕ, List, [], ◌∷◌}
use Rattle.letters.specs.Parts.{Part, byte, short, long, text, Fit}
use Rattle.letters.specs.declared.letter.Body.{Body}
use Rattle.letters.specs.declared.letter.Body.TheVariants.{Send, Ack, Done, SkipShare, Skip, ViewChange}
use Rattle.letters.specs.declared.letter.Letter.{Letter}
use Rattle.letters.specs.declared.kind.Kind.{Kind}
use Rattle.letters.specs.declared.kind.Kind.TheVariants as kind

-- the codes, hexadecimal 11 to 16
abbrev pub code_at : Kind → ℕ
code_at kind.Send = 17
code_at kind.Ack = 18
code_at kind.Done = 19
code_at kind.SkipShare = 20
code_at kind.Skip = 21
code_at kind.ViewChange = 22

-- the kind of a letter that says this
abbrev pub kind_of : Body → Kind
kind_of (Send k) = kind.Send
kind_of (Ack k) = kind.Ack
kind_of (Done k) = kind.Done
kind_of (SkipShare k) = kind.SkipShare
kind_of (Skip k) = kind.Skip
kind_of (ViewChange k) = kind.ViewChange

-- its code
abbrev pub code_of : Body → ℕ
code_of b = code_at (kind_of b)

-- the fields after the view
abbrev pub parts_of : Body → List Part
parts_of (Send k) = byte k.step ∷ long k.edition ∷ short k.key_view ∷ long k.mask ∷ []
parts_of (Ack k) = byte k.lead ∷ byte k.step ∷ long k.edition ∷ []
parts_of (Done k) = long k.edition ∷ long k.mask ∷ []
parts_of (SkipShare k) = []
parts_of (Skip k) = long k.mask ∷ []
parts_of (ViewChange k) = long k.key.edition ∷ long k.key.mask ∷ long k.lock.edition ∷ long k.lock.mask ∷ long k.commit.edition ∷ long k.commit.mask ∷ []

-- code, sender, view, and the fields of the kind
abbrev pub frame_of : Letter → List Part
frame_of l = byte (code_of l.body) ∷ byte l.sender ∷ short l.view ∷ parts_of l.body

-- the line of a letter
abbrev pub line_of : Letter → List ℕ
line_of l = text (frame_of l)

-- each field fits its bytes, as every letter of the program does: a number here has no bound
abbrev pub Fits : Letter → Type 0
Fits l = Fit (frame_of l)

-- how many bytes a frame of this kind has
abbrev pub size_of : Kind → ℕ
size_of kind.Send = 23
size_of kind.Ack = 14
size_of kind.Done = 20
size_of kind.SkipShare = 4
size_of kind.Skip = 12
size_of kind.ViewChange = 52
