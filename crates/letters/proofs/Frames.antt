-- The text of frames: its length and its characters. Assumes nothing.
use Rattle.std.proofs.Common.{◌≡◌, ℕ, ◌+◌, ◌*◌, ◌≤◌, List, [], ◌∷◌, ◌++◌, length, take, sym, refl, ap, ◌∙◌, append_assoc, append-nil, arith, length-append}
use Rattle.std.specs.List.{AllByRecursion}
use Rattle.std.proofs.ByRecursion.{All-append}
use Rattle.std.proofs.lemmas.List.{take_at}
use Rattle.hexadecimal.specs.Hex.{Hex, digits}
use Rattle.hexadecimal.proofs.Digits.{length_digits, digits_hex}
use Rattle.letters.specs.Parts.{Part, before, after, text, bytes}
use Rattle.letters.specs.Layout.{code_at, kind_of, parts_of, frame_of, line_of, size_of}
use Rattle.letters.specs.Reading.{Begins}
use Rattle.letters.specs.declared.kind.Kind.{Kind}
use Rattle.letters.specs.declared.kind.Kind.TheVariants as kind
use Rattle.letters.specs.declared.letter.Body.{Body}
use Rattle.letters.specs.declared.letter.Body.TheVariants.{Send, Ack, Done, SkipShare, Skip, ViewChange}
use Rattle.letters.specs.declared.letter.Letter.{Letter}

length_before : (ps : List Part) (rest : List ℕ) → length (before ps rest) ≡ 2 * bytes ps + length rest
length_before [] rest = omega arith
length_before (p ∷ ps) rest =
    length-append (digits (2 * p.0) p.1) (before ps rest)
    ∙ omega (arith, length_digits (2 * p.0) p.1, length_before ps rest)

pub after_is : (done : List ℕ) (ps : List Part) → after done ps ≡ done ++ text ps
after_is done [] = sym (append-nil done)
after_is done (p ∷ ps) = after_is (done ++ digits (2 * p.0) p.1) ps ∙ append_assoc done (digits (2 * p.0) p.1) (text ps)

text_hex : (ps : List Part) → AllByRecursion Hex (text ps)
text_hex [] = tt
text_hex (p ∷ ps) = All-append Hex (digits (2 * p.0) p.1) (text ps) (digits_hex (2 * p.0) p.1) (text_hex ps)

-- a letter's line is hexadecimal
pub line_hex : (l : Letter) → AllByRecursion Hex (line_of l)
line_hex l = text_hex (frame_of l)

pub codes : (k : Kind) → (17 ≤ code_at k) × (code_at k ≤ 22)
codes kind.Send = omega arith
codes kind.Ack = omega arith
codes kind.Done = omega arith
codes kind.SkipShare = omega arith
codes kind.Skip = omega arith
codes kind.ViewChange = omega arith

-- the lengths that are stated for the kinds are those of the layout
pub sized : (b : Body) → 4 + bytes (parts_of b) ≡ size_of (kind_of b)
sized (Send k) = refl
sized (Ack k) = refl
sized (Done k) = refl
sized (SkipShare k) = refl
sized (Skip k) = refl
sized (ViewChange k) = refl

pub line_long : (l : Letter) → length (line_of l) ≡ 2 * size_of (kind_of l.body)
line_long l = length_before (frame_of l) [] ∙ omega (arith, sized l.body)

pub size_range : (k : Kind) → (4 ≤ size_of k) × (size_of k ≤ 52)
size_range kind.Send = omega arith
size_range kind.Ack = omega arith
size_range kind.Done = omega arith
size_range kind.SkipShare = omega arith
size_range kind.Skip = omega arith
size_range kind.ViewChange = omega arith

pub begins : (line rest : List ℕ) (c : ℕ) → line ≡ digits 2 c ++ rest → Begins line c
begins line rest c e = ap (take 2) e ∙ take_at (digits 2 c) rest 2 (length_digits 2 c)
