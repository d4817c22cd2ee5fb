-- Which codes are those of a kind of letter, and the kinds by name.
-- A reader must believe: `Decodes`, the kind with the code or that no kind has it; `word_of`.
use Rattle.std.specs.Prelude.{◌≡◌, ℕ, List, codes, Ok, Err, Result, ◌≢◌}
use Rattle.letters.specs.declared.kind.Kind.{Kind}
use Rattle.letters.specs.declared.kind.Kind.TheVariants.{Send, Ack, Done, SkipShare, Skip, ViewChange}
use Rattle.letters.specs.declared.kind.UnknownCode.{UnknownCode}
use Rattle.letters.specs.Layout.{code_at}

-- the kind with the code, or that there is none
abbrev pub Decodes : ℕ → Result Kind UnknownCode → Type 0
Decodes code (Ok k) = code_at k ≡ code
Decodes code (Err e) = (k : Kind) → code_at k ≢ code

-- its name
abbrev pub word_of : Kind → List ℕ
word_of Send = codes "SEND"
word_of Ack = codes "ACK"
word_of Done = codes "DONE"
word_of SkipShare = codes "SKIP-SHARE"
word_of Skip = codes "SKIP"
word_of ViewChange = codes "VIEW-CHANGE"
